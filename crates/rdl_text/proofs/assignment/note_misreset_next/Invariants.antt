use Rattle.std.proofs.Common.{◌≡◌, ◌++◌, drop}
use Rattle.rdl_text.specs.Assignments.{misreset_next}
use Rattle.rdl_text.proofs.assignment.note_misreset_next.Given as goal

abbrev pub invariant-loop-next : goal.invariant-loop-next
invariant-loop-next l = l.out.items ++ misreset_next l.wrong (drop l.next-index l.insts) ≡ l.fn.out.items ++ misreset_next l.wrong l.insts
