use Rattle.std.proofs.Common.{◌≡◌, ◌++◌, drop}
use Rattle.rdl_values.specs.Instances.{next_with}
use Rattle.rdl_values.proofs.instance.note_next.Given as goal

abbrev pub invariant-loop-next : goal.invariant-loop-next
invariant-loop-next l = l.out.items ++ next_with l.component (drop l.next-index l.insts) ≡ l.fn.out.items ++ next_with l.component l.insts
