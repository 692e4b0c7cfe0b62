use Rattle.std.proofs.Common.{◌≡◌, ◌++◌, drop}
use Rattle.rdl_text.specs.Forms.{misshaped_next}
use Rattle.rdl_text.proofs.form.note_misshaped_next.Given as goal

abbrev pub invariant-loop-next : goal.invariant-loop-next
invariant-loop-next l = l.out.items ++ misshaped_next l.of_field (drop l.next-index l.insts) ≡ l.fn.out.items ++ misshaped_next l.of_field l.insts
