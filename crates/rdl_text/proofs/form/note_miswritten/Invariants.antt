use Rattle.std.proofs.Common.{◌≡◌, ◌++◌, drop}
use Rattle.rdl_text.specs.Forms.{miswritten}
use Rattle.rdl_text.proofs.form.note_miswritten.Given as goal

abbrev pub invariant-loop-entry : goal.invariant-loop-entry
invariant-loop-entry l = l.out.items ++ miswritten (drop l.entry-index l.entries) ≡ l.fn.out.items ++ miswritten l.entries
