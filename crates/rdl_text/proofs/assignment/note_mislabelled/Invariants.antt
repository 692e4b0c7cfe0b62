use Rattle.std.proofs.Common.{◌≡◌, ◌++◌, drop}
use Rattle.rdl_text.specs.Assignments.{mislabelled}
use Rattle.rdl_text.proofs.assignment.note_mislabelled.Given as goal

abbrev pub invariant-loop-entry : goal.invariant-loop-entry
invariant-loop-entry l = l.out.items ++ mislabelled (drop l.entry-index l.entries) ≡ l.fn.out.items ++ mislabelled l.entries
