use Rattle.std.proofs.Common.{◌≡◌, drop}
use Rattle.rdl_text.specs.Assignments.{are_same_steps}
use Rattle.rdl_text.proofs.assignment.are_equal_steps.Given as goal

abbrev pub invariant-loop-at : goal.invariant-loop-at
invariant-loop-at l = are_same_steps (drop l.at l.a) (drop l.at l.b) ≡ are_same_steps l.a l.b
