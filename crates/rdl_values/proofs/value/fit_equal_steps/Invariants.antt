use Rattle.std.proofs.Common.{◌≡◌, drop}
use Rattle.rdl_values.specs.Values.{fit_steps}
use Rattle.rdl_values.proofs.value.fit_equal_steps.Given as goal

abbrev pub invariant-loop-at : goal.invariant-loop-at
invariant-loop-at l = fit_steps (drop l.at l.steps) (drop l.at l.frames) ≡ fit_steps l.steps l.frames
