use Rattle.std.proofs.Common.{◌≡◌, take}
use Rattle.rdl_values.proofs.frame.trail_to.Given as goal

abbrev pub invariant-loop-at : goal.invariant-loop-at
invariant-loop-at l = l.trail.items ≡ take l.at l.up
