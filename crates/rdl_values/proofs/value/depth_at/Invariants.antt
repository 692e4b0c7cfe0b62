use Rattle.std.proofs.Common.{◌≡◌, ◌+◌, drop}
use Rattle.rdl_values.specs.Values.{depth_at}
use Rattle.rdl_values.proofs.value.depth_at.Given as goal

abbrev pub invariant-loop-depth : goal.invariant-loop-depth
invariant-loop-depth l = l.depth + depth_at (drop l.depth l.trail) l.property ≡ depth_at l.trail l.property
