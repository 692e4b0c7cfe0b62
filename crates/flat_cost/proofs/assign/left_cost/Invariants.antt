use Rattle.std.proofs.Common.{◌≡◌, ◌+◌, ◌≤◌, min, drop}
use Rattle.flat_design.specs.Prices as spec
use Rattle.flat_cost.specs.Cuts.{limit}
use Rattle.flat_cost.proofs.assign.left_cost.Given as goal

abbrev pub invariant-loop-part : goal.invariant-loop-part
invariant-loop-part l = record { small : l.cost ≤ limit; cost : min (l.cost + spec.left_cost l.nets (drop l.part-index l.left)) limit ≡ min (spec.left_cost l.nets l.left) limit }
