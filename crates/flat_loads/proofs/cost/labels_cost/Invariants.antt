use Rattle.std.proofs.Common.{◌≡◌, ◌+◌, ◌≤◌, min, drop}
use Rattle.flat_cost.specs.Cuts.{limit}
use Rattle.flat_loads.specs.Parts.{labels_cost}
use Rattle.flat_loads.proofs.cost.labels_cost.Given as goal

abbrev pub invariant-loop-label : goal.invariant-loop-label
invariant-loop-label l = record { small : l.cost ≤ limit; cost : min (l.cost + labels_cost l.nets l.bits (drop l.label-index l.labels)) limit ≡ min (labels_cost l.nets l.bits l.labels) limit }
