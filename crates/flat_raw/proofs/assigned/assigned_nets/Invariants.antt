use Rattle.std.proofs.Common.{◌≡◌, ◌++◌, map, drop}
use Rattle.flat_raw.specs.Assigned as spec
use Rattle.flat_raw.proofs.assigned.assigned_nets.Given as goal

abbrev pub invariant-loop-item : goal.invariant-loop-item
invariant-loop-item l = l.out.items ++ spec.all_nets (map spec.item_nets (drop l.item-index l.items)) ≡ spec.all_nets (map spec.item_nets l.items)
