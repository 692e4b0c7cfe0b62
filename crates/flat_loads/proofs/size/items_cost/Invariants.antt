use Rattle.std.proofs.Common.{◌≡◌, ◌+◌, ◌≤◌, min, drop, map, sum, false, replicate}
use Rattle.flat_design.specs.Bits.{bits_in}
use Rattle.flat_design.specs.Prices.{item_cost}
use Rattle.flat_cost.specs.Cuts.{limit}
use Rattle.flat_loads.proofs.size.items_cost.Given as goal

abbrev pub invariant-loop-item : goal.invariant-loop-item
invariant-loop-item l = record {
  small : l.cost ≤ limit;
  empty : l.set ≡ replicate (bits_in l.nets) false;
  cost : min (l.cost + sum (map (item_cost l.nets) (drop l.item-index l.items))) limit ≡ min (sum (map (item_cost l.nets) l.items)) limit;
}
