use Rattle.std.proofs.Common.{◌≡◌, ◌+◌, ◌≤◌, ◌&&◌, min, map, drop}
use Rattle.std.specs.List.{list_all}
use Rattle.flat_design.specs.Prices as spec
use Rattle.flat_cost.specs.Cuts.{limit}
use Rattle.flat_cost.proofs.price.+price.Given as goal

abbrev pub invariant-join_price-loop-part : goal.invariant-join_price-loop-part
invariant-join_price-loop-part l = record {
  small : l.cost ≤ limit;
  constant : l.constant && list_all (λ p. p.constant) (map (spec.price l.nets) (drop l.part-index l.parts)) ≡ list_all (λ p. p.constant) (map (spec.price l.nets) l.parts);
  cost : min (l.cost + spec.cost_of_all (map (spec.price l.nets) (drop l.part-index l.parts))) limit ≡ min (spec.cost_of_all (map (spec.price l.nets) l.parts)) limit;
}
