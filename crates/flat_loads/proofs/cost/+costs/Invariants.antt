use Rattle.std.proofs.Common.{◌≡◌, ◌+◌, ◌≤◌, min, drop, map, sum, false, replicate}
use Rattle.flat_design.specs.Bits.{bits_in}
use Rattle.flat_design.specs.Prices.{load}
use Rattle.flat_cost.specs.Cuts.{limit}
use Rattle.flat_loads.specs.Parts.{arm_cost, arm_load}
use Rattle.flat_loads.proofs.cost.+costs.Given as goal

abbrev pub invariant-all_cost-loop-stmt : goal.invariant-all_cost-loop-stmt
invariant-all_cost-loop-stmt l = record {
  small : l.cost ≤ limit;
  empty : l.set ≡ l.fn.set;
  cost : min (l.cost + sum (map (λ l. l.cost) (map (load l.nets) (drop l.stmt-index l.body)))) limit ≡ min (sum (map (λ l. l.cost) (map (load l.nets) l.body))) limit;
}

abbrev pub invariant-arms_cost-loop-arm : goal.invariant-arms_cost-loop-arm
invariant-arms_cost-loop-arm l = record {
  small : l.cost ≤ limit;
  empty : l.set ≡ l.fn.set;
  cost : min (l.cost + sum (map (arm_cost l.bits) (map (arm_load l.nets) (drop l.arm-index l.arms)))) limit ≡ min (sum (map (arm_cost l.bits) (map (arm_load l.nets) l.arms))) limit;
}
