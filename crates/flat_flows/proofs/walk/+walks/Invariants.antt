use Rattle.std.proofs.Common.{◌≡◌, ℕ, ◌||◌, ◌++◌, List, map, drop, length}
use Rattle.std.specs.Prelude.{MatchOption, None, false}
use Rattle.flat_design.specs.Flows as spec
use Rattle.flat_orders.specs.Orders.{among}
use Rattle.flat_flows.specs.declared.found.Found.{Found}
use Rattle.flat_flows.specs.Tables.{in_table}
use Rattle.flat_flows.specs.Walks.{Same, Fixes, Adds, Walked}
use Rattle.flat_flows.specs.Arms.{arms_before}
use Rattle.flat_flows.proofs.walk.+walks.Given as goal

-- what is sure now is what was sure and what the statements so far fix; a walk over the others ends a walk over all
abbrev pub invariant-walk_all-loop-s : goal.invariant-walk_all-loop-s
invariant-walk_all-loop-s l = record {
  sure : (i : ℕ) → in_table l.sure i ≡ (in_table l.fn.sure i || among i l.fixed.items);
  walked : (final : Found) (more : List ℕ) → Walked (spec.all_before (map (spec.flow l.nets) (drop l.s-index l.body))) l.sure l.found final more → Walked (spec.all_before (map (spec.flow l.nets) l.body)) l.fn.sure l.fn.found final (l.fixed.items ++ more);
}

abbrev pub invariant-walk_arms-loop-i : goal.invariant-walk_arms-loop-i
invariant-walk_arms-loop-i l = record {
  none : l.rest ≡ None → (l.fn.last ≡ None) × (l.i ≡ length l.arms);
  sure : Same l.sure l.fn.sure;
  adds : (g : spec.Flow) (first : Found) → Adds g l.fn.sure first l.fn.found → Adds (arms_before l.nets (drop l.i l.arms) g) l.fn.sure first l.found;
  fixes : (g : spec.Flow) → MatchOption l.fn.last ((i : ℕ) → g.leaves i ≡ false) (λ r. Fixes g l.fn.sure r.items) → MatchOption l.rest ((i : ℕ) → (arms_before l.nets (drop l.i l.arms) g).leaves i ≡ false) (λ r. Fixes (arms_before l.nets (drop l.i l.arms) g) l.fn.sure r.items);
}
