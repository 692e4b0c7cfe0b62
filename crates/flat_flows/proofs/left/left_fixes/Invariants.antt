use Rattle.std.proofs.Common.{◌≡◌, ℕ, not, ◌&&◌, ◌||◌, drop}
use Rattle.flat_design.specs.Flows as spec
use Rattle.flat_orders.specs.Orders.{among}
use Rattle.flat_flows.specs.Tables.{in_table}
use Rattle.flat_flows.proofs.left.left_fixes.Given as goal

-- the list with what the other parts write is what all parts write
abbrev pub invariant-loop-part : goal.invariant-loop-part
invariant-loop-part l = (i : ℕ) → (among i l.fixed.items || (spec.left_fixes l.nets (drop l.part-index l.left) i && not (in_table l.shut i))) ≡ (spec.left_fixes l.nets l.left i && not (in_table l.shut i))
