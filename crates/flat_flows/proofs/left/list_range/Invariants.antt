use Rattle.std.proofs.Common.{◌≡◌, ℕ, not, ◌&&◌, ◌||◌}
use Rattle.std.specs.Prelude.{nat_le, nat_lt}
use Rattle.flat_orders.specs.Orders.{among}
use Rattle.flat_flows.specs.Tables.{in_table}
use Rattle.flat_flows.proofs.left.list_range.Given as goal

-- the list with the rest of the row is that with the whole
abbrev pub invariant-loop-i : goal.invariant-loop-i
invariant-loop-i l = (i : ℕ) → (among i l.into.items || ((nat_le l.i i && nat_lt i l.fn.range.end) && not (in_table l.shut i))) ≡ (among i l.fn.into.items || ((nat_le l.fn.range.first i && nat_lt i l.fn.range.end) && not (in_table l.shut i)))
