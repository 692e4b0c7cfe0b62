use Rattle.std.proofs.Common.{◌≡◌, ℕ, ◌&&◌, ◌||◌, drop}
use Rattle.flat_orders.specs.Orders.{among}
use Rattle.flat_flows.specs.Tables.{in_table}
use Rattle.flat_flows.proofs.walk.those_in.Given as goal

-- those so far and those of the rest are those of all
abbrev pub invariant-loop-number : goal.invariant-loop-number
invariant-loop-number l = (i : ℕ) → (among i l.those.items || (among i (drop l.number-index l.numbers) && in_table l.set i)) ≡ (among i l.numbers && in_table l.set i)
