use Rattle.std.proofs.Common.{◌≡◌, ℕ, true, take}
use Rattle.flat_orders.specs.Orders.{among}
use Rattle.flat_flows.specs.Tables.{in_table}
use Rattle.flat_loops.proofs.graph.outside.Given as goal

-- those so far are in the set
abbrev pub invariant-loop-number : goal.invariant-loop-number
invariant-loop-number l = (j : ℕ) → among j (take l.number-index l.numbers) ≡ true → in_table l.set j ≡ true
