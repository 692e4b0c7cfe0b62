use Rattle.std.proofs.Common.{◌≡◌, ℕ, not, ◌&&◌, drop}
use Rattle.flat_orders.specs.Orders.{among}
use Rattle.flat_flows.specs.Tables.{in_table}
use Rattle.flat_flows.proofs.marks.Marks.remove_all.Given as goal

abbrev pub invariant-loop-number : goal.invariant-loop-number
invariant-loop-number l = (i : ℕ) → (in_table l.self i && not (among i (drop l.number-index l.numbers))) ≡ (in_table l.fn.self i && not (among i l.numbers))
