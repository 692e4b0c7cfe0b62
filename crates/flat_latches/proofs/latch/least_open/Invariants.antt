use Rattle.std.proofs.Common.{◌&&◌, not, take}
use Rattle.flat_orders.specs.Orders.{among}
use Rattle.flat_flows.specs.Tables.{in_table}
use Rattle.flat_latches.specs.Latches.{IsLeast}
use Rattle.flat_latches.proofs.latch.least_open.Given as goal

-- the least of those so far
abbrev pub invariant-loop-number : goal.invariant-loop-number
invariant-loop-number l = IsLeast l.least (λ i. among i (take l.number-index l.numbers) && not (in_table l.shut i))
