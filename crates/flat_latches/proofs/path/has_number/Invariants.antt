use Rattle.std.proofs.Common.{◌≡◌, drop}
use Rattle.flat_orders.specs.Orders.{among}
use Rattle.flat_latches.proofs.path.has_number.Given as goal

-- the number is in the list where it is in the rest
abbrev pub invariant-loop-n : goal.invariant-loop-n
invariant-loop-n l = among l.number (drop l.n-index l.numbers) ≡ among l.number l.numbers
