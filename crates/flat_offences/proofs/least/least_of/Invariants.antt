use Rattle.std.proofs.Common.{◌≡◌, ◌≤◌, ℕ, true, take}
use Rattle.flat_orders.specs.Orders.{among}
use Rattle.flat_offences.proofs.least.least_of.Given as goal

abbrev pub invariant-loop-number : goal.invariant-loop-number
invariant-loop-number l = record { there : among l.least l.numbers ≡ true; least : (m : ℕ) → among m (take l.number-index l.numbers) ≡ true → l.least ≤ m }
