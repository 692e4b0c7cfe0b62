use Rattle.std.proofs.Common.{◌≡◌, ℕ, ◌&&◌, ◌||◌}
use Rattle.std.specs.Prelude.{nat_lt, nat_le}
use Rattle.flat_orders.specs.Orders.{among}
use Rattle.flat_flows.specs.Ranges.{in_range}
use Rattle.flat_drives.proofs.open.push_range.Given as goal

abbrev pub invariant-loop-i : goal.invariant-loop-i
invariant-loop-i l = (k : ℕ) → among k l.out.items || (nat_le l.i k && nat_lt k l.i-end) ≡ among k l.fn.out.items || in_range l.fn.range k
