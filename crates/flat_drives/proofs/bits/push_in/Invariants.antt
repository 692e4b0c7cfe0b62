use Rattle.std.proofs.Common.{◌≡◌, ℕ, false, ◌&&◌, ◌||◌, ◌≤◌, ◌++◌, length, drop}
use Rattle.std.specs.Prelude.{nat_lt, nat_le, not}
use Rattle.flat_orders.specs.Orders.{among}
use Rattle.flat_flows.specs.Ranges.{in_range}
use Rattle.flat_flows.specs.Tables.{in_table}
use Rattle.flat_drives.specs.Drives as spec
use Rattle.flat_drives.specs.Listed.{nets_of}
use Rattle.flat_drives.proofs.bits.push_in.Given as goal

abbrev pub invariant-loop-number : goal.invariant-loop-number
invariant-loop-number l = (i : ℕ) → among i l.out.items || (among i (drop l.number-index l.numbers) && (in_table l.a i || in_table l.b i)) ≡ among i l.fn.out.items || (among i l.numbers && (in_table l.a i || in_table l.b i))
