use Rattle.std.proofs.Common.{◌≡◌, ℕ, false, ◌&&◌, ◌||◌, ◌≤◌, ◌++◌, length, drop}
use Rattle.std.specs.Prelude.{nat_lt, nat_le, not}
use Rattle.flat_orders.specs.Orders.{among}
use Rattle.flat_flows.specs.Ranges.{in_range}
use Rattle.flat_flows.specs.Tables.{in_table}
use Rattle.flat_drives.specs.Drives as spec
use Rattle.flat_drives.specs.Listed.{nets_of}
use Rattle.flat_drives.proofs.kinds.mark_row.Given as goal

abbrev pub invariant-loop-i : goal.invariant-loop-i
invariant-loop-i l = (k : ℕ) → in_table l.marks k || (nat_le l.i k && nat_lt k l.i-end) ≡ in_table l.fn.marks k || in_range l.fn.range k
