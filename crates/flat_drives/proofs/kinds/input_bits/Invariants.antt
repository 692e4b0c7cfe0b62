use Rattle.std.proofs.Common.{◌≡◌, ℕ, false, ◌&&◌, ◌||◌, ◌≤◌, ◌++◌, length, drop}
use Rattle.std.specs.Prelude.{nat_lt, nat_le, not}
use Rattle.flat_orders.specs.Orders.{among}
use Rattle.flat_flows.specs.Ranges.{in_range}
use Rattle.flat_flows.specs.Tables.{in_table}
use Rattle.flat_drives.specs.Drives as spec
use Rattle.flat_drives.specs.Listed.{nets_of}
use Rattle.flat_drives.proofs.kinds.input_bits.Given as goal

abbrev pub invariant-loop-net : goal.invariant-loop-net
invariant-loop-net l = (i : ℕ) → in_table l.marks i || spec.input_bits (drop l.net-index l.nets) i ≡ spec.input_bits l.nets i
