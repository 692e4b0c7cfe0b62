use Rattle.std.proofs.Common.{◌≡◌, ℕ, false, ◌&&◌, ◌||◌, ◌≤◌, ◌++◌, length, drop}
use Rattle.std.specs.Prelude.{nat_lt, nat_le, not}
use Rattle.flat_orders.specs.Orders.{among}
use Rattle.flat_flows.specs.Ranges.{in_range}
use Rattle.flat_flows.specs.Tables.{in_table}
use Rattle.flat_drives.specs.Drives as spec
use Rattle.flat_drives.specs.Listed.{nets_of}
use Rattle.flat_drives.proofs.bits.nets_of.Given as goal

abbrev pub invariant-loop-bit : goal.invariant-loop-bit
invariant-loop-bit l = l.nets.items ++ nets_of l.owners (drop l.bit-index l.bits) ≡ nets_of l.owners l.bits
