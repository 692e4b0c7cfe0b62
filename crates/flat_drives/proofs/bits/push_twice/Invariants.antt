use Rattle.std.proofs.Common.{◌≡◌, ℕ, false, ◌&&◌, ◌||◌, ◌≤◌, ◌++◌, length, drop}
use Rattle.std.specs.Prelude.{nat_lt, nat_le, not}
use Rattle.flat_orders.specs.Orders.{among}
use Rattle.flat_flows.specs.Ranges.{in_range}
use Rattle.flat_flows.specs.Tables.{in_table}
use Rattle.flat_drives.specs.Drives as spec
use Rattle.flat_drives.specs.Listed.{nets_of}
use Rattle.flat_design.specs.Flows.{left_drives}
use Rattle.flat_drives.proofs.bits.push_twice.Given as goal

abbrev pub invariant-loop-j : goal.invariant-loop-j
invariant-loop-j l = record {
  seen : (i : ℕ) → in_table l.seen i ≡ left_drives l.nets (drop l.j l.left) i;
  twice : (i : ℕ) → among i l.out.items ≡ among i l.fn.out.items || spec.twice l.nets (drop l.j l.left) i;
}
