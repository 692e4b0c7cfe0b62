use Rattle.std.proofs.Common.{◌≡◌, ℕ, ◌||◌, drop}
use Rattle.flat_orders.specs.Orders.{among}
use Rattle.flat_drives.specs.Drives as spec
use Rattle.flat_drives.proofs.open.output_bits.Given as goal

abbrev pub invariant-loop-net : goal.invariant-loop-net
invariant-loop-net l = (i : ℕ) → among i l.out.items || spec.output_bits (drop l.net-index l.nets) i ≡ spec.output_bits l.nets i
