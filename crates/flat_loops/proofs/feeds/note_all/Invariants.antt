use Rattle.std.proofs.Common.{◌≡◌, ℕ, take}
use Rattle.std.specs.Prelude.{Some, if◌then◌else◌}
use Rattle.flat_orders.specs.Orders.{among}
use Rattle.flat_loops.specs.Feeding.{driver_at}
use Rattle.flat_loops.proofs.feeds.note_all.Given as goal

-- the bits so far have the driver
abbrev pub invariant-loop-bit : goal.invariant-loop-bit
invariant-loop-bit l = (i : ℕ) → driver_at l.table.items i ≡ (if among i (take l.bit-index l.bits) then Some l.driver else driver_at l.fn.table.items i)
