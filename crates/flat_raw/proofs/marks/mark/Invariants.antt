use Rattle.std.proofs.Common.{◌≡◌, ℕ, false, ◌&&◌, ◌||◌, length, drop}
use Rattle.std.specs.Prelude.{nat_lt, slice_index_or}
use Rattle.flat_orders.specs.Orders.{among}
use Rattle.flat_raw.proofs.marks.mark.Given as goal

abbrev pub invariant-loop-number : goal.invariant-loop-number
invariant-loop-number l = (k : ℕ) → slice_index_or l.table k false || (nat_lt k (length l.table) && among k (drop l.number-index l.numbers)) ≡ slice_index_or l.fn.table k false || (nat_lt k (length l.table) && among k l.numbers)
