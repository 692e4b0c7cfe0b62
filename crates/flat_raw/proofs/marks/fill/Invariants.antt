use Rattle.std.proofs.Common.{◌≡◌, ℕ, false, ◌&&◌, ◌||◌, length, drop}
use Rattle.std.specs.Prelude.{nat_lt, slice_index_or}
use Rattle.flat_orders.specs.Orders.{among}
use Rattle.flat_raw.proofs.marks.fill.Given as goal

abbrev pub invariant-loop-number : goal.invariant-loop-number
invariant-loop-number l = record {
  long : length l.set ≡ length l.fn.set;
  filled : (k : ℕ) → slice_index_or l.set k false || (nat_lt k (length l.fn.set) && among k (drop l.number-index l.numbers)) ≡ slice_index_or l.fn.set k false || (nat_lt k (length l.fn.set) && among k l.numbers);
}
