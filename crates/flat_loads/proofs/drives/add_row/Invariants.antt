use Rattle.std.proofs.Common.{◌≡◌, ℕ, false, ◌&&◌, ◌||◌, ◌≤◌, length, drop, map}
use Rattle.std.specs.Prelude.{nat_lt, nat_le, slice_index_or}
use Rattle.flat_flows.specs.Ranges.{in_range}
use Rattle.flat_loads.proofs.drives.add_row.Given as goal

abbrev pub invariant-loop-i : goal.invariant-loop-i
invariant-loop-i l = record {
  long : length l.set ≡ length l.fn.set;
  has : (k : ℕ) → slice_index_or l.set k false || (nat_lt k (length l.fn.set) && (nat_le l.i k && nat_lt k l.i-end)) ≡ slice_index_or l.fn.set k false || (nat_lt k (length l.fn.set) && in_range l.fn.range k);
}
