use Rattle.std.proofs.Common.{◌≡◌, ℕ, false, ◌&&◌, ◌||◌, ◌≤◌, length, drop, map}
use Rattle.std.specs.Prelude.{nat_lt, nat_le, slice_index_or}
use Rattle.flat_design.specs.Flows.{left_drives}
use Rattle.flat_loads.proofs.drives.add_left.Given as goal

abbrev pub invariant-loop-part : goal.invariant-loop-part
invariant-loop-part l = record {
  long : length l.set ≡ length l.fn.set;
  has : (k : ℕ) → slice_index_or l.set k false || (nat_lt k (length l.fn.set) && left_drives l.nets (drop l.part-index l.left) k) ≡ slice_index_or l.fn.set k false || (nat_lt k (length l.fn.set) && left_drives l.nets l.left k);
}
