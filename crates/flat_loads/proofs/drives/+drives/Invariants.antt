use Rattle.std.proofs.Common.{◌≡◌, ℕ, false, ◌&&◌, ◌||◌, ◌≤◌, length, drop, map}
use Rattle.std.specs.Prelude.{nat_lt, nat_le, slice_index_or}
use Rattle.flat_design.specs.Prices as spec
use Rattle.flat_loads.specs.Parts as parts
use Rattle.flat_loads.proofs.drives.+drives.Given as goal

abbrev pub invariant-add_all-loop-stmt : goal.invariant-add_all-loop-stmt
invariant-add_all-loop-stmt l = record {
  long : length l.set ≡ length l.fn.set;
  has : (k : ℕ) → slice_index_or l.set k false || (nat_lt k (length l.fn.set) && spec.drives_of_all (map (spec.load l.nets) (drop l.stmt-index l.body)) k) ≡ slice_index_or l.fn.set k false || (nat_lt k (length l.fn.set) && spec.drives_of_all (map (spec.load l.nets) l.body) k);
}

abbrev pub invariant-add_arms-loop-arm : goal.invariant-add_arms-loop-arm
invariant-add_arms-loop-arm l = record {
  long : length l.set ≡ length l.fn.set;
  has : (k : ℕ) → slice_index_or l.set k false || (nat_lt k (length l.fn.set) && spec.arms_drive (map (parts.arm_load l.nets) (drop l.arm-index l.arms)) k) ≡ slice_index_or l.fn.set k false || (nat_lt k (length l.fn.set) && spec.arms_drive (map (parts.arm_load l.nets) l.arms) k);
}
