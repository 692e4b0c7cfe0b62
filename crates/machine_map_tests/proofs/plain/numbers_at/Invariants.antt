use Rattle.std.proofs.Common.{◌≡◌, ◌<◌, ◌^◌, ℕ, length, slice_get, Some}
use Rattle.field_policies.specs.declared.signal.HwInput.{HwInput}
use Rattle.machine_map_tests.proofs.plain.numbers_at.Given as goal

abbrev pub invariant-loop-k : goal.invariant-loop-k
invariant-loop-k l = record {
  size : length l.numbers.items ≡ l.k;
  fit : (j : ℕ) (x : ℕ) → slice_get l.numbers.items j ≡ Some x → (h : HwInput) → slice_get l.map.inputs.items j ≡ Some h → x < 2 ^ h.width;
}
