use Rattle.std.proofs.Common.{◌≡◌, ◌<◌, ◌^◌, ℕ, length, slice_get, Some}
use Rattle.field_policies.specs.declared.field.Field.{Field}
use Rattle.machine_map_tests.proofs.plain.machine_at.Given as goal

abbrev pub invariant-loop-n : goal.invariant-loop-n
invariant-loop-n l = record {
  values_size : length l.values.items ≡ l.n;
  used_size : length l.used.items ≡ l.n;
  known_size : length l.known.items ≡ l.n;
  fit : (k : ℕ) (x : ℕ) → slice_get l.values.items k ≡ Some x → (f : Field) → slice_get l.map.fields.items k ≡ Some f → x < 2 ^ f.width;
}
