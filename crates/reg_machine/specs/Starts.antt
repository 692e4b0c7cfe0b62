-- What no edge changes: what holds of the start of a machine, and stays.
use Rattle.std.specs.Prelude.{◌≡◌, ℕ, true, false, List, Some, slice_get}
use Rattle.field_policies.specs.declared.field.Field.{Field}
use Rattle.reg_machine.specs.Steps.{Edge}
use Rattle.reg_machine.specs.States.{State, value_in, used_in, known_in, reset_state, next_state}

-- a wire's entry is 0, a field that isn't once is never used up, and one that starts known is known
pub record KeepsStart (fields : List Field) (s : State) : Type 0 where
  pub wire : (n : ℕ) (f : Field) → slice_get fields n ≡ Some f → f.wire ≡ true → value_in s n ≡ 0
  pub unused : (n : ℕ) (f : Field) → slice_get fields n ≡ Some f → f.once ≡ false → used_in s n ≡ false
  pub known : (n : ℕ) (f : Field) → slice_get fields n ≡ Some f → f.starts_known ≡ true → known_in s n ≡ true

-- so after reset
abbrev pub ResetKeepsStart : Type 0
ResetKeepsStart = (fields : List Field) → KeepsStart fields (reset_state fields)

-- and so after an edge
abbrev pub EdgeKeepsStart : Type 0
EdgeKeepsStart = (e : Edge) (s : State) → KeepsStart e.view.fields s → KeepsStart e.view.fields (next_state e s)
