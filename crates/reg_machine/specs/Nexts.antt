-- The reset state of the first fields, and the next state of the fields up to one, while the others
-- still have their old flags.
use Rattle.std.specs.Prelude.{◌≡◌, ℕ, ◌<◌, ◌≤◌, ◌^◌, Bool, true, false, List, Some, if◌then◌else◌, map, slice_get, slice_index, slice_index_or}
use Rattle.field_policies.specs.declared.field.Field.{Field}
use Rattle.field_policies.specs.Bits.{AreBitsOf}
use Rattle.reg_machine.specs.Steps.{Edge, next_bit, next_used, next_known}

-- one field's value and flags before and after an edge
pub record IsNextState (e : Edge) (f : Field) (value : ℕ) (used known : Bool) (value' : ℕ) (used' known' : Bool) : Type 0 where
  pub stored : f.wire ≡ false → AreBitsOf f.width (next_bit e f used value) value'
  pub wire : f.wire ≡ true → value' ≡ value
  pub flag : used' ≡ next_used e f used
  pub knows : known' ≡ next_known e f used known value
  pub fits : value' < 2 ^ f.width

-- those of the fields below this number, and the flags of the others as they were
pub record AreNext (e : Edge) (values : List ℕ) (used known : List Bool) (n : ℕ) (values' : List ℕ) (used' known' : List Bool) : Type 0 where
  pub done : (k : ℕ) → k < n → (f : Field) → slice_get e.view.fields k ≡ Some f
      → IsNextState e f (slice_index values k) (slice_index_or used k false) (slice_index_or known k false) (slice_index values' k) (slice_index_or used' k false) (slice_index_or known' k false)
  pub used_left : (k : ℕ) → n ≤ k → slice_index_or used' k false ≡ slice_index_or used k false
  pub known_left : (k : ℕ) → n ≤ k → slice_index_or known' k false ≡ slice_index_or known k false

-- the lists after reset
pub record IsReset (fields : List Field) (values : List ℕ) (used known : List Bool) : Type 0 where
  pub values_are : values ≡ map (λ f. if f.wire then 0 else f.reset) fields
  pub used_are : used ≡ map (λ f. false) fields
  pub known_are : known ≡ map (λ f. f.starts_known) fields
