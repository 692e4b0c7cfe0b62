-- The state of a register machine: after reset, and after an edge.
use Rattle.std.specs.Prelude.{ℕ, Bool, false, List, if◌then◌else◌, map, slice_index, slice_index_or}
use Rattle.std.specs.List.{enumerate_from, range_with_len}
use Rattle.bit_base.specs.Numbers.{number_of}
use Rattle.field_policies.specs.declared.field.Field.{Field}
use Rattle.reg_machine.specs.declared.machine.Machine.{Machine}
use Rattle.reg_machine.specs.Steps.{Edge, next_bit, next_used, next_known}

-- for each field its value, whether its first write is used up, and whether its value is known
pub record State : Type 0 where
  pub values : List ℕ
  pub used : List Bool
  pub known : List Bool

abbrev pub state_of : Machine → State
state_of m = record { values = m.values.items; used = m.used.items; known = m.known.items }

-- of the field of this number
abbrev pub value_in : State → ℕ → ℕ
value_in s n = slice_index s.values n

abbrev pub used_in : State → ℕ → Bool
used_in s n = slice_index_or s.used n false

abbrev pub known_in : State → ℕ → Bool
known_in s n = slice_index_or s.known n false

-- after reset: the reset values, nothing used, known where the field starts known
abbrev pub reset_state : List Field → State
reset_state fields = record {
  values = map (λ f. if f.wire then 0 else f.reset) fields;
  used = map (λ f. false) fields;
  known = map (λ f. f.starts_known) fields;
}

-- the number of these bits, so many
abbrev pub number_of_bits : ℕ → (ℕ → Bool) → ℕ
number_of_bits width bits = number_of (map bits (range_with_len 0 width))

-- one for each field, by its number
abbrev pub for_each : {A : Type 0} → (ℕ → Field → A) → List Field → List A
for_each each fields = map (λ p. each p.0 p.1) (enumerate_from 0 fields)

-- a stored field steps by its bits, a wire keeps its entry
abbrev pub next_value : Edge → State → ℕ → Field → ℕ
next_value e s n f = if f.wire then value_in s n else number_of_bits f.width (next_bit e f (used_in s n) (value_in s n))

-- after an edge
unfoldable pub next_state : Edge → State → State
next_state e s = record {
  values = for_each (next_value e s) e.view.fields;
  used = for_each (λ n f. next_used e f (used_in s n)) e.view.fields;
  known = for_each (λ n f. next_known e f (used_in s n) (known_in s n) (value_in s n)) e.view.fields;
}
