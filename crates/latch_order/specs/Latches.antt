-- The latches of a register map: field by field the bits of a stored field, least first, the flag of a once field, and
-- the known flag of a field that doesn't start known (SystemRDL 2.0, clause 9, field access properties and reset).
use Rattle.std.specs.Prelude.{ℕ, ◌+◌, Bool, if◌then◌else◌, List, [], ◌∷◌, ◌++◌, map, take, drop, get_or, replicate}
use Rattle.bit_base.specs.Numbers.{number_of, low_bits}
use Rattle.field_policies.specs.declared.field.Field.{Field}
use Rattle.reg_machine.specs.States.{State, value_in, used_in, known_in, for_each}

-- what a field stores: bits or wires
pub record Stored (X : Type 0) : Type 0 where
  pub value : List X
  pub used : X
  pub known : X

-- how many latches it has
abbrev pub value_bits : Field → ℕ
value_bits f = if f.wire then 0 else f.width

abbrev pub latch_bits : Field → ℕ
latch_bits f = value_bits f + (if f.once then 1 else 0) + (if f.starts_known then 0 else 1)

-- what a field stores, by its latches, the first of these; what has none is `low`, a flag that is always known `high`
abbrev pub stored_of : {X : Type 0} → X → X → Field → List X → Stored X
stored_of low high f xs = record {
  value = if f.wire then replicate f.width low else take f.width xs;
  used = if f.once then get_or xs (value_bits f) low else low;
  known = if f.starts_known then high else get_or xs (value_bits f + (if f.once then 1 else 0)) high;
}

abbrev pub all_stored : {X : Type 0} → X → X → List Field → List X → List (Stored X)
all_stored low high [] xs = []
all_stored low high (f ∷ fs) xs = stored_of low high f xs ∷ all_stored low high fs (drop (latch_bits f) xs)

-- and back
abbrev pub latches_of : {X : Type 0} → Field → Stored X → List X
latches_of f s = ((if f.wire then [] else s.value) ++ (if f.once then s.used ∷ [] else [])) ++ (if f.starts_known then [] else s.known ∷ [])

abbrev pub all_latches : {X : Type 0} → List Field → List (Stored X) → List X
all_latches [] ss = []
all_latches (f ∷ fs) [] = []
all_latches (f ∷ fs) (s ∷ ss) = latches_of f s ++ all_latches fs ss

-- the state of a register machine by what its fields store, and back
abbrev pub state_by : List (Stored Bool) → State
state_by ss = record { values = map (λ s. number_of s.value) ss; used = map (λ s. s.used) ss; known = map (λ s. s.known) ss }

abbrev pub stored_in : State → ℕ → Field → Stored Bool
stored_in s n f = record { value = low_bits f.width (value_in s n); used = used_in s n; known = known_in s n }

abbrev pub state_bits : List Field → State → List Bool
state_bits fields s = all_latches fields (for_each (stored_in s) fields)
