-- A field of a register map, by what the description says of it.
use Rattle.std.specs.Prelude.{◌≡◌, ℕ, ◌+◌, ◌&&◌, List, [], ◌∷◌, Option, Some, None, ⊤, true, is_some, Bool}
use Rattle.field_policies.specs.declared.field.Field.{Field}
use Rattle.field_policies.specs.declared.extra.Extra.{Extra}
use Rattle.field_policies.specs.declared.signal.Shown.{Shown}
use Rattle.rdl_fields.specs.declared.named.NamedField.{NamedField}
use Rattle.rdl_map.specs.declared.signal.InputNumbers.{InputNumbers}
use Rattle.rdl_map.specs.declared.gate.Gates.{Gates}
use Rattle.rdl_map.specs.declared.field.Position.{Position}
use Rattle.rdl_map.specs.Signals.{numbers_from, count_at}
use Rattle.rdl_map.specs.Given.{given_expr, given_gate, word_number, small}
use Rattle.rdl_map.specs.Extras.{IsExtraOf, is_intr, is_first, is_extra_told}

abbrev pub position_in : Field → Position
position_in f = record { word = f.word; lsb = f.lsb; width = f.width; reset = f.reset }

abbrev pub gates_in : Field → Gates
gates_in f = record { sw_gate = f.sw_gate; data_gate = f.data_gate; set = f.set; clear = f.clear; bit_gate = f.bit_gate }

-- what gates a field and changes it
pub record AreGates (fields : List NamedField) (numbers : InputNumbers) (g : NamedField) (gates : Gates) : Type 0 where
  pub sw_gate : given_gate fields numbers.swwe numbers.swwel g.software.gate ≡ Some gates.sw_gate
  pub data_gate : given_gate fields numbers.we numbers.wel g.hardware.data_gate ≡ Some gates.data_gate
  pub set : given_expr fields numbers.hwset g.hardware.set ≡ Some gates.set
  pub clear : given_expr fields numbers.hwclr g.hardware.clear ≡ Some gates.clear
  pub bit_gate : given_gate fields None None g.hardware.bit_gate ≡ Some gates.bit_gate

-- its own outputs, and that of its register's interrupt where it is the first interrupt field there
abbrev pub shown_of : List NamedField → ℕ → NamedField → Shown
shown_of fields number g = record g.shown { intr = is_intr g.extra && is_first fields number g.spot.register }

-- where it stands in the map, and what it starts with
pub record IsPositionOf (words : List ℕ) (g : NamedField) (p : Position) : Type 0 where
  pub word : word_number words g.spot.word ≡ Some p.word
  pub lsb : p.lsb ≡ g.spot.lsb
  pub width : p.width ≡ g.spot.width
  pub reset : p.reset ≡ g.start.reset

-- a field with these parts, and what else the description says of it
pub record IsBuiltOf (g : NamedField) (p : Position) (input : Option ℕ) (gated : Gates) (kind : Extra) (seen : Shown) (f : Field) : Type 0 where
  pub path : f.path ≡ g.path
  pub position : position_in f ≡ p
  pub wire : f.wire ≡ g.start.wire
  pub starts_known : f.starts_known ≡ g.start.known
  pub readable : f.readable ≡ g.software.readable
  pub writable : f.writable ≡ g.software.writable
  pub once : f.once ≡ g.software.once
  pub read : f.read ≡ g.software.read
  pub write : f.write ≡ g.software.write
  pub data_in : f.data_in ≡ input
  pub gates : gates_in f ≡ gated
  pub hw_first : f.hw_first ≡ g.hardware.goes_first
  pub pulse : f.pulse ≡ g.hardware.pulse
  pub extra : f.extra ≡ kind
  pub shown : f.shown ≡ seen

-- a field by its number among all, with the numbers of its inputs
pub record IsFieldWith (words : List ℕ) (fields : List NamedField) (number : ℕ) (numbers : InputNumbers) (g : NamedField) (f : Field) : Type 0 where
  pub position : IsPositionOf words g (position_in f)
  pub gates : AreGates fields numbers g (gates_in f)
  pub extra : IsExtraOf fields numbers number g.spot.register g.extra f.extra
  pub rest : IsBuiltOf g (position_in f) numbers.data_in (gates_in f) f.extra (shown_of fields number g) f

-- so many inputs stand before its own
abbrev pub IsFieldOf : List ℕ → List NamedField → ℕ → ℕ → NamedField → Field → Type 0
IsFieldOf words fields number base g f = IsFieldWith words fields number (numbers_from base g.inputs) g f

-- fields one by one, the first with this number and so many inputs before its own
abbrev pub AreFrom : List ℕ → List NamedField → ℕ → ℕ → List NamedField → List Field → Type 0
AreFrom words fields number base [] [] = ⊤
AreFrom words fields number base (g ∷ gs) (f ∷ fs) = IsFieldOf words fields number base g f × AreFrom words fields (number + 1) (base + count_at g) gs fs
AreFrom words fields number base _ _ = ⊥

-- ---- whether all of it can be told

abbrev pub are_gates_told : List NamedField → InputNumbers → NamedField → Bool
are_gates_told fields numbers g =
    is_some (given_gate fields numbers.swwe numbers.swwel g.software.gate) && (is_some (given_gate fields numbers.we numbers.wel g.hardware.data_gate)
    && (is_some (given_expr fields numbers.hwset g.hardware.set) && (is_some (given_expr fields numbers.hwclr g.hardware.clear)
    && is_some (given_gate fields None None g.hardware.bit_gate))))

abbrev pub is_position_told : List ℕ → NamedField → Bool
is_position_told words g = is_some (word_number words g.spot.word) && (is_some (small g.spot.lsb) && (is_some (small g.spot.width) && is_some (small g.start.reset)))

abbrev pub is_told_with : List ℕ → List NamedField → InputNumbers → NamedField → Bool
is_told_with words fields numbers g = is_position_told words g && (are_gates_told fields numbers g && is_extra_told fields numbers g.extra)

abbrev pub is_told : List ℕ → List NamedField → ℕ → NamedField → Bool
is_told words fields base g = is_told_with words fields (numbers_from base g.inputs) g

abbrev pub are_told : List ℕ → List NamedField → ℕ → List NamedField → Bool
are_told words fields base [] = true
are_told words fields base (g ∷ gs) = is_told words fields base g && are_told words fields (base + count_at g) gs
