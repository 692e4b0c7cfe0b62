-- What holds of a valid register map, topic by topic.
use Rattle.std.specs.Prelude.{◌≡◌, ◌≢◌, ℕ, ◌+◌, ◌/◌, ◌%◌, ◌^◌, ◌<◌, ◌≤◌, Bool, true, false, ◌==◌, ◌||◌, List, [], Some, None, IsTrue, length, slice_get, sum_by}
use Rattle.field_policies.specs.declared.field.Field.{Field}
use Rattle.field_policies.specs.declared.policy.ReadEffect.TheVariants.{Keep}
use Rattle.field_policies.specs.declared.signal.HwInput.{HwInput}
use Rattle.field_policies.specs.declared.signal.InSignal.{InSignal}
use Rattle.field_policies.specs.declared.signal.InSignal.TheVariants as in_signal
use Rattle.field_policies.specs.declared.extra.Extra.TheVariants as extra
use Rattle.field_policies.specs.declared.extra.Counter.{Counter}
use Rattle.field_policies.specs.FieldPath.{IsFieldPath}
use Rattle.field_policies.specs.Fields.{is_counter, is_intr, members_of, is_in_range, has_width, EachExpr}

abbrev pub EachField : List Field → (Field → Type 0) → Type 0
EachField fields P = (i : ℕ) (f : Field) → slice_get fields i ≡ Some f → P f

abbrev pub is_bus_width : ℕ → Bool
is_bus_width w = w == 8 || w == 16 || w == 32

-- AMBA APB: a data bus of 8, 16 or 32 bits; a word's address is a multiple of the bus bytes
pub record IsBus (bus_width : ℕ) (words : List ℕ) : Type 0 where
  pub width : IsTrue (is_bus_width bus_width)
  pub rising : (i j a b : ℕ) → i < j → slice_get words i ≡ Some a → slice_get words j ≡ Some b → a < b
  pub aligned : (i a : ℕ) → slice_get words i ≡ Some a → a % (bus_width / 8) ≡ 0

-- each field lies in a word that exists, and the fields stand in order, without overlap
pub record AreInWords (bus_width : ℕ) (words : List ℕ) (fields : List Field) : Type 0 where
  pub there : EachField fields (λ f. f.word < length words)
  pub some : EachField fields (λ f. 1 ≤ f.width)
  pub inside : EachField fields (λ f. f.lsb + f.width ≤ bus_width)
  pub ordered : (i j : ℕ) (f g : Field) → i < j → slice_get fields i ≡ Some f → slice_get fields j ≡ Some g → f.word ≤ g.word
  pub apart : (i j : ℕ) (f g : Field) → i < j → slice_get fields i ≡ Some f → slice_get fields j ≡ Some g → f.word ≡ g.word → f.lsb + f.width ≤ g.lsb

-- each reset fits its field, and is 0 where the field doesn't start known; a wire does
pub record AreResets (fields : List Field) : Type 0 where
  pub fits : EachField fields (λ f. f.reset < 2 ^ f.width)
  pub unknown : EachField fields (λ f. f.starts_known ≡ false → f.reset ≡ 0)
  pub wires : EachField fields (λ f. f.wire ≡ true → f.starts_known ≡ true)

-- every number of a field or an input is one of those that are there
pub record AreInRange (fields : List Field) (inputs : List HwInput) : Type 0 where
  pub exprs : EachField fields (λ f. EachExpr (is_in_range (length fields) (length inputs)) (is_in_range (length fields) (length inputs)) f)
  pub sources : EachField fields (λ f. (k : ℕ) → f.data_in ≡ Some k → k < length inputs)
  pub members : EachField fields (λ f. (i k : ℕ) → slice_get (members_of f.extra) i ≡ Some k → k < length fields)
  pub owners : (i : ℕ) (h : HwInput) → slice_get inputs i ≡ Some h → h.field < length fields

-- each field has a path of its own; no two inputs are the same signal of the same field
pub record AreDistinct (fields : List Field) (inputs : List HwInput) : Type 0 where
  pub paths : (i j : ℕ) (f g : Field) → slice_get fields i ≡ Some f → slice_get fields j ≡ Some g → f.path ≡ g.path → i ≡ j
  pub signals : (i j : ℕ) (h k : HwInput) → slice_get inputs i ≡ Some h → slice_get inputs j ≡ Some k → h.field ≡ k.field → h.signal ≡ k.signal → i ≡ j

abbrev pub HavePaths : List Field → Type 0
HavePaths fields = EachField fields (λ f. IsFieldPath f.path)

-- the bits of a hardware input: data has its field's, every other signal is one bit
abbrev pub input_width : InSignal → ℕ → ℕ
input_width in_signal.Data width = width
input_width _ width = 1

-- each input has its bits, and the expression of each property as many as the property asks for
pub record AreWide (fields : List Field) (inputs : List HwInput) : Type 0 where
  pub exprs : EachField fields (λ f. EachExpr (has_width fields inputs 1) (has_width fields inputs f.width) f)
  pub sources : EachField fields (λ f. (k : ℕ) (h : HwInput) → f.data_in ≡ Some k → slice_get inputs k ≡ Some h → h.width ≡ f.width)
  pub each_input : (k : ℕ) (h : HwInput) (f : Field) → slice_get inputs k ≡ Some h → slice_get fields h.field ≡ Some f → h.width ≡ input_width h.signal f.width

-- a wire shows its data input, and software only reads it
pub record AreWires (fields : List Field) : Type 0 where
  pub sources : EachField fields (λ f. f.wire ≡ true → f.data_in ≢ None)
  pub unwritable : EachField fields (λ f. f.wire ≡ true → f.writable ≡ false)
  pub repeated : EachField fields (λ f. f.wire ≡ true → f.once ≡ false)
  pub kept : EachField fields (λ f. f.wire ≡ true → f.read ≡ Keep)

-- a counter stores its count, from a known start, and each of its steps fits its width
pub record AreCounters (fields : List Field) : Type 0 where
  pub up : EachField fields (λ f. (c : Counter) → f.extra ≡ extra.Counter c → c.up < 2 ^ f.width)
  pub down : EachField fields (λ f. (c : Counter) → f.extra ≡ extra.Counter c → c.down < 2 ^ f.width)
  pub stored : EachField fields (λ f. is_counter f.extra ≡ true → f.wire ≡ false)
  pub known : EachField fields (λ f. is_counter f.extra ≡ true → f.starts_known ≡ true)
  pub overflow : EachField fields (λ f. f.shown.overflow ≡ true → is_counter f.extra ≡ true)
  pub underflow : EachField fields (λ f. f.shown.underflow ≡ true → is_counter f.extra ≡ true)

-- an interrupt field stores its bits, from a known start, and takes them from its data input
pub record AreInterrupts (fields : List Field) : Type 0 where
  pub stored : EachField fields (λ f. is_intr f.extra ≡ true → f.wire ≡ false)
  pub known : EachField fields (λ f. is_intr f.extra ≡ true → f.starts_known ≡ true)
  pub sources : EachField fields (λ f. is_intr f.extra ≡ true → f.data_in ≢ None)
  pub members : EachField fields (λ f. (i k : ℕ) (g : Field) → slice_get (members_of f.extra) i ≡ Some k → slice_get fields k ≡ Some g → is_intr g.extra ≡ true)
  pub intr : EachField fields (λ f. f.shown.intr ≡ true → members_of f.extra ≢ [])

-- the lists of interrupt fields: each rises from its own field's number, and no field is in two of them
pub record AreMembers (fields : List Field) : Type 0 where
  pub first : (n k : ℕ) (f : Field) → slice_get fields n ≡ Some f → slice_get (members_of f.extra) 0 ≡ Some k → k ≡ n
  pub rising : EachField fields (λ f. (i j a b : ℕ) → i < j → slice_get (members_of f.extra) i ≡ Some a → slice_get (members_of f.extra) j ≡ Some b → a < b)
  pub apart : (m n i j k : ℕ) (f g : Field) → slice_get fields m ≡ Some f → slice_get fields n ≡ Some g
      → slice_get (members_of f.extra) i ≡ Some k → slice_get (members_of g.extra) j ≡ Some k → m ≡ n

-- at most 1,024 words and 4,096 bits of fields; each field has a bit, so there are at most 4,096
pub record IsSmall (words : List ℕ) (fields : List Field) : Type 0 where
  pub few_words : length words ≤ 1024
  pub few_bits : sum_by (λ f. f.width) fields ≤ 4096
  pub few_fields : length fields ≤ 4096
