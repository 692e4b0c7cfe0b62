-- What the calls of a machine ask of its lists.
use Rattle.std.specs.Prelude.{◌≡◌, ℕ, ◌<◌, ◌^◌, ◌+◌, ◌≤◌, Bool, List, Some, length, slice_get}
use Rattle.field_policies.specs.declared.field.Field.{Field}
use Rattle.field_policies.specs.declared.signal.HwInput.{HwInput}
use Rattle.field_policies.specs.declared.map.RegMap.{RegMap}
use Rattle.field_policies.specs.declared.extra.Extra.TheVariants as extra
use Rattle.field_policies.specs.declared.extra.Counter.{Counter}
use Rattle.field_policies.specs.Fields.{EachExpr, is_in_range, has_width, members_of}
use Rattle.apb_rules.specs.declared.event.BusEvent.{BusEvent}
use Rattle.reg_machine.specs.Steps.{View, Edge}

-- one value for each field, none wider than its field
pub record AreValues (fields : List Field) (values : List ℕ) : Type 0 where
  pub one_each : length values ≡ length fields
  pub fit : (n value : ℕ) (f : Field) → slice_get fields n ≡ Some f → slice_get values n ≡ Some value → value < 2 ^ f.width

-- one number for each hardware input, none wider than its input
pub record AreInputs (inputs : List HwInput) (hw : List ℕ) : Type 0 where
  pub one_each : length hw ≡ length inputs
  pub fit : (k value : ℕ) (h : HwInput) → slice_get inputs k ≡ Some h → slice_get hw k ≡ Some value → value < 2 ^ h.width

-- a value and two flags for each field
pub record IsState (fields : List Field) (values : List ℕ) (used known : List Bool) : Type 0 where
  pub values_of : AreValues fields values
  pub used_of : length used ≡ length fields
  pub known_of : length known ≡ length fields

abbrev pub view_of : RegMap → List ℕ → List ℕ → View
view_of map values hw = record { fields = map.fields.items; values = values; hw = hw }

abbrev pub edge_of : RegMap → List ℕ → List ℕ → BusEvent → Edge
edge_of map values hw event = record { view = view_of map values hw; words = map.words.items; event = event }

-- what holds of each field of a map
pub record IsFieldOf (map : RegMap) (f : Field) : Type 0 where
  pub some : 1 ≤ f.width
  pub inside : f.lsb + f.width ≤ 32
  pub in_word : f.lsb + f.width ≤ map.bus_width
  pub bus : map.bus_width ≤ 32
  pub there : f.word < length map.words.items
  pub in_range : EachExpr (is_in_range (length map.fields.items) (length map.inputs.items)) (is_in_range (length map.fields.items) (length map.inputs.items)) f
  pub widths : EachExpr (has_width map.fields.items map.inputs.items 1) (has_width map.fields.items map.inputs.items f.width) f
  pub source : (k : ℕ) → f.data_in ≡ Some k → k < length map.inputs.items
  pub source_width : (k : ℕ) (h : HwInput) → f.data_in ≡ Some k → slice_get map.inputs.items k ≡ Some h → h.width ≡ f.width
  pub up : (c : Counter) → f.extra ≡ extra.Counter c → c.up < 2 ^ f.width
  pub down : (c : Counter) → f.extra ≡ extra.Counter c → c.down < 2 ^ f.width
  pub members : (i k : ℕ) → slice_get (members_of f.extra) i ≡ Some k → k < length map.fields.items
