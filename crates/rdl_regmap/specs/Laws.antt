-- What holds of the register map of a description that nothing refuses.
use Rattle.std.specs.Prelude.{◌≡◌, ℕ, List, Some, slice_get}
use Rattle.field_policies.specs.declared.field.Field.{Field}
use Rattle.field_policies.specs.declared.signal.HwInput.{HwInput}
use Rattle.field_policies.specs.Maps.{IsBus, AreInWords, AreResets, AreInRange, AreWires, AreCounters, AreInterrupts, AreMembers, IsSmall, input_width}
use Rattle.rdl_tree.specs.declared.tree.RdlFile.{RdlFile}
use Rattle.rdl_map.specs.declared.map.Parts.{Parts}
use Rattle.rdl_map.specs.Maps.{IsUntold, IsMapOf}
use Rattle.rdl_elab.specs.Refusals.{IsFine}

-- all of its map can be told
abbrev pub MapsAreTold : Type 0
MapsAreTold = (file : RdlFile) → IsFine file → IsUntold file → ⊥

-- no two hardware inputs are the same signal of the same field, and each has its bits
pub record AreInputs (fields : List Field) (inputs : List HwInput) : Type 0 where
  pub signals : (i j : ℕ) (h k : HwInput) → slice_get inputs i ≡ Some h → slice_get inputs j ≡ Some k → h.field ≡ k.field → h.signal ≡ k.signal → i ≡ j
  pub sources : (i k : ℕ) (f : Field) (h : HwInput) → slice_get fields i ≡ Some f → f.data_in ≡ Some k → slice_get inputs k ≡ Some h → h.width ≡ f.width
  pub bits : (k : ℕ) (h : HwInput) (f : Field) → slice_get inputs k ≡ Some h → slice_get fields h.field ≡ Some f → h.width ≡ input_width h.signal f.width

-- the facts of a valid register map but for those on paths, and on the bits of what a property is given
pub record IsOrderly (m : Parts) : Type 0 where
  pub bus : IsBus m.bus_width m.words.items
  pub in_words : AreInWords m.bus_width m.words.items m.fields.items
  pub fits : AreResets m.fields.items
  pub in_range : AreInRange m.fields.items m.inputs.items
  pub own_inputs : AreInputs m.fields.items m.inputs.items
  pub wires : AreWires m.fields.items
  pub counters : AreCounters m.fields.items
  pub interrupts : AreInterrupts m.fields.items
  pub members : AreMembers m.fields.items
  pub small : IsSmall m.words.items m.fields.items

abbrev pub MapsAreOrderly : Type 0
MapsAreOrderly = (file : RdlFile) (m : Parts) → IsFine file → IsMapOf file m → IsOrderly m
