-- What fields' expressions read, as wires, and what a field stores.
use Rattle.std.specs.Prelude.{◌≡◌, ℕ, List, Some, length, slice_get}
use Rattle.std.specs.declared.vec.Vec.{Vec}
use Rattle.std.specs.declared.alloc.Global.{Global}
use Rattle.field_policies.specs.declared.field.Field.{Field}
use Rattle.field_policies.specs.declared.signal.HwInput.{HwInput}
use Rattle.field_policies.specs.declared.map.RegMap.{RegMap}
use Rattle.gate_graph.specs.declared.wires.Wire.{Wire}
use Rattle.gate_graph.specs.declared.nodes.Node.{Node}
use Rattle.gate_graph.specs.Gates.{IsOf, AreOf}
use Rattle.gate_graph.specs.Sharing.{HasZero}
use Rattle.expr_gates.specs.declared.view.FieldView.{FieldView}
use Rattle.latch_order.specs.declared.latches.StateGates.{StateGates}

-- the fields and the hardware inputs are of the graph, each with its width
pub record AreGiven (nodes : List Node) (fields : List Field) (inputs : List HwInput) (views : List FieldView) (hw : List (Vec Wire Global)) : Type 0 where
  pub zero : HasZero nodes
  pub one_each : length views ≡ length fields
  pub input_each : length hw ≡ length inputs
  pub value_of : (n : ℕ) (g : FieldView) → slice_get views n ≡ Some g → AreOf g.value.items nodes
  pub anded_of : (n : ℕ) (g : FieldView) → slice_get views n ≡ Some g → IsOf g.anded nodes
  pub ored_of : (n : ℕ) (g : FieldView) → slice_get views n ≡ Some g → IsOf g.ored nodes
  pub xored_of : (n : ℕ) (g : FieldView) → slice_get views n ≡ Some g → IsOf g.xored nodes
  pub input_of : (k : ℕ) (x : Vec Wire Global) → slice_get hw k ≡ Some x → AreOf x.items nodes
  pub value_length : (n : ℕ) (f : Field) (g : FieldView) → slice_get fields n ≡ Some f → slice_get views n ≡ Some g → length g.value.items ≡ f.width
  pub input_length : (k : ℕ) (h : HwInput) (x : Vec Wire Global) → slice_get inputs k ≡ Some h → slice_get hw k ≡ Some x → length x.items ≡ h.width

-- what a field of this width stores is of the graph
pub record AreStates (nodes : List Node) (width : ℕ) (s : StateGates) : Type 0 where
  pub value_of : AreOf s.value.items nodes
  pub value_length : length s.value.items ≡ width
  pub used_of : IsOf s.used nodes
  pub known_of : IsOf s.known nodes
