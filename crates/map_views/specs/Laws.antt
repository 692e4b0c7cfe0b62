-- The law that the views of all fields are what the register machine sees.
use Rattle.std.specs.Prelude.{◌≡◌, ◌≢◌, ℕ, ◌<◌, Bool, true, List, Some, None, length, slice_get, map}
use Rattle.std.specs.declared.vec.Vec.{Vec}
use Rattle.std.specs.declared.alloc.Global.{Global}
use Rattle.bit_base.specs.Numbers.{number_of}
use Rattle.field_policies.specs.declared.field.Field.{Field}
use Rattle.field_policies.specs.declared.signal.HwInput.{HwInput}
use Rattle.gate_graph.specs.declared.wires.Wire.{Wire}
use Rattle.gate_graph.specs.declared.nodes.Node.{Node}
use Rattle.reg_machine.specs.Steps.{View}
use Rattle.word_gates.specs.Words.{values}
use Rattle.expr_gates.specs.declared.view.FieldView.{FieldView}
use Rattle.expr_gates.specs.Laws.{AreViews}
use Rattle.latch_order.specs.declared.latches.StateGates.{StateGates}
use Rattle.field_edges.specs.Given.{AreGiven}
use Rattle.map_views.specs.Views.{AreInputs, AllStates, AreShown}

-- where each node i has the value v i: the fields' stored values, and the numbers at the hardware inputs
abbrev pub values_at : (ℕ → Bool) → List StateGates → List ℕ
values_at v states = map (λ s. number_of (values v s.value.items)) states

abbrev pub inputs_at : (ℕ → Bool) → List (Vec Wire Global) → List ℕ
inputs_at v hw = map (λ x. number_of (values v x.items)) hw

abbrev pub view_at : List Field → List StateGates → List (Vec Wire Global) → (ℕ → Bool) → View
view_at fields states hw v = record { fields = fields; values = values_at v states; hw = inputs_at v hw }

-- each field's data input is there, and each wire has one
pub record HaveSources (fields : List Field) (inputs : List HwInput) : Type 0 where
  pub there : (n : ℕ) (f : Field) → slice_get fields n ≡ Some f → (k : ℕ) → f.data_in ≡ Some k → k < length inputs
  pub wires : (n : ℕ) (f : Field) → slice_get fields n ≡ Some f → f.wire ≡ true → f.data_in ≢ None

abbrev pub ViewsAreMachines : Type 0
ViewsAreMachines = (nodes : List Node) (fields : List Field) (inputs : List HwInput) (states : List StateGates) (views : List FieldView) (hw : List (Vec Wire Global))
    → HaveSources fields inputs → AllStates nodes fields states → AreInputs nodes inputs hw → AreGiven nodes fields inputs views hw → AreShown nodes fields states hw views
    → AreViews nodes fields inputs (view_at fields states hw) views hw
