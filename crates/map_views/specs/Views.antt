-- Every field of a register map as others see it: its value, and its reductions (SystemRDL 2.0, clause 9, `anded`, `ored`, `xored`).
use Rattle.std.specs.Prelude.{◌≡◌, ℕ, Bool, true, false, List, [], length, map, slice_get, Option, Some, None}
use Rattle.std.specs.Option.{option_map_or}
use Rattle.std.specs.Simd.Lanes.{zip2}
use Rattle.std.specs.declared.vec.Vec.{Vec}
use Rattle.std.specs.declared.alloc.Global.{Global}
use Rattle.bit_base.specs.Operators.{are_all, is_any, is_odd}
use Rattle.field_policies.specs.declared.field.Field.{Field}
use Rattle.field_policies.specs.declared.signal.HwInput.{HwInput}
use Rattle.gate_graph.specs.declared.wires.Wire.{Wire}
use Rattle.gate_graph.specs.declared.nodes.Node.{Node}
use Rattle.gate_graph.specs.Gates.{AreOf, Means}
use Rattle.word_gates.specs.Words.{values}
use Rattle.expr_gates.specs.declared.view.FieldView.{FieldView}
use Rattle.expr_gates.specs.Graphs.{viewed_made}
use Rattle.latch_order.specs.declared.latches.StateGates.{StateGates}
use Rattle.latch_order.specs.Latches.{Stored}
use Rattle.latch_order.specs.Wires.{stored_wires}
use Rattle.field_edges.specs.Given.{AreStates}
use Rattle.field_edges.specs.Made.{ViewWires, words_of, each_made}

-- one list of wires of the graph for each hardware input, of its width
pub record AreInputs (nodes : List Node) (inputs : List HwInput) (hw : List (Vec Wire Global)) : Type 0 where
  pub one_each : length hw ≡ length inputs
  pub of : (k : ℕ) (x : Vec Wire Global) → slice_get hw k ≡ Some x → AreOf x.items nodes
  pub width : (k : ℕ) (h : HwInput) (x : Vec Wire Global) → slice_get inputs k ≡ Some h → slice_get hw k ≡ Some x → length x.items ≡ h.width

-- what each field stores is of the graph
pub record AllStates (nodes : List Node) (fields : List Field) (states : List StateGates) : Type 0 where
  pub one_each : length states ≡ length fields
  pub each : (n : ℕ) (f : Field) (s : StateGates) → slice_get fields n ≡ Some f → slice_get states n ≡ Some s → AreStates nodes f.width s

abbrev pub stores_of : List StateGates → List (Stored Wire)
stores_of states = map stored_wires states

-- the wires of a field's value: what it stores, or of a wire its data input
abbrev pub value_by : List (List Wire) → Bool → Option ℕ → List Wire → List Wire
value_by hw true (Some k) stored = option_map_or (λ x. x) (slice_get hw k) []
value_by hw true None stored = stored
value_by hw false source stored = stored

-- a field's view
pub record IsShown (nodes : List Node) (f : Field) (s : StateGates) (hw : List (Vec Wire Global)) (g : FieldView) : Type 0 where
  pub value : g.value.items ≡ value_by (words_of hw) f.wire f.data_in s.value.items
  pub anded : Means nodes g.anded (λ v. are_all (values v g.value.items))
  pub ored : Means nodes g.ored (λ v. is_any (values v g.value.items))
  pub xored : Means nodes g.xored (λ v. is_odd (values v g.value.items))

-- and each field's
abbrev pub AreShown : List Node → List Field → List StateGates → List (Vec Wire Global) → List FieldView → Type 0
AreShown nodes fields states hw views = (n : ℕ) (g : FieldView) → slice_get views n ≡ Some g → (f : Field) → slice_get fields n ≡ Some f → (s : StateGates) → slice_get states n ≡ Some s → IsShown nodes f s hw g

-- which graph it is
abbrev pub with_value : List Wire → (Wire × (Wire × Wire)) × List Node → ViewWires × List Node
with_value value made = (record { value = value; anded = made.0.0; ored = made.0.1.0; xored = made.0.1.1 }, made.1)

abbrev pub view_made : List (List Wire) → List Node → Field × Stored Wire → ViewWires × List Node
view_made hw ns p = with_value (value_by hw p.0.wire p.0.data_in p.1.value) (viewed_made ns (value_by hw p.0.wire p.0.data_in p.1.value))

-- fields with what they store
abbrev pub pair_of : Field → Stored Wire → Field × Stored Wire
pair_of f s = (f, s)

abbrev pub pairs_of : List Field → List (Stored Wire) → List (Field × Stored Wire)
pairs_of fields states = zip2 pair_of fields states

unfoldable pub views_made : List Node → List Field → List (Stored Wire) → List (List Wire) → List ViewWires × List Node
views_made ns fields states hw = each_made (view_made hw) ns (pairs_of fields states)
