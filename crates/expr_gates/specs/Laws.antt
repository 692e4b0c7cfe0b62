-- The laws that expressions as wires are those of the register machine (SystemRDL 2.0, clause 9, hardware access
-- properties and references).
use Rattle.std.specs.Prelude.{◌≡◌, ℕ, Bool, IsTrue, List, Option, Some, slice_get, slice_index, length, map}
use Rattle.std.specs.List.{range_with_len}
use Rattle.std.specs.declared.vec.Vec.{Vec}
use Rattle.std.specs.declared.alloc.Global.{Global}
use Rattle.bit_base.specs.Numbers.{low_bits}
use Rattle.bit_base.specs.Operators.{are_all, is_any, is_odd}
use Rattle.field_policies.specs.declared.field.Field.{Field}
use Rattle.field_policies.specs.declared.signal.Gate.{Gate}
use Rattle.field_policies.specs.declared.signal.HwExpr.{HwExpr}
use Rattle.field_policies.specs.declared.signal.HwInput.{HwInput}
use Rattle.field_policies.specs.Fields.{is_in_range, has_width, expr_width}
use Rattle.field_policies.specs.Expressions.{value_of, expr_value}
use Rattle.gate_graph.specs.declared.wires.Wire.{Wire}
use Rattle.gate_graph.specs.declared.nodes.Node.{Node}
use Rattle.gate_graph.specs.Gates.{Means}
use Rattle.gate_graph.specs.Sharing.{HasZero}
use Rattle.reg_machine.specs.Steps.{View, opens, gives}
use Rattle.word_gates.specs.Words.{values, Shows}
use Rattle.expr_gates.specs.declared.view.FieldView.{FieldView}
use Rattle.expr_gates.specs.Graphs.{expr_wires, given_made, open_made, opened_made}

-- the wires are what w v sees where each node i has the value v i
pub record AreViews (nodes : List Node) (fields : List Field) (inputs : List HwInput) (w : (ℕ → Bool) → View) (views : List FieldView) (hw : List (Vec Wire Global)) : Type 0 where
  pub zero : HasZero nodes
  pub one_each : length views ≡ length fields
  pub input_each : length hw ≡ length inputs
  pub fields_are : (v : ℕ → Bool) → (w v).fields ≡ fields
  pub value : (n : ℕ) (f : Field) (g : FieldView) → slice_get fields n ≡ Some f → slice_get views n ≡ Some g → Shows nodes g.value.items (λ v. low_bits f.width (value_of (w v).values (w v).hw n f))
  pub anded : (n : ℕ) (g : FieldView) → slice_get views n ≡ Some g → Means nodes g.anded (λ v. are_all (values v g.value.items))
  pub ored : (n : ℕ) (g : FieldView) → slice_get views n ≡ Some g → Means nodes g.ored (λ v. is_any (values v g.value.items))
  pub xored : (n : ℕ) (g : FieldView) → slice_get views n ≡ Some g → Means nodes g.xored (λ v. is_odd (values v g.value.items))
  pub input : (k : ℕ) (h : HwInput) (x : Vec Wire Global) → slice_get inputs k ≡ Some h → slice_get hw k ≡ Some x → Shows nodes x.items (λ v. low_bits h.width (slice_index (w v).hw k))

-- an expression, with a place for each of its bits
abbrev pub ExpressionsAreMachines : Type 0
ExpressionsAreMachines = (nodes : List Node) (fields : List Field) (inputs : List HwInput) (w : (ℕ → Bool) → View) (views : List FieldView) (hw : List (Vec Wire Global)) (e : HwExpr)
    → AreViews nodes fields inputs w views hw → IsTrue (is_in_range (length fields) (length inputs) e)
    → Shows nodes (expr_wires views hw e) (λ v. low_bits (expr_width fields inputs e) (expr_value (w v).fields (w v).values (w v).hw e))

-- one of one bit that may be missing
abbrev pub GivenAreMachines : Type 0
GivenAreMachines = (nodes : List Node) (fields : List Field) (inputs : List HwInput) (w : (ℕ → Bool) → View) (views : List FieldView) (hw : List (Vec Wire Global)) (x : Option HwExpr)
    → AreViews nodes fields inputs w views hw → ((e : HwExpr) → x ≡ Some e → IsTrue (is_in_range (length fields) (length inputs) e)) → ((e : HwExpr) → x ≡ Some e → IsTrue (has_width fields inputs 1 e))
    → Means nodes (given_made views hw x) (λ v. gives (w v) x)

-- a gate of one bit, and one of many
abbrev pub GatesAreMachines : Type 0
GatesAreMachines = (nodes : List Node) (fields : List Field) (inputs : List HwInput) (w : (ℕ → Bool) → View) (views : List FieldView) (hw : List (Vec Wire Global)) (x : Option Gate)
    → AreViews nodes fields inputs w views hw → ((g : Gate) → x ≡ Some g → IsTrue (is_in_range (length fields) (length inputs) g.expr)) → ((g : Gate) → x ≡ Some g → IsTrue (has_width fields inputs 1 g.expr))
    → Means nodes (open_made views hw x) (λ v. opens (w v) x 0)

abbrev pub MasksAreMachines : Type 0
MasksAreMachines = (nodes : List Node) (fields : List Field) (inputs : List HwInput) (w : (ℕ → Bool) → View) (views : List FieldView) (hw : List (Vec Wire Global)) (x : Option Gate) (width : ℕ)
    → AreViews nodes fields inputs w views hw → ((g : Gate) → x ≡ Some g → IsTrue (is_in_range (length fields) (length inputs) g.expr)) → ((g : Gate) → x ≡ Some g → IsTrue (has_width fields inputs width g.expr))
    → Shows nodes (opened_made width views hw x) (λ v. map (opens (w v) x) (range_with_len 0 width))
