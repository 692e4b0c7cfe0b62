-- What the interrupt fields of a register raise: those of their bits that `enable` or `mask` lets through (SystemRDL 2.0,
-- clause 9, interrupt properties).
use Rattle.std.specs.Prelude.{ℕ, ◌+◌, ◌*◌, ◌≤◌, Bool, List, [], Option, None, Some, slice_get}
use Rattle.std.specs.List.{sum_by}
use Rattle.std.specs.Option.{option_map_or}
use Rattle.std.specs.declared.vec.Vec.{Vec}
use Rattle.std.specs.declared.alloc.Global.{Global}
use Rattle.field_policies.specs.declared.field.Field.{Field}
use Rattle.field_policies.specs.declared.map.RegMap.{RegMap}
use Rattle.field_policies.specs.declared.signal.Gate.{Gate}
use Rattle.field_policies.specs.Expressions.{width_at}
use Rattle.field_policies.specs.Fields.{filter_of, members_of}
use Rattle.gate_graph.specs.declared.wires.Wire.{Wire}
use Rattle.gate_graph.specs.declared.nodes.Node.{Node}
use Rattle.reg_machine.specs.Steps.{View}
use Rattle.reg_machine.specs.Conditions.{AreValues, AreInputs}
use Rattle.word_gates.specs.Graphs.{off, or_made, carried}
use Rattle.expr_gates.specs.declared.view.FieldView.{FieldView}
use Rattle.expr_gates.specs.Graphs.{expr_wires}
use Rattle.expr_gates.specs.Laws.{AreViews}
use Rattle.extra_gates.specs.Graphs.{raised_made}
use Rattle.field_edges.specs.Made.{ViewWires, expr_by}

-- the wires are what w v sees where each node i has the value v i, and no number is wider than its field or input
pub record SeesFields (nodes : List Node) (map_of : RegMap) (views : List FieldView) (hw : List (Vec Wire Global)) (w : (ℕ → Bool) → View) : Type 0 where
  pub views_are : AreViews nodes map_of.fields.items map_of.inputs.items w views hw
  pub values_fit : (v : ℕ → Bool) → AreValues map_of.fields.items (w v).values
  pub inputs_fit : (v : ℕ → Bool) → AreInputs map_of.inputs.items (w v).hw

-- the wires of what cuts the bits of a field, or of its value where nothing does
abbrev pub filter_wires : List FieldView → List (Vec Wire Global) → List Wire → Option Gate → List Wire
filter_wires views hw value None = value
filter_wires views hw value (Some g) = expr_wires views hw g.expr

-- how many gates an interrupt field may add, and how many those of a register
abbrev pub member_gates : List Field → ℕ → ℕ
member_gates fields k = 2 * width_at fields k + 1

abbrev pub intr_gates_of : List Field → Field → ℕ
intr_gates_of fields f = sum_by (member_gates fields) (members_of f.extra)

abbrev pub GatesAreFew : Type 0
GatesAreFew = (map_of : RegMap) → sum_by (intr_gates_of map_of.fields.items) map_of.fields.items ≤ 3 * sum_by (λ f. f.width) map_of.fields.items

-- which graph each call builds, as a function of the nodes before
abbrev pub filter_by : List ViewWires → List (List Wire) → List Wire → Option Gate → List Wire
filter_by views hw value None = value
filter_by views hw value (Some g) = expr_by views hw g.expr

abbrev pub filter_at : List Field → ℕ → Option Gate
filter_at fields k = option_map_or (λ f. filter_of f.extra) (slice_get fields k) None

abbrev pub value_at : List ViewWires → ℕ → List Wire
value_at views k = option_map_or (λ g. g.value) (slice_get views k) []

unfoldable pub member_made : List Field → List ViewWires → List (List Wire) → List Node → ℕ → Wire × List Node
member_made fields views hw ns k = raised_made (filter_at fields k) ns (value_at views k) (filter_by views hw (value_at views k) (filter_at fields k))

abbrev pub raise_step_made : List Field → List ViewWires → List (List Wire) → List Node → Wire → ℕ → Wire × List Node
raise_step_made fields views hw ns raised k =
    let one = member_made fields views hw ns k in
    or_made one.1 raised one.0

unfoldable pub raise_made : List Field → List ViewWires → List (List Wire) → List Node → List ℕ → Wire × List Node
raise_made fields views hw ns members = carried (raise_step_made fields views hw) ns off members

abbrev pub intr_made : List Field → List ViewWires → List (List Wire) → List Node → Field → Wire × List Node
intr_made fields views hw ns f = raise_made fields views hw ns (members_of f.extra)
