-- Every field of a register map at an edge of the register machine.
use Rattle.std.specs.Prelude.{◌≡◌, ℕ, ◌+◌, ◌*◌, ◌<◌, ◌^◌, Bool, not, ◌&&◌, List, length, map, get_or, slice_get, Some}
use Rattle.map_views.specs.Views.{pairs_of}
use Rattle.std.specs.declared.vec.Vec.{Vec}
use Rattle.std.specs.declared.alloc.Global.{Global}
use Rattle.bit_base.specs.Numbers.{number_of}
use Rattle.field_policies.specs.declared.field.Field.{Field}
use Rattle.field_policies.specs.declared.map.RegMap.{RegMap}
use Rattle.field_policies.specs.Expressions.{input_value}
use Rattle.gate_graph.specs.declared.wires.Wire.{Wire}
use Rattle.gate_graph.specs.declared.nodes.Node.{Node}
use Rattle.gate_graph.specs.Gates.{wire_value, IsOf}
use Rattle.reg_machine.specs.Steps.{Edge}
use Rattle.word_gates.specs.Graphs.{off}
use Rattle.word_gates.specs.Words.{values, Shows}
use Rattle.expr_gates.specs.declared.view.FieldView.{FieldView}
use Rattle.expr_gates.specs.Laws.{AreViews}
use Rattle.event_gates.specs.declared.hits.EventGates.{EventGates}
use Rattle.event_gates.specs.declared.hits.HitGates.{HitGates}
use Rattle.event_gates.specs.Events.{event_at}
use Rattle.latch_order.specs.declared.latches.StateGates.{StateGates}
use Rattle.latch_order.specs.Latches.{Stored}
use Rattle.field_edges.specs.declared.edge.EdgeGates.{EdgeGates}
use Rattle.field_edges.specs.Edges.{IsNext, AreEdges}
use Rattle.field_edges.specs.Made.{ViewWires, EdgeWires, edge_wires, edge_made, each_made}
use Rattle.map_edges.specs.Hits.{AreHits}

-- the hits are of the graph
pub record AreOfGraph (nodes : List Node) (hits : List HitGates) : Type 0 where
  pub reads_of : (k : ℕ) (h : HitGates) → slice_get hits k ≡ Some h → IsOf h.reads nodes
  pub writes_of : (k : ℕ) (h : HitGates) → slice_get hits k ≡ Some h → IsOf h.writes nodes

-- the wires are what the edge e v sees where each node i has the value v i
pub record SeesMap (nodes : List Node) (map_of : RegMap) (event : EventGates) (payload : List Wire) (hits : List HitGates) (views : List FieldView) (hw : List (Vec Wire Global)) (e : (ℕ → Bool) → Edge) : Type 0 where
  pub views_are : AreViews nodes map_of.fields.items map_of.inputs.items (λ v. (e v).view) views hw
  pub words_are : (v : ℕ → Bool) → (e v).words ≡ map_of.words.items
  pub event_is : (v : ℕ → Bool) → (e v).event ≡ event_at v event
  pub hits_are : AreHits nodes event map_of.words.items hits
  pub payload_is : Shows nodes payload (λ v. map (λ x. x && (wire_value v event.write && not (wire_value v event.read))) (values v event.payload.items))
  pub input_fits : (v : ℕ → Bool) (n : ℕ) (f : Field) → slice_get map_of.fields.items n ≡ Some f → input_value (e v).view.hw f.data_in < 2 ^ f.width

-- then each field's wires are the register machine's after the edge, from what the field stores
abbrev pub stored_number : StateGates → (ℕ → Bool) → ℕ
stored_number s v = number_of (values v s.value.items)

abbrev pub AllNext : List Node → List Field → List StateGates → ((ℕ → Bool) → Edge) → List EdgeGates → Type 0
AllNext nodes fields states e edges = (n : ℕ) (g : EdgeGates) → slice_get edges n ≡ Some g → (f : Field) → slice_get fields n ≡ Some f → (s : StateGates) → slice_get states n ≡ Some s → IsNext nodes f e (stored_number s) s g

-- the wires are of the graph
pub record AllEdges (nodes : List Node) (fields : List Field) (edges : List EdgeGates) : Type 0 where
  pub one_each : length edges ≡ length fields
  pub each : (n : ℕ) (g : EdgeGates) → slice_get edges n ≡ Some g → (f : Field) → slice_get fields n ≡ Some f → AreEdges nodes f.width g

-- how many gates a field may add
abbrev pub edge_gates_of : Field → ℕ
edge_gates_of f = 45 * f.width + 59

-- which graph it is
abbrev pub edges_of : List EdgeGates → List EdgeWires
edges_of edges = map edge_wires edges

unfoldable pub edges_made : List Node → List Field → List (Stored Wire) → List (Wire × Wire) → List Wire → List Wire → List ViewWires → List (List Wire) → List EdgeWires × List Node
edges_made ns fields states hits strobe payload views hw =
    each_made (λ g (p : Field × Stored Wire). edge_made p.0 g p.1 (get_or hits p.0.word (off, off)) strobe payload views hw) ns (pairs_of fields states)
