-- The edge of the register machine that wires stand for, where each node i has the value v i.
use Rattle.std.specs.Prelude.{◌≡◌, ℕ, Bool, not, ◌&&◌, List, length, map}
use Rattle.std.specs.List.{sum_by}
use Rattle.std.specs.declared.vec.Vec.{Vec}
use Rattle.std.specs.declared.alloc.Global.{Global}
use Rattle.field_policies.specs.declared.field.Field.{Field}
use Rattle.field_policies.specs.declared.map.RegMap.{RegMap}
use Rattle.gate_graph.specs.declared.wires.Wire.{Wire}
use Rattle.gate_graph.specs.declared.nodes.Node.{Node}
use Rattle.gate_graph.specs.Gates.{wire_value, AreOf}
use Rattle.gate_graph.specs.Sharing.{HasZero}
use Rattle.reg_machine.specs.Steps.{Edge}
use Rattle.word_gates.specs.Graphs.{off, on}
use Rattle.word_gates.specs.Words.{values, Shows}
use Rattle.expr_gates.specs.declared.view.FieldView.{FieldView}
use Rattle.event_gates.specs.declared.hits.EventGates.{EventGates}
use Rattle.event_gates.specs.declared.hits.HitGates.{HitGates}
use Rattle.event_gates.specs.Events.{event_at}
use Rattle.latch_order.specs.declared.latches.StateGates.{StateGates}
use Rattle.latch_order.specs.Latches.{latch_bits, all_stored}
use Rattle.latch_order.specs.Wires.{stored_wires}
use Rattle.field_edges.specs.Given.{AreGiven}
use Rattle.map_views.specs.Views.{AreInputs, AllStates, AreShown}
use Rattle.map_views.specs.Laws.{view_at}
use Rattle.map_edges.specs.Hits.{AreHits}
use Rattle.map_edges.specs.Edges.{SeesMap}

abbrev pub edge_at : RegMap → List StateGates → EventGates → List (Vec Wire Global) → (ℕ → Bool) → Edge
edge_at map_of states event hw v = record { view = view_at map_of.fields.items states hw v; words = map_of.words.items; event = event_at v event }

-- what fields store by latches of the graph is of the graph
abbrev pub StoredAreStates : Type 0
StoredAreStates = (nodes : List Node) (fields : List Field) (latches : List Wire) (states : List StateGates) → HasZero nodes → AreOf latches nodes → length latches ≡ sum_by latch_bits fields
    → map stored_wires states ≡ all_stored off on fields latches → AllStates nodes fields states

-- the wires see the edge that they stand for
abbrev pub WiresSeeTheirEdge : Type 0
WiresSeeTheirEdge = (nodes : List Node) (map_of : RegMap) (states : List StateGates) (event : EventGates) (payload : List Wire) (hits : List HitGates) (views : List FieldView) (hw : List (Vec Wire Global))
    → AllStates nodes map_of.fields.items states → AreInputs nodes map_of.inputs.items hw → AreGiven nodes map_of.fields.items map_of.inputs.items views hw → AreShown nodes map_of.fields.items states hw views
    → AreHits nodes event map_of.words.items hits → Shows nodes payload (λ v. map (λ x. x && (wire_value v event.write && not (wire_value v event.read))) (values v event.payload.items))
    → SeesMap nodes map_of event payload hits views hw (edge_at map_of states event hw)
