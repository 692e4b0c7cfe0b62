-- What all fields look at, in a graph with more gates.
use Rattle.std.proofs.Common.{◌≡◌, ℕ, ◌+◌, ◌<◌, Bool, not, ◌&&◌, List, length, map, slice_get, Some, refl, sym, ap, ◌∙◌, arith}
use Rattle.std.specs.declared.vec.Vec.{Vec}
use Rattle.std.specs.declared.alloc.Global.{Global}
use Rattle.std.proofs.lemmas.Option.{slice_get_within}
use Rattle.field_policies.specs.declared.field.Field.{Field}
use Rattle.gate_graph.specs.declared.wires.Wire.{Wire}
use Rattle.gate_graph.specs.declared.nodes.Node.{Node}
use Rattle.gate_graph.specs.Gates.{Extends}
use Rattle.reg_machine.proofs.Views.{got}
use Rattle.expr_gates.specs.declared.view.FieldView.{FieldView}
use Rattle.event_gates.specs.declared.hits.EventGates.{EventGates}
use Rattle.event_gates.specs.declared.hits.HitGates.{HitGates}
use Rattle.latch_order.specs.declared.latches.StateGates.{StateGates}
use Rattle.map_views.specs.Views.{AreShown}
use Rattle.map_views.proofs.ViewLemmas.{shown_later}
use Rattle.map_edges.specs.Hits.{AreHits}
use Rattle.gate_graph.proofs.GateLemmas.{means_later}
use Rattle.reg_machine.specs.Steps.{Edge}
use Rattle.field_edges.specs.declared.edge.EdgeGates.{EdgeGates}
use Rattle.map_edges.specs.Edges.{AreOfGraph, AllEdges, AllNext, stored_number}
use Rattle.map_edges.proofs.EdgeLemmas.{edges_later, next_later}

pub all_shown_later : (old new : List Node) (k : ℕ) (fields : List Field) (states : List StateGates) (hw : List (Vec Wire Global)) (views : List FieldView) → Extends old new k → AreShown old fields states hw views → AreShown new fields states hw views
all_shown_later old new k fields states hw views e a = λ n g there f at s here. shown_later old new k f s hw g e (a n g there f at s here)

pub hits_of_graph : (nodes : List Node) (event : EventGates) (words : List ℕ) (hits : List HitGates) → length hits ≡ length words → AreHits nodes event words hits → AreOfGraph nodes hits
hits_of_graph nodes event words hits long a = record {
  reads_of = λ k h at. let w = got words k (omega (arith, slice_get_within hits k h at, long)) in (a k h at w.0 w.1).reads.of;
  writes_of = λ k h at. let w = got words k (omega (arith, slice_get_within hits k h at, long)) in (a k h at w.0 w.1).writes.of;
}

pub hits_later : (old new : List Node) (n : ℕ) (event : EventGates) (words : List ℕ) (hits : List HitGates) → Extends old new n → AreHits old event words hits → AreHits new event words hits
hits_later old new n event words hits e a = λ k h at w here. record { reads = means_later old new n _ _ e (a k h at w here).reads; writes = means_later old new n _ _ e (a k h at w here).writes }

pub of_graph_later : (old new : List Node) (n : ℕ) (hits : List HitGates) → Extends old new n → AreOfGraph old hits → AreOfGraph new hits
of_graph_later old new n hits e a = record { reads_of = λ k h at. omega (arith, a.reads_of k h at, e.grows); writes_of = λ k h at. omega (arith, a.writes_of k h at, e.grows) }

pub all_edges_later : (old new : List Node) (n : ℕ) (fields : List Field) (edges : List EdgeGates) → Extends old new n → AllEdges old fields edges → AllEdges new fields edges
all_edges_later old new n fields edges e a = record { one_each = a.one_each; each = λ k g at f here. edges_later old new n f.width g e (a.each k g at f here) }

pub all_next_later : (old new : List Node) (n : ℕ) (fields : List Field) (states : List StateGates) (x : (ℕ → Bool) → Edge) (edges : List EdgeGates) → Extends old new n → AllNext old fields states x edges → AllNext new fields states x edges
all_next_later old new n fields states x edges e a = λ k g at f there s here. next_later old new n f x (stored_number s) s g e (a k g at f there s here)
