use Rattle.std.proofs.Common.{◌≡◌, ℕ, Bool, length, take, get_or, slice_get, Some}
use Rattle.std.specs.List.{sum_by}
use Rattle.field_policies.specs.declared.field.Field.{Field}
use Rattle.gate_graph.specs.declared.wires.Wire.{Wire}
use Rattle.gate_graph.specs.Gates.{Extends}
use Rattle.reg_machine.specs.Steps.{Edge}
use Rattle.word_gates.specs.Graphs.{off}
use Rattle.latch_order.specs.Latches.{Stored}
use Rattle.field_edges.specs.declared.edge.EdgeGates.{EdgeGates}
use Rattle.field_edges.specs.Edges.{AreEdges}
use Rattle.field_edges.specs.Made.{words_of, views_of, edge_made, each_made}
use Rattle.map_views.specs.Views.{stores_of, pairs_of}
use Rattle.map_edges.specs.Hits.{hits_of}
use Rattle.map_edges.specs.Edges.{SeesMap, AllNext, edge_gates_of, edges_of}
use Rattle.map_edges.proofs.edges.map_edges.Given as goal

abbrev pub invariant-loop-n : goal.invariant-loop-n
invariant-loop-n l = record {
  size : length l.edges.items ≡ l.n;
  extends : Extends l.fn.graph l.graph (sum_by edge_gates_of (take l.n l.map.fields.items));
  of : (n : ℕ) (x : EdgeGates) → slice_get l.edges.items n ≡ Some x → (h : Field) → slice_get l.map.fields.items n ≡ Some h → AreEdges l.graph h.width x;
  next : (e : (ℕ → Bool) → Edge) → SeesMap l.fn.graph l.map l.event l.payload l.hits l.views l.hw e → AllNext l.graph l.map.fields.items l.states e l.edges.items;
  exact : each_made (λ g (p : Field × Stored Wire). edge_made p.0 g p.1 (get_or (hits_of l.hits) p.0.word (off, off)) l.event.strobe.items l.payload (views_of l.views) (words_of l.hw)) l.fn.graph (take l.n (pairs_of l.map.fields.items (stores_of l.states)))
      ≡ (edges_of l.edges.items, l.graph);
}
