use Rattle.std.proofs.Common.{◌≡◌, ℕ, List, length, take, slice_get, Some}
use Rattle.std.specs.List.{sum_by}
use Rattle.std.specs.declared.vec.Vec.{Vec}
use Rattle.std.specs.declared.alloc.Global.{Global}
use Rattle.gate_graph.specs.declared.wires.Wire.{Wire}
use Rattle.gate_graph.specs.Gates.{Extends}
use Rattle.event_gates.specs.declared.hits.EventGates.{EventGates}
use Rattle.latch_order.specs.declared.latches.StateGates.{StateGates}
use Rattle.map_views.specs.Views.{AllStates}
use Rattle.map_edges.specs.Edges.{AllNext, SeesMap}
use Rattle.machine_edge.specs.Edges.{edge_at}
use Rattle.output_gates.specs.Outputs.{output_gates_of}
use Rattle.machine_gates.proofs.MachineLemmas.{RowIs}
use Rattle.machine_gates.proofs.outputs.all_outputs.Given as goal

abbrev pub invariant-loop-n : goal.invariant-loop-n
invariant-loop-n l = record {
  size : length l.rows.items ≡ l.n;
  extends : Extends l.fn.graph l.graph (sum_by (output_gates_of l.map.fields.items) (take l.n l.map.fields.items));
  outputs : (states : List StateGates) (event : EventGates) (payload : List Wire) → AllStates l.fn.graph l.map.fields.items states → SeesMap l.fn.graph l.map event payload l.hits l.views l.hw (edge_at l.map states event l.hw)
      → AllNext l.fn.graph l.map.fields.items states (edge_at l.map states event l.hw) l.edges → (k : ℕ) (x : Vec (Vec Wire Global) Global) → slice_get l.rows.items k ≡ Some x → RowIs l.graph l.map states event l.hw k x;
}
