use Rattle.std.proofs.Common.{◌≡◌, ◌*◌, take}
use Rattle.std.specs.List.{list_any}
use Rattle.gate_graph.specs.Gates.{Extends, Means}
use Rattle.word_gates.specs.Graphs.{off, carried}
use Rattle.event_gates.specs.Events.{event_at}
use Rattle.map_edges.specs.Hits.{hits_of}
use Rattle.map_answers.specs.Errors.{is_at, found_step_made}
use Rattle.map_answers.proofs.error.found_wire.Given as goal

abbrev pub invariant-loop-n : goal.invariant-loop-n
invariant-loop-n l = record {
  extends : Extends l.fn.graph l.graph (l.n * 2);
  wire : Means l.graph l.found (λ v. list_any (is_at (event_at v l.event)) (take l.n l.words));
  exact : carried found_step_made l.fn.graph off (take l.n (hits_of l.hits)) ≡ (l.found, l.graph);
}
