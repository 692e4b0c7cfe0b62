use Rattle.std.proofs.Common.{◌≡◌, ◌+◌, ◌*◌, length, map, take}
use Rattle.gate_graph.specs.Gates.{Extends}
use Rattle.event_gates.specs.Graphs.{hit_made}
use Rattle.field_edges.specs.Made.{each_made}
use Rattle.map_edges.specs.Hits.{AreHits, hit_wires}
use Rattle.map_edges.proofs.hits.hit_words.Given as goal

abbrev pub invariant-loop-n : goal.invariant-loop-n
invariant-loop-n l = record {
  size : length l.hits.items ≡ l.n;
  extends : Extends l.fn.graph l.graph (l.n * (length l.event.address.items + 3));
  hits : AreHits l.graph l.event l.words l.hits.items;
  exact : each_made (λ g a. hit_made g l.event a) l.fn.graph (take l.n l.words) ≡ (map hit_wires l.hits.items, l.graph);
}
