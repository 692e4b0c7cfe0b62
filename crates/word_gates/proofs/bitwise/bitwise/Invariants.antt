use Rattle.std.proofs.Common.{◌≡◌, ◌*◌, length}
use Rattle.gate_graph.specs.Gates.{Extends}
use Rattle.word_gates.specs.Places.{place_of, gates_of}
use Rattle.word_gates.proofs.WordLemmas.{SoFar}
use Rattle.word_gates.proofs.PlaceLemmas.{places_from}
use Rattle.std.specs.Prelude.{List, take}
use Rattle.gate_graph.specs.declared.nodes.Node.{Node}
use Rattle.word_gates.specs.Graphs.{lanes, pairs, place_made}
use Rattle.word_gates.proofs.bitwise.bitwise.Given as goal

abbrev pub invariant-loop-i : goal.invariant-loop-i
invariant-loop-i g l = record {
  extends : Extends l.fn.graph l.graph (l.i * gates_of g.row.OPERATOR);
  size : length l.wires.items ≡ l.i;
  so_far : SoFar l.graph l.wires.items (λ v. places_from (place_of g.row.OPERATOR) v l.a l.b l.i) (λ v. places_from (place_of g.row.OPERATOR) v l.a l.b 0);
  exact : lanes (λ (n : List Node) p. place_made g.row.OPERATOR n p.0 p.1) l.fn.graph (take l.i (pairs l.a l.b)) ≡ (l.wires.items, l.graph);
}
