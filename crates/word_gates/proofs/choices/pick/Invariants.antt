use Rattle.std.proofs.Common.{◌≡◌, ◌*◌, length}
use Rattle.gate_graph.specs.Gates.{Extends}
use Rattle.word_gates.proofs.WordLemmas.{SoFar}
use Rattle.word_gates.proofs.PlaceLemmas.{picked_from}
use Rattle.std.specs.Prelude.{List, take}
use Rattle.gate_graph.specs.declared.nodes.Node.{Node}
use Rattle.word_gates.specs.Graphs.{lanes, triples, pick_made}
use Rattle.word_gates.proofs.choices.pick.Given as goal

abbrev pub invariant-loop-i : goal.invariant-loop-i
invariant-loop-i l = record {
  extends : Extends l.fn.graph l.graph (l.i * 3);
  size : length l.wires.items ≡ l.i;
  so_far : SoFar l.graph l.wires.items (λ v. picked_from v l.a l.b l.c l.i) (λ v. picked_from v l.a l.b l.c 0);
  exact : lanes (λ (n : List Node) p. pick_made n p.0 p.1.0 p.1.1) l.fn.graph (take l.i (triples l.a l.b l.c)) ≡ (l.wires.items, l.graph);
}
