use Rattle.std.proofs.Common.{◌≡◌, ◌*◌, length}
use Rattle.std.specs.Prelude.{if◌then◌else◌}
use Rattle.gate_graph.specs.Gates.{Extends, wire_value}
use Rattle.word_gates.proofs.WordLemmas.{SoFar}
use Rattle.word_gates.proofs.PlaceLemmas.{places_from}
use Rattle.std.specs.Prelude.{List, take}
use Rattle.gate_graph.specs.declared.nodes.Node.{Node}
use Rattle.word_gates.specs.Graphs.{lanes, pairs, pick_made}
use Rattle.word_gates.proofs.choices.between.Given as goal

abbrev pub invariant-loop-i : goal.invariant-loop-i
invariant-loop-i l = record {
  extends : Extends l.fn.graph l.graph (l.i * 3);
  size : length l.wires.items ≡ l.i;
  so_far : SoFar l.graph l.wires.items (λ v. places_from (λ x y. if wire_value v l.c then x else y) v l.a l.b l.i) (λ v. places_from (λ x y. if wire_value v l.c then x else y) v l.a l.b 0);
  exact : lanes (λ (n : List Node) p. pick_made n p.0 p.1 l.c) l.fn.graph (take l.i (pairs l.a l.b)) ≡ (l.wires.items, l.graph);
}
