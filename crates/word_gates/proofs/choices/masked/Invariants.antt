use Rattle.std.proofs.Common.{◌≡◌, ◌*◌, ◌&&◌, length}
use Rattle.gate_graph.specs.Gates.{Extends, wire_value}
use Rattle.word_gates.proofs.WordLemmas.{SoFar}
use Rattle.word_gates.proofs.PlaceLemmas.{mapped_from}
use Rattle.std.specs.Prelude.{List, take}
use Rattle.gate_graph.specs.declared.nodes.Node.{Node}
use Rattle.gate_graph.specs.Sharing.{and_of}
use Rattle.word_gates.specs.Graphs.{lanes}
use Rattle.word_gates.proofs.choices.masked.Given as goal

abbrev pub invariant-loop-i : goal.invariant-loop-i
invariant-loop-i l = record {
  extends : Extends l.fn.graph l.graph (l.i * 1);
  size : length l.wires.items ≡ l.i;
  so_far : SoFar l.graph l.wires.items (λ v. mapped_from (λ x. x && wire_value v l.c) v l.a l.i) (λ v. mapped_from (λ x. x && wire_value v l.c) v l.a 0);
  exact : lanes (λ (n : List Node) x. and_of n x l.c) l.fn.graph (take l.i l.a) ≡ (l.wires.items, l.graph);
}
