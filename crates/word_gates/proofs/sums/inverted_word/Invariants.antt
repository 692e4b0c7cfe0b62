use Rattle.std.proofs.Common.{◌≡◌, List, not, length}
use Rattle.gate_graph.specs.declared.nodes.Node.{Node}
use Rattle.gate_graph.specs.Gates.{AreOf}
use Rattle.word_gates.proofs.WordLemmas.{SoFar}
use Rattle.word_gates.proofs.PlaceLemmas.{mapped_from}
use Rattle.std.specs.Prelude.{map, take}
use Rattle.word_gates.specs.Graphs.{inverse}
use Rattle.word_gates.proofs.sums.inverted_word.Given as goal

abbrev pub invariant-loop-i : goal.invariant-loop-i
invariant-loop-i l = record {
  size : length l.wires.items ≡ l.i;
  so_far : (nodes : List Node) → AreOf l.a nodes → SoFar nodes l.wires.items (λ v. mapped_from not v l.a l.i) (λ v. mapped_from not v l.a 0);
  exact : l.wires.items ≡ map inverse (take l.i l.a);
}
