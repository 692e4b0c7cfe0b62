use Rattle.std.proofs.Common.{◌≡◌, ◌*◌, length}
use Rattle.gate_graph.specs.Gates.{Extends, IsOf, wire_value}
use Rattle.word_gates.proofs.WordLemmas.{SoFar}
use Rattle.word_gates.proofs.RippleLemmas.{sums_from}
use Rattle.std.specs.Prelude.{[], take}
use Rattle.word_gates.specs.Graphs.{carried, pairs, sum_step_made}
use Rattle.word_gates.proofs.sums.sums.Given as goal

abbrev pub invariant-loop-i : goal.invariant-loop-i
invariant-loop-i l = record {
  extends : Extends l.fn.graph l.graph (l.i * 10);
  carry_of : IsOf l.carry l.graph;
  size : length l.wires.items ≡ l.i;
  so_far : SoFar l.graph l.wires.items (λ v. sums_from v l.a l.b l.i (wire_value v l.carry)) (λ v. sums_from v l.a l.b 0 (wire_value v l.fn.start));
  exact : carried sum_step_made l.fn.graph ([], l.fn.start) (take l.i (pairs l.a l.b)) ≡ ((l.wires.items, l.carry), l.graph);
}
