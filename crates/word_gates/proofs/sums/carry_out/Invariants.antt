use Rattle.std.proofs.Common.{◌*◌}
use Rattle.gate_graph.specs.Gates.{Extends, wire_value}
use Rattle.word_gates.proofs.WordLemmas.{Along}
use Rattle.word_gates.proofs.RippleLemmas.{carries_from}
use Rattle.std.specs.Prelude.{◌≡◌, List, take}
use Rattle.gate_graph.specs.declared.nodes.Node.{Node}
use Rattle.gate_graph.specs.declared.wires.Wire.{Wire}
use Rattle.word_gates.specs.Graphs.{carried, pairs, carry_made}
use Rattle.word_gates.proofs.sums.carry_out.Given as goal

abbrev pub invariant-loop-i : goal.invariant-loop-i
invariant-loop-i l = record {
  extends : Extends l.fn.graph l.graph (l.i * 4);
  along : Along l.graph l.carry (λ v x. carries_from v l.a l.b l.i x) (λ v. carries_from v l.a l.b 0 (wire_value v l.fn.start));
  exact : carried (λ (n : List Node) (s : Wire) p. carry_made n p.0 p.1 s) l.fn.graph l.fn.start (take l.i (pairs l.a l.b)) ≡ (l.carry, l.graph);
}
