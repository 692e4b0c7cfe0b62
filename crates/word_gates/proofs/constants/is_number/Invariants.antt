use Rattle.std.proofs.Common.{◌≡◌, ◌*◌, ◌&&◌, ◌==◌, drop}
use Rattle.std.specs.Prelude.{take}
use Rattle.gate_graph.specs.Gates.{Extends}
use Rattle.bit_base.specs.Numbers.{number_of}
use Rattle.word_gates.specs.Graphs.{on, carried, number_step_made}
use Rattle.word_gates.specs.Words.{values}
use Rattle.word_gates.proofs.WordLemmas.{Along}
use Rattle.word_gates.proofs.constants.is_number.Given as goal

abbrev pub invariant-loop-i : goal.invariant-loop-i
invariant-loop-i l = record {
  extends : Extends l.fn.graph l.graph (l.i * 1);
  along : Along l.graph l.found (λ v x. x && (number_of (values v (drop l.i l.a)) == l.left)) (λ v. number_of (values v l.a) == l.fn.number);
  exact : carried number_step_made l.fn.graph (on, l.fn.number) (take l.i l.a) ≡ ((l.found, l.left), l.graph);
}
