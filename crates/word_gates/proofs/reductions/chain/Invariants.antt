use Rattle.std.proofs.Common.{◌*◌}
use Rattle.gate_graph.specs.Gates.{Extends, wire_value}
use Rattle.word_gates.specs.Places.{place_of, gates_of}
use Rattle.word_gates.proofs.WordLemmas.{Along}
use Rattle.word_gates.proofs.PlaceLemmas.{chained_from}
use Rattle.std.specs.Prelude.{◌≡◌, take}
use Rattle.word_gates.specs.Graphs.{carried, place_made}
use Rattle.word_gates.proofs.reductions.chain.Given as goal

abbrev pub invariant-loop-i : goal.invariant-loop-i
invariant-loop-i g l = record {
  extends : Extends l.fn.graph l.graph (l.i * gates_of g.row.OPERATOR);
  along : Along l.graph l.along (λ v x. chained_from (place_of g.row.OPERATOR) v l.a l.i x) (λ v. chained_from (place_of g.row.OPERATOR) v l.a 0 (wire_value v l.fn.start));
  exact : carried (place_made g.row.OPERATOR) l.fn.graph l.fn.start (take l.i l.a) ≡ (l.along, l.graph);
}
