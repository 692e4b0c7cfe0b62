use Rattle.std.proofs.Common.{◌≡◌, ◌==◌, ◌*◌, ◌^◌, length, take}
use Rattle.gate_graph.specs.Gates.{Extends, wire_value}
use Rattle.bit_base.specs.Numbers.{number_of}
use Rattle.word_gates.specs.Moving.{moved_by}
use Rattle.word_gates.specs.Words.{values, Shows}
use Rattle.word_gates.specs.Graphs.{carried, stage_made}
use Rattle.word_gates.proofs.moves.barrel.Given as goal

abbrev pub invariant-loop-k : goal.invariant-loop-k
invariant-loop-k g l = record {
  extends : Extends l.fn.graph l.graph (l.k * (3 * length l.a));
  size : length l.word.items ≡ length l.a;
  power : l.places ≡ 2 ^ l.k;
  shows : Shows l.graph l.word.items (λ v. moved_by (g.row.DIRECTION == 0) (number_of (take l.k (values v l.amount))) (wire_value v l.fill) (values v l.a));
  exact : carried (stage_made (g.row.DIRECTION == 0) l.fill) l.fn.graph (l.a, 1) (take l.k l.amount) ≡ ((l.word.items, l.places), l.graph);
}
