use Rattle.std.proofs.Common.{◌≡◌, ◌*◌, length}
use Rattle.gate_graph.specs.Gates.{Extends}
use Rattle.word_gates.specs.Words.{values, Shows}
use Rattle.word_gates.proofs.ProductLaws.{product_upto}
use Rattle.std.specs.Prelude.{take, replicate}
use Rattle.word_gates.specs.Graphs.{off, carried, row_step_made}
use Rattle.word_gates.proofs.products.mul.Given as goal

abbrev pub invariant-loop-i : goal.invariant-loop-i
invariant-loop-i l = record {
  extends : Extends l.fn.graph l.graph (l.i * (11 * length l.a));
  size : length l.sum.items ≡ length l.a;
  shows : Shows l.graph l.sum.items (λ v. product_upto (values v l.a) (values v l.b) l.i);
  exact : carried (row_step_made l.a) l.fn.graph (replicate (length l.a) off, 0) (take l.i l.b) ≡ ((l.sum.items, l.i), l.graph);
}
