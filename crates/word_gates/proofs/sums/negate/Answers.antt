use Rattle.std.proofs.Common.{length, sym}
use Rattle.gate_graph.specs.Gates.{Respects}
use Rattle.gate_graph.proofs.GateLemmas.{respects_old}
use Rattle.word_gates.specs.Words.{values}
use Rattle.word_gates.proofs.WordLemmas.{shows_same, length-values}
use Rattle.word_gates.proofs.SumLaws.{negation_is}
use Rattle.word_gates.proofs.RippleLemmas.{shows_repeated}
use Rattle.word_gates.specs.Graphs.{negate_made}
use Rattle.word_gates.proofs.ExactLemmas.{off_is}
use Rattle.word_gates.proofs.sums.negate.Goals as goal

pub returns-clause-value : goal.returns-clause-value
returns-clause-value c = shows_same _ _ _ _ c.in_ok-wires.ensures.value (λ v r.
    let before : Respects v c.args.graph.now = respects_old v _ _ _ c.sub.ensures.nodes r in
    rw (c.as_slice.ensures.value, c.in_ok-zeros.ensures, (shows_repeated _ _ _ (length c.args.a.now) c.zero-zero.ensures.value).value v before)
    (negation_is (length c.args.a.now) (values v c.args.a.now) (sym (length-values v c.args.a.now))))

pub returns-clause-exact : goal.returns-clause-exact
unfolding negate_made
returns-clause-exact c = rw (c.as_slice.ensures.value, c.in_ok-zeros.ensures, off_is c.zero-zero.result c.zero-zero.ensures.wire) at c.in_ok-wires.ensures.exact
