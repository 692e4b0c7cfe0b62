use Rattle.gate_graph.specs.Gates.{Respects}
use Rattle.gate_graph.proofs.GateLemmas.{respects_old}
use Rattle.word_gates.specs.Words.{values}
use Rattle.word_gates.proofs.WordLemmas.{shows_same, same_length}
use Rattle.word_gates.proofs.SumLaws.{difference_is}
use Rattle.word_gates.specs.Graphs.{sub_made}
use Rattle.word_gates.proofs.ExactLemmas.{off_is}
use Rattle.word_gates.proofs.sums.sub.Goals as goal

pub returns-clause-value : goal.returns-clause-value
returns-clause-value c = shows_same _ _ _ _ c.in_ok-wires.ensures.value (λ v r.
    let before : Respects v c.args.graph.now = respects_old v _ _ _ c.sums.ensures.nodes r in
    rw (c.inverted-start.ensures.value v, c.zero.ensures.value.value v before, c.as_slice.ensures.value, (c.in_ok-opposite.ensures.value c.args.graph.now c.requires.b_of).value v before)
    (difference_is (values v c.args.a.now) (values v c.args.b.now) (same_length v c.args.a.now c.args.b.now c.requires.lengths)))

pub returns-clause-exact : goal.returns-clause-exact
unfolding sub_made
returns-clause-exact c = rw (c.as_slice.ensures.value, c.in_ok-opposite.ensures.exact, c.inverted-start.ensures.exact, off_is c.zero.result c.zero.ensures.wire) at c.in_ok-wires.ensures.exact
