use Rattle.gate_graph.proofs.GateLemmas.{respects_old}
use Rattle.word_gates.specs.Words.{values}
use Rattle.word_gates.proofs.WordLemmas.{shows_same, same_length}
use Rattle.word_gates.proofs.SumLaws.{sum_is}
use Rattle.word_gates.specs.Graphs.{add_made}
use Rattle.word_gates.proofs.ExactLemmas.{off_is}
use Rattle.word_gates.proofs.sums.add.Goals as goal

pub returns-clause-value : goal.returns-clause-value
returns-clause-value c = shows_same _ _ _ _ c.in_ok-wires.ensures.value (λ v r.
    rw (c.zero-start.ensures.value.value v (respects_old v _ _ _ c.sums.ensures.nodes r))
    (sum_is (values v c.args.a.now) (values v c.args.b.now) (same_length v c.args.a.now c.args.b.now c.requires.lengths)))

pub returns-clause-exact : goal.returns-clause-exact
unfolding add_made
returns-clause-exact c = rw (off_is c.zero-start.result c.zero-start.ensures.wire) at c.in_ok-wires.ensures.exact
