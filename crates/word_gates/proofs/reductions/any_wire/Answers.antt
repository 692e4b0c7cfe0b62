use Rattle.std.proofs.Common.{arith}
use Rattle.gate_graph.proofs.GateLemmas.{respects_old}
use Rattle.word_gates.specs.Words.{values}
use Rattle.word_gates.proofs.WordLemmas.{extends_at, means_same}
use Rattle.word_gates.proofs.ReductionLaws.{any_is}
use Rattle.word_gates.specs.Graphs.{any_made}
use Rattle.word_gates.proofs.ExactLemmas.{off_is}
use Rattle.word_gates.proofs.reductions.any_wire.Goals as goal

pub returns-clause-nodes : goal.returns-clause-nodes
returns-clause-nodes c = extends_at _ _ _ _ c.chain.ensures.nodes (omega arith)

pub returns-clause-wire : goal.returns-clause-wire
returns-clause-wire c = means_same _ _ _ _ c.in_ok-wire.ensures.wire (λ v r.
    rw (c.zero-start.ensures.value.value v (respects_old v _ _ _ c.chain.ensures.nodes r)) (any_is (values v c.args.a.now)))

pub returns-clause-exact : goal.returns-clause-exact
unfolding any_made
returns-clause-exact c = rw (off_is c.zero-start.result c.zero-start.ensures.wire) at c.in_ok-wire.ensures.exact
