use Rattle.std.proofs.Common.{arith}
use Rattle.gate_graph.proofs.GateLemmas.{respects_old}
use Rattle.word_gates.specs.Words.{values}
use Rattle.word_gates.proofs.WordLemmas.{extends_at, shows_one, means_same}
use Rattle.word_gates.proofs.ReductionLaws.{all_is}
use Rattle.std.proofs.Common.{List, ap, sym, ◌∙◌}
use Rattle.gate_graph.specs.declared.wires.Wire.{Wire}
use Rattle.word_gates.specs.Graphs.{one_made, all_made}
use Rattle.word_gates.proofs.ExactLemmas.{off_is}
use Rattle.word_gates.proofs.reductions.all.Goals as goal

pub returns-clause-nodes : goal.returns-clause-nodes
returns-clause-nodes c = extends_at _ _ _ _ c.chain.ensures.nodes (omega arith)

pub returns-clause-value : goal.returns-clause-value
returns-clause-value c = rw c.in_ok-wires.ensures (shows_one _ _ _ (means_same _ _ _ _ c.in_ok-wire.ensures.wire (λ v r.
    rw (c.inverted-start.ensures.value v, c.zero.ensures.value.value v (respects_old v _ _ _ c.chain.ensures.nodes r)) (all_is (values v c.args.a.now)))))

pub returns-clause-exact : goal.returns-clause-exact
unfolding all_made
returns-clause-exact c =
    let made = rw (c.inverted-start.ensures.exact, off_is c.zero.result c.zero.ensures.wire) at c.in_ok-wire.ensures.exact in
    ap one_made made ∙ ap (λ (ws : List Wire). (ws, c.chain.new.graph)) (sym c.in_ok-wires.ensures)
