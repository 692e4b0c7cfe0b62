use Rattle.std.proofs.Common.{arith, ap, length, ◌∙◌}
use Rattle.gate_graph.specs.Gates.{Respects}
use Rattle.gate_graph.proofs.GateLemmas.{respects_old, extends_more}
use Rattle.bit_base.specs.Operators.{xnor_of}
use Rattle.word_gates.specs.Words.{values}
use Rattle.word_gates.proofs.WordLemmas.{shows_one, means_same, same_length}
use Rattle.word_gates.proofs.ReductionLaws.{all_is, equal_is}
use Rattle.std.proofs.Common.{List, sym}
use Rattle.gate_graph.specs.declared.nodes.Node.{Node}
use Rattle.gate_graph.specs.declared.wires.Wire.{Wire}
use Rattle.word_gates.specs.Graphs.{on, one_made, chain_made, all_made, equal_made}
use Rattle.word_gates.proofs.ExactLemmas.{off_is}
use Rattle.word_gates.proofs.reductions.equal.Goals as goal

pub returns-clause-nodes : goal.returns-clause-nodes
returns-clause-nodes c = extends_more _ _ _ _ _ _ c.bitwise.ensures.nodes c.chain.ensures.nodes (omega (arith, c.in_ok-same.ensures.length, ap length c.as_slice.ensures.value))

pub returns-clause-value : goal.returns-clause-value
returns-clause-value c = rw c.in_ok-wires.ensures (shows_one _ _ _ (means_same _ _ _ _ c.in_ok-wire.ensures.wire (λ v r.
    let before : Respects v c.bitwise.new.graph = respects_old v _ _ _ c.chain.ensures.nodes r in
    rw (c.inverted-start.ensures.value v, c.zero.ensures.value.value v before, c.as_slice.ensures.value, c.in_ok-same.ensures.value.value v before)
    (all_is (xnor_of (values v c.args.a.now) (values v c.args.b.now)) ∙ equal_is (values v c.args.a.now) (values v c.args.b.now) (same_length v c.args.a.now c.args.b.now c.requires.lengths)))))

pub returns-clause-exact : goal.returns-clause-exact
unfolding equal_made all_made
returns-clause-exact c =
    let made = rw (c.as_slice.ensures.value, c.inverted-start.ensures.exact, off_is c.zero.result c.zero.ensures.wire) at c.in_ok-wire.ensures.exact in
    ap (λ (r : List Wire × List Node). one_made (chain_made 0 r.1 on r.0)) c.in_ok-same.ensures.exact ∙ (ap one_made made ∙ ap (λ (ws : List Wire). (ws, c.chain.new.graph)) (sym c.in_ok-wires.ensures))
