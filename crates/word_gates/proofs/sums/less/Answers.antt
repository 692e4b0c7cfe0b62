use Rattle.gate_graph.specs.Gates.{Respects}
use Rattle.gate_graph.proofs.GateLemmas.{respects_old}
use Rattle.word_gates.specs.Words.{values}
use Rattle.word_gates.proofs.WordLemmas.{shows_one, same_length}
use Rattle.word_gates.proofs.SumLaws.{less_is}
use Rattle.word_gates.proofs.RippleLemmas.{means_inverted}
use Rattle.std.proofs.Common.{List, [], ◌∷◌, ap, sym, ◌∙◌}
use Rattle.gate_graph.specs.declared.nodes.Node.{Node}
use Rattle.gate_graph.specs.declared.wires.Wire.{Wire}
use Rattle.word_gates.specs.Graphs.{one_made, inverted_made, less_made}
use Rattle.word_gates.proofs.ExactLemmas.{off_is}
use Rattle.word_gates.proofs.sums.less.Goals as goal

pub returns-clause-value : goal.returns-clause-value
returns-clause-value c = rw c.in_ok-wires.ensures (shows_one _ _ _ record {
  of = (means_inverted _ _ _ c.in_ok-carry.ensures.wire.of c.inverted-wire.ensures.node c.inverted-wire.ensures.value).of;
  value = λ v r.
      let before : Respects v c.args.graph.now = respects_old v _ _ _ c.carry_out.ensures.nodes r in
      rw (
        c.inverted-wire.ensures.value v,
        c.in_ok-carry.ensures.wire.value v r,
        c.inverted-start.ensures.value v,
        c.zero.ensures.value.value v before,
        c.as_slice.ensures.value,
        (c.in_ok-opposite.ensures.value c.args.graph.now c.requires.b_of).value v before,
      )
      (less_is (values v c.args.a.now) (values v c.args.b.now) (same_length v c.args.a.now c.args.b.now c.requires.lengths));
})

pub returns-clause-exact : goal.returns-clause-exact
unfolding less_made
returns-clause-exact c =
    let carry = rw (c.as_slice.ensures.value, c.in_ok-opposite.ensures.exact, c.inverted-start.ensures.exact, off_is c.zero.result c.zero.ensures.wire) at c.in_ok-carry.ensures.exact in
    ap (λ (m : Wire × List Node). one_made (inverted_made m)) carry
    ∙ (ap (λ (w : Wire). (w ∷ [], c.carry_out.new.graph)) (sym c.inverted-wire.ensures.exact) ∙ ap (λ (ws : List Wire). (ws, c.carry_out.new.graph)) (sym c.in_ok-wires.ensures))
