use Rattle.gate_graph.specs.Gates.{Respects}
use Rattle.gate_graph.proofs.GateLemmas.{respects_old}
use Rattle.word_gates.specs.Words.{values}
use Rattle.word_gates.proofs.WordLemmas.{shows_same}
use Rattle.field_gates.proofs.EffectLemmas.{place_inverse}
use Rattle.field_gates.proofs.effects.or_not.Goals as goal

pub returns-clause-value : goal.returns-clause-value
returns-clause-value c = shows_same _ _ _ _ c.in_ok-wires.ensures.value (λ v r.
    let before : Respects v c.args.graph.now = respects_old v _ _ _ c.or.ensures.nodes r in
    rw (c.as_slice.ensures.value, (c.in_ok-absent.ensures.value c.args.graph.now c.requires.b_of).value v before) (place_inverse _ (values v c.args.a.now) (values v c.args.b.now)))

pub returns-clause-exact : goal.returns-clause-exact
returns-clause-exact c = rw (c.as_slice.ensures.value, c.in_ok-absent.ensures.exact) at c.in_ok-wires.ensures.exact
