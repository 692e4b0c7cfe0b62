use Rattle.std.proofs.Common.{refl}
use Rattle.gate_graph.specs.Gates.{Respects}
use Rattle.gate_graph.proofs.GateLemmas.{respects_old}
use Rattle.word_gates.proofs.WordLemmas.{shows_same}
use Rattle.extra_gates.proofs.interrupt.cut_word.Goals as goal

pub returns-clause-value : goal.returns-clause-value
returns-clause-value c = shows_same _ _ _ _ c.in_ok-wires.ensures.value (λ v r.
    let before : Respects v c.args.graph.now = respects_old v _ _ _ c.and-2.ensures.nodes r in
    rw (c.if-high.false, c.as_slice.ensures.value, (c.in_ok-opened.ensures.value c.args.graph.now c.requires.filter_of).value v before) refl)
