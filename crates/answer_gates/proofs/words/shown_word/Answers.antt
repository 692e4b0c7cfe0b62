use Rattle.std.proofs.Common.{refl}
use Rattle.gate_graph.specs.Gates.{Respects}
use Rattle.gate_graph.proofs.GateLemmas.{respects_old}
use Rattle.word_gates.proofs.WordLemmas.{shows_same}
use Rattle.answer_gates.proofs.words.shown_word.Goals as goal

pub returns-clause-value : goal.returns-clause-value
returns-clause-value c = shows_same _ _ _ _ c.in_ok-wires.ensures.value (λ v r.
    let bits : Respects v c.masked.new.graph = respects_old v _ _ _ c.joined_word.ensures.nodes r in
    let after : Respects v c.and.new.self = respects_old v _ _ _ c.masked.ensures.nodes bits in
    rw (
      c.as_slice.ensures.value,
      c.in_ok-bits.ensures.value.value v bits,
      c.in_ok-shown.ensures.wire.value v after,
      c.only_if-open.ensures.wire.value v (respects_old v _ _ _ c.and.ensures.extends after),
    )
    refl)
