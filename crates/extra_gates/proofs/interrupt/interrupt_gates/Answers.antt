use Rattle.gate_graph.specs.Gates.{Respects}
use Rattle.gate_graph.proofs.GateLemmas.{respects_old, means_later}
use Rattle.word_gates.specs.Words.{values}
use Rattle.word_gates.proofs.WordLemmas.{shows_same, means_same, same_length, length-values}
use Rattle.extra_gates.proofs.InterruptLaws.{active_is, taken_is}
use Rattle.extra_gates.proofs.interrupt.interrupt_gates.Goals as goal

pub returns-clause-active : goal.returns-clause-active
returns-clause-active c = means_later _ _ _ _ _ c.taken_word.ensures.nodes (means_same _ _ _ _ c.in_ok-active.ensures.wire (λ v r.
    let second : Respects v c.any_wire-2.new.graph = respects_old v _ _ _ c.and.ensures.extends r in
    let first : Respects v c.any_wire.new.graph = respects_old v _ _ _ c.any_wire-2.ensures.nodes second in
    rw (c.in_ok-some.ensures.wire.value v first, c.inverted.ensures.value v, c.only_if-held.ensures.wire.value v second, c.in_ok-there.ensures.wire.value v second)
    (active_is c.args.sticky (values v c.args.value.now) (values v c.args.payload.now))))

pub returns-clause-value : goal.returns-clause-value
returns-clause-value c = shows_same _ _ _ _ c.in_ok-value.ensures.value (λ v r.
    let third : Respects v c.and.new.self = respects_old v _ _ _ c.taken_word.ensures.nodes r in
    let second : Respects v c.any_wire-2.new.graph = respects_old v _ _ _ c.and.ensures.extends third in
    let first : Respects v c.any_wire.new.graph = respects_old v _ _ _ c.any_wire-2.ensures.nodes second in
    let long = same_length v c.args.value.now c.args.payload.now c.requires.lengths in
    rw (c.in_ok-active.ensures.wire.value v third, c.in_ok-some.ensures.wire.value v first, c.inverted.ensures.value v, c.only_if-held.ensures.wire.value v second, c.in_ok-there.ensures.wire.value v second)
    (rw (length-values v c.args.value.now) at (taken_is c.args.sticky (values v c.args.value.now) (values v c.args.payload.now) long)))
