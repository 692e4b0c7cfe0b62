use Rattle.gate_graph.specs.Gates.{Respects}
use Rattle.gate_graph.proofs.GateLemmas.{respects_old}
use Rattle.word_gates.specs.Words.{values}
use Rattle.word_gates.proofs.WordLemmas.{means_same, same_length, length-values}
use Rattle.extra_gates.proofs.InterruptLaws.{raised_some}
use Rattle.extra_gates.proofs.NumberLemmas.{any_is}
use Rattle.extra_gates.proofs.interrupt.raised_wire.Goals as goal

pub returns-in_ok-wire-in-None-clause-wire : goal.returns-in_ok-wire-in-None-clause-wire
returns-in_ok-wire-in-None-clause-wire c = means_same _ _ _ _ c.in_ok-wire-in-None.ensures.wire (λ v r. rw c.in-None.is (any_is (values v c.args.value.now)))

pub returns-in_ok-wire-in-Some-clause-wire : goal.returns-in_ok-wire-in-Some-clause-wire
returns-in_ok-wire-in-Some-clause-wire c = means_same _ _ _ _ c.in_ok-wire-in-Some.ensures.wire (λ v r.
    let before : Respects v c.cut_word.new.graph = respects_old v _ _ _ c.any_wire-in-Some.ensures.nodes r in
    let long = same_length v c.args.value.now c.args.bits.now c.requires.lengths in
    rw (c.in-Some.is, c.as_slice.ensures.value, c.in_ok-cut-in-Some.ensures.value.value v before)
    (rw (length-values v c.args.value.now) at (raised_some c.in-Some.gate (values v c.args.value.now) (values v c.args.bits.now) long)))
