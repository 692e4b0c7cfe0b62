use Rattle.std.proofs.Common.{refl}
use Rattle.gate_graph.specs.Gates.{Respects}
use Rattle.gate_graph.proofs.GateLemmas.{respects_old, means_later}
use Rattle.word_gates.proofs.WordLemmas.{means_same, shows_same, shows_later}
use Rattle.field_gates.specs.FieldStep.{next_word, next_used, next_known}
use Rattle.field_gates.proofs.step.field_step.Goals as goal

pub returns-clause-software : goal.returns-clause-software
returns-clause-software c =
    means_later _ _ _ _ _ c.known_wire.ensures.nodes (means_later _ _ _ _ _ c.next_used_wire.ensures.nodes (means_later _ _ _ _ _ c.next_word.ensures.nodes
    (means_later _ _ _ _ _ c.software_word.ensures.nodes c.in_ok-sides.ensures.software)))

pub returns-clause-value : goal.returns-clause-value
unfolding next_word
returns-clause-value c =
    shows_later _ _ _ _ _ c.known_wire.ensures.nodes (shows_later _ _ _ _ _ c.next_used_wire.ensures.nodes
    (shows_same _ _ _ _ c.in_ok-value.ensures.value (λ v r.
    let second : Respects v c.software_word.new.graph = respects_old v _ _ _ c.next_word.ensures.nodes r in
    let first : Respects v c.sides.new.graph = respects_old v _ _ _ c.software_word.ensures.nodes second in
    rw (
      c.in_ok-sides.ensures.by_software.value v first,
      c.in_ok-sides.ensures.by_hardware.value v first,
      c.as_slice.ensures.value,
      c.in_ok-soft.ensures.value.value v second,
      c.in_ok-sides.ensures.written.value v first,
      c.deref.ensures.value,
      c.deref-2.ensures.value,
      c.deref-3.ensures.value,
      c.deref-4.ensures.value,
      c.deref-5.ensures.value,
      c.deref-6.ensures.value,
    )
    refl)))

pub returns-clause-used : goal.returns-clause-used
unfolding next_used
returns-clause-used c =
    means_later _ _ _ _ _ c.known_wire.ensures.nodes
    (means_same _ _ _ _ c.in_ok-used.ensures.wire (λ v r.
    let third : Respects v c.next_word.new.graph = respects_old v _ _ _ c.next_used_wire.ensures.nodes r in
    let second : Respects v c.software_word.new.graph = respects_old v _ _ _ c.next_word.ensures.nodes third in
    let first : Respects v c.sides.new.graph = respects_old v _ _ _ c.software_word.ensures.nodes second in
    rw (c.in_ok-sides.ensures.written.value v first) refl))

pub returns-clause-known : goal.returns-clause-known
unfolding next_known
returns-clause-known c =
    means_same _ _ _ _ c.in_ok-known.ensures.wire (λ v r.
    let fourth : Respects v c.next_used_wire.new.graph = respects_old v _ _ _ c.known_wire.ensures.nodes r in
    let third : Respects v c.next_word.new.graph = respects_old v _ _ _ c.next_used_wire.ensures.nodes fourth in
    let second : Respects v c.software_word.new.graph = respects_old v _ _ _ c.next_word.ensures.nodes third in
    let first : Respects v c.sides.new.graph = respects_old v _ _ _ c.software_word.ensures.nodes second in
    rw (c.in_ok-sides.ensures.written.value v first, c.in_ok-sides.ensures.software.value v first, c.in_ok-sides.ensures.by_software.value v first, c.in_ok-sides.ensures.by_hardware.value v first) refl)
