use Rattle.std.proofs.Common.{refl}
use Rattle.gate_graph.specs.Gates.{Respects}
use Rattle.gate_graph.proofs.GateLemmas.{respects_old, means_later}
use Rattle.word_gates.proofs.WordLemmas.{means_same}
use Rattle.field_gates.proofs.step.sides.Goals as goal

pub returns-clause-written : goal.returns-clause-written
returns-clause-written c =
    means_later _ _ _ _ _ c.by_hardware_wire.ensures.nodes (means_later _ _ _ _ _ c.by_software_wire.ensures.nodes (means_later _ _ _ _ _ c.software_wire.ensures.nodes
    (means_same _ _ _ _ c.in_ok-written.ensures.wire (λ v r. rw c.deref.ensures.value refl))))

pub returns-clause-software : goal.returns-clause-software
returns-clause-software c =
    means_later _ _ _ _ _ c.by_hardware_wire.ensures.nodes (means_later _ _ _ _ _ c.by_software_wire.ensures.nodes
    (means_same _ _ _ _ c.in_ok-software.ensures.wire (λ v r.
    let first : Respects v c.written_wire.new.graph = respects_old v _ _ _ c.software_wire.ensures.nodes r in
    rw (c.in_ok-written.ensures.wire.value v first, c.deref.ensures.value) refl)))

pub returns-clause-by_software : goal.returns-clause-by_software
returns-clause-by_software c =
    means_later _ _ _ _ _ c.by_hardware_wire.ensures.nodes
    (means_same _ _ _ _ c.in_ok-by_software.ensures.wire (λ v r.
    let second : Respects v c.software_wire.new.graph = respects_old v _ _ _ c.by_software_wire.ensures.nodes r in
    let first : Respects v c.written_wire.new.graph = respects_old v _ _ _ c.software_wire.ensures.nodes second in
    rw (c.in_ok-software.ensures.wire.value v second, c.in_ok-written.ensures.wire.value v first, c.deref.ensures.value) refl))

pub returns-clause-by_hardware : goal.returns-clause-by_hardware
returns-clause-by_hardware c =
    means_same _ _ _ _ c.in_ok-by_hardware.ensures.wire (λ v r.
    let third : Respects v c.by_software_wire.new.graph = respects_old v _ _ _ c.by_hardware_wire.ensures.nodes r in
    let second : Respects v c.software_wire.new.graph = respects_old v _ _ _ c.by_software_wire.ensures.nodes third in
    let first : Respects v c.written_wire.new.graph = respects_old v _ _ _ c.software_wire.ensures.nodes second in
    rw (c.in_ok-software.ensures.wire.value v second, c.in_ok-written.ensures.wire.value v first, c.deref.ensures.value) refl)
