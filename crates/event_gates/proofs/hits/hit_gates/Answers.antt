use Rattle.bit_base.specs.Numbers.{number_of}
use Rattle.gate_graph.specs.Gates.{Respects, wire_value}
use Rattle.gate_graph.proofs.GateLemmas.{respects_old, means_later}
use Rattle.word_gates.specs.Words.{values}
use Rattle.word_gates.proofs.WordLemmas.{means_same}
use Rattle.event_gates.proofs.EventLemmas.{read_bits, write_bits, events_later}
use Rattle.event_gates.proofs.hits.hit_gates.Goals as goal

pub write_wire-requires-clause-event : goal.write_wire-requires-clause-event
write_wire-requires-clause-event c = events_later _ _ _ _ c.is_number.ensures.nodes c.requires.event

pub returns-clause-reads : goal.returns-clause-reads
returns-clause-reads c = means_later _ _ _ _ _ c.and-2.ensures.extends (means_same _ _ _ _ c.in_ok-reads.ensures.wire (λ v r.
    let second : Respects v c.write_wire.new.graph = respects_old v _ _ _ c.and.ensures.extends r in
    let first : Respects v c.is_number.new.graph = respects_old v _ _ _ c.write_wire.ensures.nodes second in
    rw (c.in_ok-at.ensures.wire.value v first, c.deref.ensures.value)
    (read_bits (wire_value v c.args.event.now.read) (wire_value v c.args.event.now.write) (number_of (values v c.args.event.now.address.items)) (number_of (values v c.args.event.now.payload.items)) (number_of (values v c.args.event.now.strobe.items)) c.args.address)))

pub returns-clause-writes : goal.returns-clause-writes
returns-clause-writes c = means_same _ _ _ _ c.in_ok-writes.ensures.wire (λ v r.
    let third : Respects v c.and.new.self = respects_old v _ _ _ c.and-2.ensures.extends r in
    let second : Respects v c.write_wire.new.graph = respects_old v _ _ _ c.and.ensures.extends third in
    let first : Respects v c.is_number.new.graph = respects_old v _ _ _ c.write_wire.ensures.nodes second in
    rw (c.in_ok-only.ensures.wire.value v second, c.in_ok-at.ensures.wire.value v first, c.deref.ensures.value)
    (write_bits (wire_value v c.args.event.now.read) (wire_value v c.args.event.now.write) (number_of (values v c.args.event.now.address.items)) (number_of (values v c.args.event.now.payload.items)) (number_of (values v c.args.event.now.strobe.items)) c.args.address))
