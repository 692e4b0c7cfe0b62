use Rattle.std.proofs.Common.{not, is_some}
use Rattle.gate_graph.specs.Gates.{Respects, wire_value}
use Rattle.gate_graph.proofs.GateLemmas.{respects_old}
use Rattle.word_gates.proofs.WordLemmas.{means_same}
use Rattle.field_gates.proofs.EffectLemmas.{known_bits, extends_five}
use Rattle.field_gates.proofs.known.known_wire.Goals as goal

pub returns-clause-wire : goal.returns-clause-wire
returns-clause-wire c = means_same _ _ _ _ c.in_ok-wire.ensures.wire (λ v r.
    let r4 : Respects v c.and-2.new.self = respects_old v _ _ _ c.either_wire.ensures.nodes r in
    let r3 : Respects v c.and.new.self = respects_old v _ _ _ c.and-2.ensures.extends r4 in
    let r2 : Respects v c.by_write_wire.new.graph = respects_old v _ _ _ c.and.ensures.extends r3 in
    let r1 : Respects v c.covered_wire.new.graph = respects_old v _ _ _ c.by_write_wire.ensures.nodes r2 in
    rw (
      c.in_ok-soft.ensures.wire.value v r2,
      c.in_ok-covered.ensures.wire.value v r1,
      c.deref.ensures.value,
      c.in_ok-hard.ensures.wire.value v r3,
      c.only_if-every.ensures.wire.value v r2,
      c.is_some.ensures,
      c.only_if-falls.ensures.wire.value v r4,
      c.in_ok-quiet.ensures.wire.value v r4,
      c.inverted.ensures.value v,
      c.inverted-2.ensures.value v,
    )
    (known_bits (wire_value v c.args.seen.now.known) _ (wire_value v c.args.sides.by_hardware) (is_some c.args.field.now.bit_gate) (wire_value v c.args.seen.now.whole)
    (not (wire_value v c.args.sides.software)) (not (wire_value v c.args.seen.now.active)) c.args.field.now.pulse))

pub returns-clause-nodes : goal.returns-clause-nodes
returns-clause-nodes c = extends_five _ _ _ _ _ _ _ (rw (c.deref.ensures.value, c.requires.seen.enabled_length) at c.covered_wire.ensures.nodes) c.by_write_wire.ensures.nodes c.and.ensures.extends c.and-2.ensures.extends c.either_wire.ensures.nodes

pub returns-in_err-wire-clause-nodes : goal.returns-in_err-wire-clause-nodes
returns-in_err-wire-clause-nodes c = extends_five _ _ _ _ _ _ _ (rw (c.deref.ensures.value, c.requires.seen.enabled_length) at c.covered_wire.ensures.nodes) c.by_write_wire.ensures.nodes c.and.ensures.extends c.and-2.ensures.extends c.either_wire.ensures.nodes
