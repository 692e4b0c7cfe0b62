use Rattle.gate_graph.specs.Gates.{Respects, wire_value}
use Rattle.gate_graph.proofs.GateLemmas.{respects_old, extends_more}
use Rattle.std.proofs.Common.{◌+◌, ◌&&◌, length, arith}
use Rattle.bit_base.specs.Operators.{is_any}
use Rattle.word_gates.specs.Words.{values}
use Rattle.word_gates.proofs.WordLemmas.{means_same}
use Rattle.field_gates.proofs.EffectLemmas.{written_bits}
use Rattle.field_gates.proofs.sides.written_wire.Goals as goal

pub returns-clause-wire : goal.returns-clause-wire
returns-clause-wire c = means_same _ _ _ _ c.only_if-wire.ensures.wire (λ v r.
    let second : Respects v c.and.new.self = respects_old v _ _ _ c.and-2.ensures.extends r in
    let first : Respects v c.any_wire.new.graph = respects_old v _ _ _ c.and.ensures.extends second in
    rw (c.in_ok-both.ensures.wire.value v r, c.in_ok-touched.ensures.wire.value v first, c.in_ok-may.ensures.wire.value v second, c.inverted.ensures.value v, c.only_if-spent.ensures.wire.value v first)
    (written_bits (is_any (values v c.args.enabled.now)) c.args.field.now.writable (wire_value v c.args.allowed) (c.args.field.now.once && wire_value v c.args.used)))

pub returns-clause-nodes : goal.returns-clause-nodes
returns-clause-nodes c =
    extends_more _ _ _ (length c.args.enabled.now + 1) 1 (length c.args.enabled.now + 2)
    (extends_more _ _ _ (length c.args.enabled.now) 1 (length c.args.enabled.now + 1) c.any_wire.ensures.nodes c.and.ensures.extends (omega arith))
    c.and-2.ensures.extends (omega arith)
