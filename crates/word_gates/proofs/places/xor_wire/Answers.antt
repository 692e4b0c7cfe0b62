use Rattle.gate_graph.specs.Gates.{Respects, wire_value}
use Rattle.gate_graph.proofs.GateLemmas.{respects_old}
use Rattle.word_gates.proofs.BitLemmas.{differ_by_gates}
use Rattle.word_gates.proofs.places.xor_wire.Goals as goal

pub returns-clause-wire : goal.returns-clause-wire
returns-clause-wire c = record {
  of = c.in_ok-either.ensures.wire.of;
  value = λ v r.
      let second : Respects v c.and-2.new.self = respects_old v _ _ _ c.or_wire.ensures.extends r in
      let first : Respects v c.and.new.self = respects_old v _ _ _ c.and-2.ensures.extends second in
      rw (c.in_ok-either.ensures.wire.value v r, c.in_ok-left.ensures.wire.value v first, c.in_ok-right.ensures.wire.value v second, c.inverted.ensures.value v, c.inverted-2.ensures.value v)
      (differ_by_gates (wire_value v c.args.a) (wire_value v c.args.b));
}
