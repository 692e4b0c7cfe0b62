use Rattle.std.proofs.Common.{arith, refl}
use Rattle.gate_graph.specs.Gates.{Respects}
use Rattle.gate_graph.proofs.GateLemmas.{respects_old, extends_more}
use Rattle.word_gates.proofs.places.carry_wire.Goals as goal

pub returns-clause-extends : goal.returns-clause-extends
returns-clause-extends c =
    extends_more _ _ _ 3 1 4 (extends_more _ _ _ 2 1 3 (extends_more _ _ _ 1 1 2 c.and.ensures.extends c.or_wire.ensures.extends (omega arith)) c.and-2.ensures.extends (omega arith)) c.or_wire-2.ensures.extends (omega arith)

pub returns-clause-wire : goal.returns-clause-wire
returns-clause-wire c = record {
  of = c.in_ok-carried.ensures.wire.of;
  value = λ v r.
      let third : Respects v c.and-2.new.self = respects_old v _ _ _ c.or_wire-2.ensures.extends r in
      let second : Respects v c.or_wire.new.graph = respects_old v _ _ _ c.and-2.ensures.extends third in
      let first : Respects v c.and.new.self = respects_old v _ _ _ c.or_wire.ensures.extends second in
      rw (c.in_ok-carried.ensures.wire.value v r, c.in_ok-both.ensures.wire.value v first, c.in_ok-through.ensures.wire.value v third, c.in_ok-any.ensures.wire.value v second) refl;
}
