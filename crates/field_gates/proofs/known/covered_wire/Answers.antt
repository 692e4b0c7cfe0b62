use Rattle.gate_graph.specs.Gates.{Respects}
use Rattle.gate_graph.proofs.GateLemmas.{respects_old}
use Rattle.word_gates.specs.Words.{values}
use Rattle.word_gates.proofs.RippleLemmas.{means_inverted}
use Rattle.field_gates.proofs.EffectLemmas.{covered_bits}
use Rattle.field_gates.proofs.known.covered_wire.Goals as goal

pub returns-clause-wire : goal.returns-clause-wire
returns-clause-wire c = record {
  of = (means_inverted _ _ _ c.in_ok-some.ensures.wire.of c.inverted.ensures.node c.inverted.ensures.value).of;
  value = λ v r.
      let before : Respects v c.args.graph.now = respects_old v _ _ _ c.any_wire.ensures.nodes r in
      rw (c.inverted.ensures.value v, c.in_ok-some.ensures.wire.value v r, c.as_slice.ensures.value, (c.in_ok-absent.ensures.value c.args.graph.now c.requires.a_of).value v before)
      (covered_bits (values v c.args.a.now));
}
