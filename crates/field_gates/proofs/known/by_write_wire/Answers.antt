use Rattle.std.proofs.Common.{refl}
use Rattle.gate_graph.specs.Gates.{Respects}
use Rattle.gate_graph.proofs.GateLemmas.{respects_old}
use Rattle.word_gates.proofs.WordLemmas.{means_same}
use Rattle.field_gates.proofs.known.by_write_wire.Goals as goal

pub returns-clause-wire : goal.returns-clause-wire
returns-clause-wire c = means_same _ _ _ _ c.in_ok-wire.ensures.wire (λ v r.
    let second : Respects v c.or_wire.new.graph = respects_old v _ _ _ c.and.ensures.extends r in
    let first : Respects v c.args.graph.now = respects_old v _ _ _ c.or_wire.ensures.extends second in
    rw (c.in_ok-gives.ensures.wire.value v second, c.inverted.ensures.value v, c.only_if-every.ensures.wire.value v first, c.is_whole.ensures) refl)
