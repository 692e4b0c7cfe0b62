use Rattle.std.proofs.Common.{refl}
use Rattle.gate_graph.specs.Gates.{Respects}
use Rattle.gate_graph.proofs.GateLemmas.{respects_old}
use Rattle.word_gates.proofs.WordLemmas.{means_same}
use Rattle.side_gates.proofs.kinds.any_of_three.Goals as goal

pub returns-clause-wire : goal.returns-clause-wire
returns-clause-wire c = means_same _ _ _ _ c.in_ok-wire.ensures.wire (λ v r.
    let before : Respects v c.or_wire.new.graph = respects_old v _ _ _ c.or_wire-2.ensures.extends r in
    rw (c.in_ok-two.ensures.wire.value v before) refl)
