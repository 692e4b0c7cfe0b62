use Rattle.std.proofs.Common.{refl}
use Rattle.gate_graph.specs.Gates.{Respects}
use Rattle.gate_graph.proofs.GateLemmas.{respects_old, means_later}
use Rattle.word_gates.proofs.WordLemmas.{shows_same}
use Rattle.side_gates.proofs.side.plain_gates.Goals as goal

pub returns-clause-active : goal.returns-clause-active
returns-clause-active c = means_later _ _ _ _ _ c.forced_word.ensures.nodes (means_later _ _ _ _ _ c.between.ensures.nodes c.in_ok-active.ensures.wire)

pub returns-clause-value : goal.returns-clause-value
returns-clause-value c = shows_same _ _ _ _ c.in_ok-value.ensures.value (λ v r.
    let before : Respects v c.between.new.graph = respects_old v _ _ _ c.forced_word.ensures.nodes r in
    rw (c.as_slice.ensures.value, c.in_ok-taken.ensures.value.value v before, c.deref.ensures.value) refl)
