use Rattle.std.proofs.Common.{refl}
use Rattle.gate_graph.specs.Gates.{Respects}
use Rattle.gate_graph.proofs.GateLemmas.{respects_old, means_later}
use Rattle.word_gates.proofs.WordLemmas.{shows_same}
use Rattle.side_gates.proofs.side.counter_gates.Goals as goal

pub returns-clause-active : goal.returns-clause-active
returns-clause-active c = means_later _ _ _ _ _ c.forced_word.ensures.nodes (means_later _ _ _ _ _ c.count_gates.ensures.nodes c.in_ok-active.ensures.wire)

pub returns-clause-over : goal.returns-clause-over
returns-clause-over c = means_later _ _ _ _ _ c.forced_word.ensures.nodes c.in_ok-count.ensures.over

pub returns-clause-under : goal.returns-clause-under
returns-clause-under c = means_later _ _ _ _ _ c.forced_word.ensures.nodes c.in_ok-count.ensures.under

pub returns-clause-value : goal.returns-clause-value
returns-clause-value c = shows_same _ _ _ _ c.in_ok-value.ensures.value (λ v r.
    let before : Respects v c.count_gates.new.graph = respects_old v _ _ _ c.forced_word.ensures.nodes r in
    rw (c.deref.ensures.value, c.in_ok-count.ensures.value.value v before) refl)
