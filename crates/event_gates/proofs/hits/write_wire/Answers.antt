use Rattle.std.proofs.Common.{refl}
use Rattle.word_gates.proofs.WordLemmas.{means_same}
use Rattle.event_gates.proofs.hits.write_wire.Goals as goal

pub returns-clause-wire : goal.returns-clause-wire
returns-clause-wire c = means_same _ _ _ _ c.in_ok-wire.ensures.wire (λ v r. rw (c.inverted.ensures.value v) refl)
