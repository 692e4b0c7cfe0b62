use Rattle.std.proofs.Common.{refl}
use Rattle.word_gates.proofs.WordLemmas.{means_same}
use Rattle.word_gates.proofs.RippleLemmas.{means_inverted}
use Rattle.field_gates.proofs.effects.one.Goals as goal

pub returns-clause-wire : goal.returns-clause-wire
returns-clause-wire c = means_same _ _ _ _ (means_inverted _ _ _ c.zero.ensures.value.of c.inverted.ensures.node c.inverted.ensures.value) (λ v r. rw (c.zero.ensures.value.value v r) refl)
