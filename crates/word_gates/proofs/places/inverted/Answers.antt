use Rattle.word_gates.proofs.ExactLemmas.{inverse_is}
use Rattle.word_gates.proofs.places.inverted.Goals as goal

pub returns-clause-exact : goal.returns-clause-exact
returns-clause-exact c = inverse_is _ _ c.inverted.ensures.node c.inverted.ensures.value
