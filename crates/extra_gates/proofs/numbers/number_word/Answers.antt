use Rattle.word_gates.proofs.ExactLemmas.{off_is}
use Rattle.extra_gates.proofs.WordLaws.{placed_long, placed_shows}
use Rattle.extra_gates.proofs.numbers.number_word.Goals as goal

pub returns-clause-length : goal.returns-clause-length
returns-clause-length c = rw c.in_ok-wires.ensures (placed_long _ _ _ _)

pub returns-clause-value : goal.returns-clause-value
returns-clause-value c = rw c.in_ok-wires.ensures (placed_shows _ _ _ c.requires c.zero-none.ensures.value _ _)

pub returns-clause-exact : goal.returns-clause-exact
returns-clause-exact c = rw (off_is c.zero-none.result c.zero-none.ensures.wire) at c.in_ok-wires.ensures
