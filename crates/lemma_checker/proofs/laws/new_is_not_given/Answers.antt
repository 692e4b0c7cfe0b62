use Rattle.lemma_checker.proofs.LawProofs.{new_is_not_given}
use Rattle.lemma_checker.proofs.laws.new_is_not_given.Goals as goal

pub returns : goal.returns
returns c = new_is_not_given
