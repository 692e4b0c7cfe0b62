use Rattle.lemma_checker.proofs.LawProofs.{resolvent_is_not_new}
use Rattle.lemma_checker.proofs.laws.resolvent_is_not_new.Goals as goal

pub returns : goal.returns
returns c = resolvent_is_not_new
