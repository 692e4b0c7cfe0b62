use Rattle.lemma_checker.proofs.LawProofs.{added_follow}
use Rattle.lemma_checker.proofs.laws.added_follow.Goals as goal

pub returns : goal.returns
returns c = added_follow
