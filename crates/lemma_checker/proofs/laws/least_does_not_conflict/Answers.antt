use Rattle.lemma_checker.proofs.LawProofs.{least_does_not_conflict}
use Rattle.lemma_checker.proofs.laws.least_does_not_conflict.Goals as goal

pub returns : goal.returns
returns c = least_does_not_conflict
