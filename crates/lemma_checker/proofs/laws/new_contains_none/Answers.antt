use Rattle.lemma_checker.proofs.LawProofs.{new_contains_none}
use Rattle.lemma_checker.proofs.laws.new_contains_none.Goals as goal

pub returns : goal.returns
returns c = new_contains_none
