use Rattle.lemma_checker.proofs.LawProofs.{new_has_no_variable_twice}
use Rattle.lemma_checker.proofs.laws.new_has_no_variable_twice.Goals as goal

pub returns : goal.returns
returns c = new_has_no_variable_twice
