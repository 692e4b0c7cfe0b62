use Rattle.lemma_checker.proofs.Semantics.{none_solves}
use Rattle.lemma_checker.proofs.laws.refuted_has_no_solution.Goals as goal

pub returns : goal.returns
returns c = none_solves
