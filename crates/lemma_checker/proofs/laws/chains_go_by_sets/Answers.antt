use Rattle.lemma_checker.proofs.SameSets.{result_same, added_same, empty_same}
use Rattle.lemma_checker.proofs.laws.chains_go_by_sets.Goals as goal

pub returns-clause-result : goal.returns-clause-result
returns-clause-result c = λ some others ids pivots same. result_same some others ids pivots same

pub returns-clause-added : goal.returns-clause-added
returns-clause-added c = λ clauses a b chains p q. added_same clauses a b chains p q

pub returns-clause-empty : goal.returns-clause-empty
returns-clause-empty c = λ some others same. empty_same some others same
