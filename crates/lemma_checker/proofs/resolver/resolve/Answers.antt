use Rattle.lemma_checker.proofs.ClauseLemmas.{resolved_marks}
use Rattle.lemma_checker.proofs.resolver.resolve.Goals as goal

pub returns-clause-set : goal.returns-clause-set
returns-clause-set c = resolved_marks _ _ _ _ _ _ c.in_ok-merge.ensures.set c.unmark.ensures.cleared c.unmark.ensures.others c.unmark-2.ensures.cleared c.unmark-2.ensures.others
