use Rattle.lemma_checker.specs.Clauses.{at}
use Rattle.lemma_checker.proofs.CollectLemmas.{Collects}
use Rattle.lemma_checker.proofs.resolver.collect.Given as goal

abbrev pub invariant-loop-literal : goal.invariant-loop-literal
invariant-loop-literal l = Collects l.touched l.literal-index (at l.fn.marks) (at l.marks) l.clause.items
