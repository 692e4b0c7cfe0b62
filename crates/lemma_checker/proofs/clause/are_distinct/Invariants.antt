use Rattle.std.proofs.Common.{take}
use Rattle.lemma_checker.specs.Clauses.{AreDistinct}
use Rattle.lemma_checker.proofs.clause.are_distinct.Given as goal

abbrev pub invariant-loop-i : goal.invariant-loop-i
invariant-loop-i l = AreDistinct (take l.i l.literals)
