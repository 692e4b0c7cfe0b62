use Rattle.std.proofs.Common.{◌≡◌, true, take}
use Rattle.std.specs.List.{list_all}
use Rattle.lemma_checker.specs.Clauses.{clause_true, assigned}
use Rattle.lemma_checker.proofs.checker.all_true.Given as goal

abbrev pub invariant-loop-i : goal.invariant-loop-i
invariant-loop-i l = list_all (clause_true (assigned l.values)) (take l.i l.clauses) ≡ true
