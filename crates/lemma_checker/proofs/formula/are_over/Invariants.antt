use Rattle.std.proofs.Common.{◌≡◌, true, take}
use Rattle.std.specs.List.{list_all}
use Rattle.lemma_checker.specs.Clauses.{in_range}
use Rattle.lemma_checker.proofs.formula.are_over.Given as goal

abbrev pub invariant-loop-i : goal.invariant-loop-i
invariant-loop-i l = list_all (λ c. list_all (in_range l.vars) c) (take l.i l.clauses) ≡ true
