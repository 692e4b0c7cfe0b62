use Rattle.std.proofs.Common.{◌≡◌, ◌≤◌, ℕ, true, take}
use Rattle.lemma_checker.specs.Clauses.{at, has, opposite}
use Rattle.clause_solver.proofs.walk.lower_end.Given as goal

abbrev pub invariant-loop-low : goal.invariant-loop-low
invariant-loop-low l = record {
  within : l.low ≤ l.i;
  before : (k : ℕ) → at l.seen k ≡ true → has (opposite k) (take l.i l.literals) ≡ true → has (opposite k) (take l.low l.literals) ≡ true;
}

abbrev pub decreases-loop-low : goal.decreases-loop-low
decreases-loop-low l = l.low
