use Rattle.std.proofs.Common.{◌≡◌, ◌≤◌, ◌<◌, ◌⊎◌, ◌*◌, ◌+◌, ℕ, true}
use Rattle.lemma_checker.specs.Clauses.{at}
use Rattle.clause_solver.proofs.search.free_literal.Given as goal

abbrev pub invariant-loop-variable : goal.invariant-loop-variable
invariant-loop-variable l = (w : ℕ) → 1 ≤ w → w < l.variable → (at l.values (2 * w) ≡ true) ⊎ (at l.values (2 * w + 1) ≡ true)
