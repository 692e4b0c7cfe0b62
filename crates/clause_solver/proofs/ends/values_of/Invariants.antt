use Rattle.std.proofs.Common.{◌≡◌, ◌≤◌, ◌<◌, ◌*◌, ◌+◌, ◌-◌, ℕ, length}
use Rattle.lemma_checker.specs.Clauses.{at}
use Rattle.clause_solver.proofs.ends.values_of.Given as goal

abbrev pub invariant-loop-variable : goal.invariant-loop-variable
invariant-loop-variable l = record {
  long : length l.taken.items + 1 ≡ l.variable;
  each : (w : ℕ) → 1 ≤ w → w < l.variable → at l.taken.items (w - 1) ≡ at l.values (2 * w);
}
