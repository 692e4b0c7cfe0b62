use Rattle.std.proofs.Common.{◌≡◌, ◌≤◌, ℕ, length, Some, slice_get}
use Rattle.clause_solver.proofs.walk.level_between.Given as goal

abbrev pub invariant-loop-level : goal.invariant-loop-level
invariant-loop-level l = record {
  within : l.level ≤ length l.starts;
  high : (j a : ℕ) → l.level ≤ j → slice_get l.starts j ≡ Some a → l.low ≤ a;
}

abbrev pub decreases-loop-level : goal.decreases-loop-level
decreases-loop-level l = l.level
