use Rattle.std.proofs.Common.{◌≡◌, ◌≤◌, ℕ, true, ◌++◌, length, not}
use Rattle.std.specs.List.{count_by}
use Rattle.lemma_checker.specs.Clauses.{has, set_of}
use Rattle.lemma_checker.specs.Propagation.{IsInEachClosed}
use Rattle.watch_lists.specs.Scans.{IsTrailOf}
use Rattle.watch_lists.proofs.scan.propagate.Given as goal

abbrev pub invariant-sweeps : goal.invariant-sweeps
invariant-sweeps l = record {
  trail : IsTrailOf (l.formula ++ l.added) l.trail;
  size : length l.trail.values.items ≡ length l.fn.trail.values.items;
  starts : l.trail.starts.items ≡ l.fn.trail.starts.items;
  least : IsInEachClosed (l.formula ++ l.added) (set_of l.fn.trail.literals.items) (set_of l.trail.literals.items);
  kept : (k : ℕ) → has k l.fn.trail.literals.items ≡ true → has k l.trail.literals.items ≡ true;
  fewer : count_by not l.trail.values.items ≤ count_by not l.fn.trail.values.items;
}

abbrev pub decreases-sweeps : goal.decreases-sweeps
decreases-sweeps l = count_by not l.trail.values.items
