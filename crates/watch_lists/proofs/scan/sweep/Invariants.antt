use Rattle.std.proofs.Common.{◌≡◌, ◌≤◌, ◌<◌, ◌-◌, ℕ, Bool, true, false, ◌++◌, length, take, not}
use Rattle.std.specs.List.{count_by}
use Rattle.lemma_checker.specs.Clauses.{has, set_of, at}
use Rattle.lemma_checker.specs.Propagation.{IsInEachClosed}
use Rattle.watch_lists.specs.Scans.{IsTrailOf, AreQuiet}
use Rattle.watch_lists.proofs.scan.sweep.Given as goal

abbrev pub invariant-loop-number : goal.invariant-loop-number
invariant-loop-number l = record {
  trail : IsTrailOf (l.formula ++ l.added) l.trail;
  size : length l.trail.values.items ≡ length l.fn.trail.values.items;
  starts : l.trail.starts.items ≡ l.fn.trail.starts.items;
  least : (from : ℕ → Bool) → IsInEachClosed (l.formula ++ l.added) from (set_of l.fn.trail.literals.items) → IsInEachClosed (l.formula ++ l.added) from (set_of l.trail.literals.items);
  kept : (k : ℕ) → has k l.fn.trail.literals.items ≡ true → has k l.trail.literals.items ≡ true;
  fewer : count_by not l.trail.values.items ≤ count_by not l.fn.trail.values.items;
  falls : l.more ≡ true → count_by not l.trail.values.items < count_by not l.fn.trail.values.items;
  quiet : l.more ≡ false → AreQuiet (take (l.number - 1) (l.formula ++ l.added)) (at l.trail.values.items);
}
