use Rattle.std.proofs.Common.{◌≡◌, ◌≤◌, ◌<◌, ◌-◌, ℕ, length, true, Some, slice_get}
use Rattle.lemma_checker.specs.Clauses.{at}
use Rattle.watch_lists.specs.declared.watch.Watch.{Watch}
use Rattle.watch_lists.proofs.visit.next_open.Given as goal

abbrev pub invariant-loop-i : goal.invariant-loop-i
invariant-loop-i l = record {
  past : l.start ≤ l.i;
  within : l.i ≤ length l.watches;
  blocked : (j : ℕ) (w : Watch) → l.start ≤ j → j < l.i → slice_get l.watches j ≡ Some w → at l.values w.blocker.0 ≡ true;
}

abbrev pub decreases-loop-i : goal.decreases-loop-i
decreases-loop-i l = length l.watches - l.i
