use Rattle.std.proofs.Common.{◌≡◌, ◌≤◌, ◌-◌, length, take}
use Rattle.lemma_checker.specs.Clauses.{at, set_of}
use Rattle.watch_lists.proofs.trail.unset.Given as goal

abbrev pub invariant-loop-left : goal.invariant-loop-left
invariant-loop-left l = record {
  low : l.place ≤ l.left;
  high : l.left ≤ length l.literals;
  same : at l.values ≡ set_of (take l.left l.literals);
}

abbrev pub decreases-loop-left : goal.decreases-loop-left
decreases-loop-left l = l.left - l.place
