use Rattle.std.proofs.Common.{◌≡◌, take}
use Rattle.watch_lists.specs.Watching.{lists_of}
use Rattle.watch_lists.specs.Visits.{AreWatching, IsGrown, AreTrue}
use Rattle.watch_lists.proofs.watches.visit_short.Given as goal

abbrev pub invariant-loop-clause : goal.invariant-loop-clause
invariant-loop-clause l = record {
  watching : AreWatching l.literals l.starts (lists_of l.lists) l.trail;
  grown : IsGrown l.literals l.starts l.literals l.fn.trail l.trail;
  done : l.trail.done ≡ l.fn.trail.done;
  met : AreTrue l.literals l.starts (take l.clause-index l.short) l.trail.literals.items;
}
