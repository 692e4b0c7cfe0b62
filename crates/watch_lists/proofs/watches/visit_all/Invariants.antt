use Rattle.std.proofs.Common.{length, ◌+◌, ◌-◌, not}
use Rattle.std.specs.List.{count_by}
use Rattle.watch_lists.specs.Watching.{lists_of}
use Rattle.watch_lists.specs.Visits.{AreWatching, IsGrown}
use Rattle.watch_lists.proofs.watches.visit_all.Given as goal

abbrev pub invariant-loop-trail : goal.invariant-loop-trail
invariant-loop-trail l = record {
  watching : AreWatching l.literals l.starts (lists_of l.lists) l.trail;
  grown : IsGrown l.fn.literals l.starts l.literals l.fn.trail l.trail;
}

abbrev pub decreases-loop-trail : goal.decreases-loop-trail
decreases-loop-trail l = length l.trail.literals.items + count_by not l.trail.values.items - l.trail.done
