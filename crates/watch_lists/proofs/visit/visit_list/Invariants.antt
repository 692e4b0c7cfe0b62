use Rattle.std.proofs.Common.{◌≡◌, ◌-◌, length}
use Rattle.watch_lists.specs.Watching.{lists_of, list_at}
use Rattle.watch_lists.specs.Visits.{IsPassing, IsGrown}
use Rattle.watch_lists.proofs.visit.visit_list.Given as goal

abbrev pub invariant-loop-i : goal.invariant-loop-i
invariant-loop-i l = record {
  passing : IsPassing l.literals l.starts (lists_of l.lists) l.trail l.denied.0 l.i;
  grown : IsGrown l.fn.literals l.starts l.literals l.fn.trail l.trail;
  done : l.trail.done ≡ l.fn.trail.done;
}

abbrev pub decreases-loop-i : goal.decreases-loop-i
decreases-loop-i l = length (list_at (lists_of l.lists) l.denied.0) - l.i
