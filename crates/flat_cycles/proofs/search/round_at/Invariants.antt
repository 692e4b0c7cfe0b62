use Rattle.std.proofs.Common.{◌≡◌, ◌≤◌, ◌-◌, length}
use Rattle.flat_cycles.specs.Visits.{AreVisits, IsDone, AreDone}
use Rattle.flat_cycles.proofs.search.round_at.Given as goal

abbrev pub invariant-visiting : goal.invariant-visiting
invariant-visiting l = record {
  visits : AreVisits l.graph l.first l.seen l.visits.items;
  bound : length l.seen ≡ length l.graph;
  start : IsDone l.graph l.first l.seen l.first;
  done : AreDone l.graph l.first l.seen l.visits.items l.head;
  within : l.head ≤ length l.visits.items;
}

abbrev pub decreases-visiting : goal.decreases-visiting
decreases-visiting l = length l.graph - l.head
