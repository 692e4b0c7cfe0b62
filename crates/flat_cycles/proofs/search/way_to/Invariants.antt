use Rattle.std.proofs.Common.{reverse}
use Rattle.flat_cycles.proofs.WayLemmas.{IsBackTo, far}
use Rattle.flat_cycles.proofs.search.way_to.Given as goal

abbrev pub invariant-back : goal.invariant-back
invariant-back l = IsBackTo l.graph l.first l.visits l.place l.at (reverse l.way.items)

abbrev pub decreases-back : goal.decreases-back
decreases-back l = far l.at
