use Rattle.flat_loops.proofs.FeedLemmas.{AreSoFar}
use Rattle.flat_loops.proofs.feeds.unclocked.Given as goal

abbrev pub invariant-loop-k : goal.invariant-loop-k
invariant-loop-k l = AreSoFar l.items l.k l.numbers.items
