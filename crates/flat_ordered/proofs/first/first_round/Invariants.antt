use Rattle.flat_ordered.specs.Bests.{IsSoFar}
use Rattle.flat_ordered.proofs.first.first_round.Given as goal

abbrev pub invariant-loop-number : goal.invariant-loop-number
invariant-loop-number l = IsSoFar l.graph l.places l.number l.best
