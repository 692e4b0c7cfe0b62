use Rattle.flat_checks.proofs.Pushing.{AreFirstTo}
use Rattle.flat_checks.proofs.cycle.nets_of.Given as goal

abbrev pub invariant-loop-number : goal.invariant-loop-number
invariant-loop-number l = AreFirstTo l.items l.numbers l.nets.items l.number-index
