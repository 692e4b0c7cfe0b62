use Rattle.flat_offences.proofs.Firsts.{IsFirstBelow}
use Rattle.flat_offences.proofs.offence.first_offence.Given as goal

abbrev pub invariant-loop-k : goal.invariant-loop-k
invariant-loop-k l = IsFirstBelow l.items l.found l.k l.best
