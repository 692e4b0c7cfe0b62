use Rattle.flat_offences.proofs.Owning.{OwnBelow}
use Rattle.flat_offences.proofs.owner.owners.Given as goal

abbrev pub invariant-loop-number : goal.invariant-loop-number
invariant-loop-number l = OwnBelow l.nets l.number l.out.items
