use Rattle.std.proofs.Common.{length}
use Rattle.invariant_miner.specs.Kept.{IsAbove}
use Rattle.invariant_miner.proofs.thin.thin.Given as goal

abbrev pub invariant-thinning : goal.invariant-thinning
invariant-thinning l = IsAbove l.circuit l.fn.list.items l.current.items

abbrev pub decreases-thinning : goal.decreases-thinning
decreases-thinning l = length l.current.items
