use Rattle.std.proofs.Common.{◌≡◌, length}
use Rattle.invariant_miner.proofs.sift.spread.Given as goal

abbrev pub invariant-loop-value : goal.invariant-loop-value
invariant-loop-value l = length l.row.items ≡ l.value-index
