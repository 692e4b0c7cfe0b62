-- What is left of a list after one edge of 64 runs.
use Rattle.std.specs.Prelude.{ℕ, Bool, not, ◌||◌, List}
use Rattle.unroll_cnf.specs.declared.latch_literal.LatchLiteral.{LatchLiteral}
use Rattle.unroll_cnf.specs.Latches.{meets}
use Rattle.invariant_miner.specs.Lanes.{bit, lane}
use Rattle.invariant_miner.specs.Samples.{all_below}

-- each of these runs of a row is in a state that meets the clause
unfoldable pub meets_in : ℕ → List ℕ → List LatchLiteral → Bool
meets_in runs row d = all_below 64 (λ r. not (bit r runs) || meets (lane r row) d)
