use Rattle.std.proofs.Common.{◌≡◌, ℕ, ◌<◌, not, ◌||◌, take}
use Rattle.std.specs.List.{list_any}
use Rattle.gate_graph.specs.Values.{at}
use Rattle.unroll_cnf.specs.Latches.{holds}
use Rattle.invariant_miner.specs.Lanes.{bit, lane}
use Rattle.invariant_miner.proofs.sift.clause_word.Given as goal

abbrev pub invariant-loop-literal : goal.invariant-loop-literal
invariant-loop-literal l = (r : ℕ) → r < 64 → bit r l.word ≡ (not (at (lane r l.row) 0) || list_any (holds (lane r l.row)) (take l.literal-index l.literals))
