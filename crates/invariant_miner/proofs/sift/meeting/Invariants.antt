use Rattle.std.proofs.Common.{◌≡◌, ℕ, ◌<◌, true, take}
use Rattle.unroll_cnf.specs.Latches.{MeetsAll}
use Rattle.invariant_miner.specs.Lanes.{bit, lane}
use Rattle.invariant_miner.proofs.sift.meeting.Given as goal

abbrev pub invariant-loop-clause : goal.invariant-loop-clause
invariant-loop-clause l = (r : ℕ) → r < 64 → bit r l.word ≡ true → MeetsAll (lane r l.row) (take l.clause-index l.clauses)
