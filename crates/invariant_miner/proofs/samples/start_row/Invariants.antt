use Rattle.std.proofs.Common.{◌≡◌, ℕ, ◌<◌, ◌++◌, drop, length}
use Rattle.invariant_miner.specs.Lanes.{lane}
use Rattle.invariant_miner.specs.Samples.{starts_in, after_starts}
use Rattle.invariant_miner.proofs.samples.start_row.Given as goal

abbrev pub invariant-loop-latch : goal.invariant-loop-latch
invariant-loop-latch l = record {
  lanes : (r : ℕ) → r < 64 → lane r l.row.items ++ starts_in (drop l.latch-index l.latches) l.rng r ≡ starts_in l.latches l.fn.rng r;
  long : length l.row.items ≡ l.latch-index;
  state : after_starts (drop l.latch-index l.latches) l.rng ≡ after_starts l.latches l.fn.rng;
}
