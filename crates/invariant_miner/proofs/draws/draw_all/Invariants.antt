use Rattle.std.proofs.Common.{◌≡◌, ℕ, ◌<◌, get_or}
use Rattle.invariant_miner.specs.Draws.{later, word_at}
use Rattle.invariant_miner.proofs.draws.draw_all.Given as goal

abbrev pub invariant-loop-i : goal.invariant-loop-i
invariant-loop-i l = record {
  state : l.rng ≡ later l.i l.fn.rng;
  words : (k : ℕ) → k < l.i → get_or l.words k 0 ≡ word_at l.fn.rng k;
}
