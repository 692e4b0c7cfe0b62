use Rattle.invariant_miner.proofs.BitLemmas.{bit_zero, bit_and_both}
use Rattle.invariant_miner.proofs.lanes.node_word.Goals as goal

pub returns-in-Zero : goal.returns-in-Zero
returns-in-Zero c = λ r lt. rw c.in-Zero.is (bit_zero r)

pub returns-in-And : goal.returns-in-And
returns-in-And c = λ r lt. rw c.in-And.is (rw (← c.wire_word.ensures r lt, ← c.wire_word-in-And.ensures r lt) (bit_and_both _ _ r))
