use Rattle.invariant_miner.proofs.BitLemmas.{bit_zero, bit_ones}
use Rattle.invariant_miner.proofs.samples.start_word.Goals as goal

pub returns-in-Zero-clause-word : goal.returns-in-Zero-clause-word
returns-in-Zero-clause-word c = λ r lt. rw c.in-Zero.is (bit_zero r)

pub returns-in-One-clause-word : goal.returns-in-One-clause-word
returns-in-One-clause-word c = λ r lt. rw c.in-One.is (bit_ones r lt)
