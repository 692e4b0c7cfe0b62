use Rattle.std.proofs.Common.{arith}
use Rattle.word_gates.proofs.RippleLemmas.{repeated_more, repeated_end}
use Rattle.word_gates.proofs.sums.repeated.Goals as goal

pub loop-i-preserved : goal.loop-i-preserved
loop-i-preserved c = rw c.in_ok-push.ensures.items (repeated_more _ _ _ _ c.loop-i-test.true c.loop-i.invariant)

pub returns : goal.returns
returns c = repeated_end _ _ _ _ (omega arith) c.loop-i.invariant
