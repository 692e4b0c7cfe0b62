use Rattle.flat_words.proofs.Selects.{select_more}
use Rattle.flat_words.proofs.start.push_select.Goals as goal

pub loop-k-preserved : goal.loop-k-preserved
loop-k-preserved c = rw (c.in_ok-push.ensures.items, c.bit_read.ensures) (select_more _ _ _ _ _ c.loop-k-test.true c.loop-k.invariant)
