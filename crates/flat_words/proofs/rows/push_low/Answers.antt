use Rattle.bit_base.proofs.Numbers.{low_bits-push}
use Rattle.flat_words.proofs.rows.push_low.Goals as goal

pub loop-place-preserved : goal.loop-place-preserved
loop-place-preserved c = rw c.in_ok-push.ensures.items (low_bits-push _ _ _ _ _ c.loop-place-test.true c.loop-place.invariant)
