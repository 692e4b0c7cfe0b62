use Rattle.std.proofs.Common.{refl, arith, ◌∙◌}
use Rattle.invariant_miner.proofs.SampleLemmas.{put_none, put_more, address_bit}
use Rattle.invariant_miner.proofs.samples.put_address.Goals as goal

pub loop-j-init : goal.loop-j-init
loop-j-init c = put_none _ _ _ _

pub loop-j-preserved : goal.loop-j-preserved
loop-j-preserved c = put_more _ _ _ _ _ _ _ _ refl (omega arith) (c.with_bit.ensures.same ∙ address_bit _ _) c.with_bit.ensures.others c.loop-j.invariant
