use Rattle.trace_replay.proofs.JointLemmas.{one_byte}
use Rattle.trace_replay.proofs.joint.start.Goals as goal

pub invariant_of-result : goal.invariant_of-result
invariant_of-result c = one_byte _ _ c.block.invariant.one c.block.invariant.wide c.in_ok-reset.ensures.state
