use Rattle.trace_replay.proofs.JointLemmas.{one_byte}
use Rattle.trace_replay.proofs.joint.JointState.step.Goals as goal

pub invariant_of-self-else-reset : goal.invariant_of-self-else-reset
invariant_of-self-else-reset c = one_byte _ _ c.block.invariant.one c.block.invariant.wide c.step.ensures.state
