use Rattle.trace_replay.proofs.JointLemmas.{unlike_where}
use Rattle.trace_replay.proofs.joint.is_unlike.Goals as goal

pub returns : goal.returns
returns c word counts p q = rw c.from.ensures (unlike_where c.args.shown c.args.answer.payload c.args.answer.counts word counts c.ranges.shown.fits p q)
