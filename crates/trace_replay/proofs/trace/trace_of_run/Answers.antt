use Rattle.trace_replay.proofs.TraceLemmas.{whole-from}
use Rattle.trace_replay.proofs.trace.trace_of_run.Goals as goal

pub returns-clause-whole : goal.returns-clause-whole
returns-clause-whole c = whole-from c.args.block.now _ c.args.run.now _ c.in_ok-edges.ensures
