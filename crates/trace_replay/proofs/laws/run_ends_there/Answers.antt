use Rattle.trace_replay.proofs.CutLemmas.{cut-run}
use Rattle.trace_replay.proofs.laws.run_ends_there.Goals as goal

pub returns : goal.returns
returns c = cut-run
