use Rattle.trace_replay.proofs.CutLemmas.{cut-at-first}
use Rattle.trace_replay.proofs.laws.cut_at_first.Goals as goal

pub returns : goal.returns
returns c = cut-at-first
