use Rattle.trace_replay.proofs.TraceTheorem.{one-reading}
use Rattle.trace_replay.proofs.laws.one_reading.Goals as goal

pub returns : goal.returns
returns c = one-reading
