use Rattle.side_gates.proofs.SourceLaws.{sources}
use Rattle.side_gates.proofs.laws.sources_are_machines.Goals as goal

pub returns : goal.returns
returns c = sources
