use Rattle.machine_edge.proofs.EdgeLaws.{stored_are}
use Rattle.machine_edge.proofs.laws.stored_are_states.Goals as goal

pub returns : goal.returns
returns c = stored_are
