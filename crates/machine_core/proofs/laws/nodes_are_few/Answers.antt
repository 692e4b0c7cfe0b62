use Rattle.machine_core.proofs.NodeLemmas.{few}
use Rattle.machine_core.proofs.laws.nodes_are_few.Goals as goal

pub returns : goal.returns
returns c = few
