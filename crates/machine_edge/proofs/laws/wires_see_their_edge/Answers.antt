use Rattle.machine_edge.proofs.EdgeLaws.{edge_is}
use Rattle.machine_edge.proofs.laws.wires_see_their_edge.Goals as goal

pub returns : goal.returns
returns c = edge_is
