use Rattle.gate_graph.proofs.GateLemmas.{means_later}
use Rattle.expr_gates.proofs.view.view_gates.Goals as goal

pub returns-clause-ored : goal.returns-clause-ored
returns-clause-ored c = means_later _ _ _ _ _ c.parity_wire.ensures.nodes c.in_ok-ored.ensures.wire
