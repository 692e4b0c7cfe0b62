use Rattle.std.proofs.Common.{refl}
use Rattle.gate_graph.proofs.GateLemmas.{means_zero}
use Rattle.gate_graph.proofs.graphs.Graph.zero.Goals as goal

pub returns-clause-value : goal.returns-clause-value
returns-clause-value c = rw (← c.self.view_is) (means_zero _ _ c.self.invariant.graph.low.first refl)
