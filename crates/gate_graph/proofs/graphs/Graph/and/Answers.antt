use Rattle.gate_graph.proofs.SharingLemmas.{and_extends, and_keeps, and_means}
use Rattle.gate_graph.proofs.graphs.Graph.and.Goals as goal

pub returns-clause-extends : goal.returns-clause-extends
returns-clause-extends c = and_extends _ _ _ _ _ (rw c.self.view_is at c.self.invariant.graph.low.first) c.requires.a_of c.requires.b_of c.in_ok-wire.ensures.exact

pub returns-clause-simple : goal.returns-clause-simple
returns-clause-simple c = and_keeps _ _ _ _ _ c.in_ok-wire.ensures.exact

pub returns-clause-wire : goal.returns-clause-wire
returns-clause-wire c = and_means _ _ _ _ _ (rw c.self.view_is at c.self.invariant.graph.low.first) c.requires.a_of c.requires.b_of c.in_ok-wire.ensures.exact
