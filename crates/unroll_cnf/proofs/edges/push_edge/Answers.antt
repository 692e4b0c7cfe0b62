use Rattle.gate_graph.specs.Values.{at}
use Rattle.unroll_cnf.specs.Queries.{within, gate_clauses}
use Rattle.unroll_cnf.proofs.PushLemmas.{pushed_node}
use Rattle.unroll_cnf.proofs.edges.push_edge.Goals as goal

pub loop-i-preserved : goal.loop-i-preserved
loop-i-preserved c = pushed_node (within (at c.args.marks.now) (gate_clauses c.first_variable-first.result)) c.loop-i.i c.args.circuit.now.graph _ _ _ _ c.node.ensures.node c.in_ok-push_marked_gate.ensures c.loop-i.invariant
