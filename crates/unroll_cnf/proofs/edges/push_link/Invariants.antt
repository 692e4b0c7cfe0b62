use Rattle.std.proofs.Common.{◌≡◌, ◌++◌, drop}
use Rattle.gate_graph.specs.Values.{at}
use Rattle.unroll_cnf.specs.Queries.{by_node, within, latch_clauses}
use Rattle.unroll_cnf.proofs.edges.push_link.Given as goal

abbrev pub invariant-loop-i : goal.invariant-loop-i
invariant-loop-i l = l.out ++ by_node (within (at l.marks) (latch_clauses l.circuit.latches.items l.first l.second)) l.i (drop l.i l.circuit.graph) ≡ l.fn.out ++ by_node (within (at l.marks) (latch_clauses l.circuit.latches.items l.first l.second)) 0 l.circuit.graph
