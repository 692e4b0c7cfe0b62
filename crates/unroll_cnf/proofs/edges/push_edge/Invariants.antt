use Rattle.std.proofs.Common.{◌≡◌, ◌++◌, drop}
use Rattle.gate_graph.specs.Values.{at}
use Rattle.unroll_cnf.specs.Queries.{by_node, within, gate_clauses}
use Rattle.unroll_cnf.proofs.edges.push_edge.Given as goal

abbrev pub invariant-loop-i : goal.invariant-loop-i
invariant-loop-i l = l.out ++ by_node (within (at l.marks) (gate_clauses l.first)) l.i (drop l.i l.circuit.graph) ≡ l.fn.out ++ by_node (within (at l.marks) (gate_clauses l.first)) 0 l.circuit.graph
