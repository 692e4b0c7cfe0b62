use Rattle.std.proofs.Common.{◌≡◌, ◌++◌, drop}
use Rattle.unroll_cnf.specs.Queries.{input_places}
use Rattle.unroll_cnf.proofs.places.input_nodes.Given as goal

abbrev pub invariant-loop-i : goal.invariant-loop-i
invariant-loop-i l = l.places.items ++ input_places l.i (drop l.i l.circuit.graph) ≡ input_places 0 l.circuit.graph
