use Rattle.std.proofs.Common.{◌≡◌, ◌++◌, drop}
use Rattle.unroll_cnf.specs.Queries.{latch_places}
use Rattle.unroll_cnf.proofs.places.latch_nodes.Given as goal

abbrev pub invariant-loop-i : goal.invariant-loop-i
invariant-loop-i l = l.places.items ++ latch_places l.i (drop l.i l.circuit.graph) ≡ latch_places 0 l.circuit.graph
