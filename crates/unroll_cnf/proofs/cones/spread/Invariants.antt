use Rattle.std.proofs.Common.{◌≡◌, ℕ, drop, length}
use Rattle.gate_graph.specs.Values.{at}
use Rattle.unroll_cnf.specs.Cones.{depends}
use Rattle.unroll_cnf.proofs.cones.spread.Given as goal

abbrev pub invariant-loop-i : goal.invariant-loop-i
invariant-loop-i l = record {
  sized : length l.marks ≡ length l.circuit.graph;
  so_far : (j : ℕ) → at l.marks j ≡ depends l.i (drop l.i l.circuit.graph) (at l.fn.marks) j;
}
