use Rattle.std.proofs.Common.{◌≡◌, ℕ, take, length}
use Rattle.gate_graph.specs.Values.{at}
use Rattle.unroll_cnf.specs.Cones.{is_set_next}
use Rattle.unroll_cnf.proofs.cones.mark_set.Given as goal

abbrev pub invariant-loop-i : goal.invariant-loop-i
invariant-loop-i l = record {
  sized : length l.marks ≡ length l.circuit.graph;
  so_far : (j : ℕ) → at l.marks j ≡ is_set_next l.circuit (take l.i l.set) j;
}
