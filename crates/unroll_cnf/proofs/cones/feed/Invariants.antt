use Rattle.std.proofs.Common.{◌≡◌, ℕ, ◌||◌, drop, length}
use Rattle.gate_graph.specs.Values.{at}
use Rattle.unroll_cnf.specs.Cones.{feeds}
use Rattle.unroll_cnf.proofs.cones.feed.Given as goal

abbrev pub invariant-loop-i : goal.invariant-loop-i
invariant-loop-i l = record {
  sized : length l.marks ≡ length l.circuit.graph;
  so_far : (j : ℕ) → (at l.marks j || feeds l.circuit.latches.items l.i (drop l.i l.circuit.graph) (at l.set) j) ≡ (at l.fn.marks j || feeds l.circuit.latches.items 0 l.circuit.graph (at l.set) j);
}
