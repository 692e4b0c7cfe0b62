use Rattle.std.proofs.Common.{◌≡◌, ℕ, ◌||◌, take, length, slice_get}
use Rattle.std.specs.List.{list_any}
use Rattle.gate_graph.specs.Values.{at}
use Rattle.unroll_cnf.specs.Cones.{is_next}
use Rattle.unroll_cnf.proofs.cones.mark_clause.Given as goal

abbrev pub invariant-loop-literal : goal.invariant-loop-literal
invariant-loop-literal l = record {
  sized : length l.marks ≡ length l.circuit.graph;
  so_far : (j : ℕ) → at l.marks j ≡ (at l.fn.marks j || list_any (λ m. is_next (slice_get l.circuit.latches.items m.latch) j) (take l.literal-index l.clause));
}
