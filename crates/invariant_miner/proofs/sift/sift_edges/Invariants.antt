use Rattle.std.proofs.Common.{◌≡◌, length}
use Rattle.invariant_miner.specs.Kept.{IsAbove}
use Rattle.invariant_miner.proofs.sift.sift_edges.Given as goal

abbrev pub invariant-loop-edge : goal.invariant-loop-edge
invariant-loop-edge l = record {
  above : IsAbove l.circuit l.fn.clauses.items l.clauses.items;
  row : length l.row ≡ length l.circuit.latches.items;
  inputs : length l.inputs ≡ l.circuit.inputs;
  runs : length l.runs ≡ 64;
  table : length l.table ≡ length l.circuit.graph;
}
