use Rattle.std.proofs.Common.{◌≡◌, ℕ, ◌<◌, map, length}
use Rattle.invariant_miner.specs.Lanes.{lane}
use Rattle.invariant_miner.specs.Samples.{edge_draws, run_state, HasBatch}
use Rattle.invariant_miner.proofs.samples.sample_batch.Given as goal

abbrev pub invariant-loop-edge : goal.invariant-loop-edge
invariant-loop-edge l = record {
  rows : HasBatch l.circuit l.fn.rng (map (λ v. v.items) l.fn.rows.items) (map (λ v. v.items) l.rows.items) l._edge;
  row : (r : ℕ) → r < 64 → lane r l.row.items ≡ run_state l.circuit l.fn.rng r l._edge;
  wide : length l.row.items ≡ length l.circuit.latches.items;
  state : l.rng ≡ edge_draws l.circuit l.fn.rng l._edge;
  inputs : length l.inputs ≡ l.circuit.inputs;
  runs : length l.runs ≡ 64;
  table : length l.table ≡ length l.circuit.graph;
}
