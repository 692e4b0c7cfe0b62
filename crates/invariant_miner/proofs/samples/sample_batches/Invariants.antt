use Rattle.std.proofs.Common.{◌≡◌, ◌*◌, map, length}
use Rattle.invariant_miner.specs.Samples.{batch_draws, AreRows}
use Rattle.invariant_miner.proofs.samples.sample_batches.Given as goal

abbrev pub invariant-loop-batch : goal.invariant-loop-batch
invariant-loop-batch l = record {
  rows : AreRows l.circuit l.fn.rng (map (λ v. v.items) l.rows.items);
  count : length l.rows.items ≡ 64 * l._batch;
  state : l.rng ≡ batch_draws l.circuit l.fn.rng l._batch;
  inputs : length l.inputs ≡ l.circuit.inputs;
  runs : length l.runs ≡ 64;
  table : length l.table ≡ length l.circuit.graph;
}
