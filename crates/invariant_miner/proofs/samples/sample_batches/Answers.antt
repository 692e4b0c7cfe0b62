use Rattle.std.proofs.Common.{◌≡◌, ◌*◌, ℕ, List, sym, ap, ◌∙◌, map, length, subst}
use Rattle.std.proofs.lemmas.List.{length-map}
use Rattle.invariant_miner.specs.Samples.{edge_draws, batch_draws, HasBatch}
use Rattle.invariant_miner.proofs.StateLemmas.{batches_start, batches_step, rows_none, rows_more, rows_count}
use Rattle.invariant_miner.proofs.samples.sample_batches.Goals as goal

pub loop-batch-init : goal.loop-batch-init
loop-batch-init c = record {
  rows = rw c.new-rows.ensures.items (rows_none _ _);
  count = ap length c.new-rows.ensures.items;
  state = sym (batches_start c.args.circuit.now c.args.rng.now);
  inputs = c.requires.inputs;
  runs = c.requires.runs;
  table = c.requires.table;
}

pub loop-batch-preserved : goal.loop-batch-preserved
loop-batch-preserved c =
    let i = c.loop-batch.invariant in
    let batch : HasBatch c.args.circuit.now (batch_draws c.args.circuit.now c.args.rng.now c.loop-batch._batch) (map (λ v. v.items) c.loop-batch.rows.items) (map (λ v. v.items) c.sample_batch.new.rows.items) 64 =
    subst (λ (g : List ℕ). HasBatch c.args.circuit.now g (map (λ v. v.items) c.loop-batch.rows.items) (map (λ v. v.items) c.sample_batch.new.rows.items) 64) i.state c.in_ok-sample_batch.ensures.rows in
    let before : length (map (λ v. v.items) c.loop-batch.rows.items) ≡ 64 * c.loop-batch._batch = length-map c.loop-batch.rows.items (λ v. v.items) ∙ i.count in
    record {
      rows = rows_more _ _ _ _ c.loop-batch._batch i.rows before batch;
      count = sym (length-map c.sample_batch.new.rows.items (λ v. v.items)) ∙ rows_count _ _ _ _ c.loop-batch._batch before batch;
      state = c.in_ok-sample_batch.ensures.state ∙ (ap (λ (g : List ℕ). edge_draws c.args.circuit.now g 64) i.state ∙ sym (batches_step c.args.circuit.now c.args.rng.now c.loop-batch._batch));
      inputs = c.sample_batch.auto.inputs ∙ i.inputs;
      runs = c.sample_batch.auto.runs ∙ i.runs;
      table = c.sample_batch.auto.table ∙ i.table;
    }
