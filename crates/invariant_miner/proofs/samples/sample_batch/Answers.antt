use Rattle.std.proofs.Common.{◌≡◌, ◌+◌, List, refl, sym, ap, ◌∙◌, map, length, subst, arith}
use Rattle.std.proofs.lemmas.List.{map_push}
use Rattle.gate_graph.specs.declared.parts.Latch.{Latch}
use Rattle.invariant_miner.specs.Draws.{later}
use Rattle.invariant_miner.specs.Samples.{starts_in, after_starts, edge_draws, HasBatch}
use Rattle.invariant_miner.proofs.StateLemmas.{run_start, run_step, draws_start, draws_step, batch_none, batch_more}
use Rattle.invariant_miner.proofs.samples.sample_batch.Goals as goal

pub loop-edge-init : goal.loop-edge-init
loop-edge-init c = record {
  rows = batch_none _ _ _;
  row = λ r lt. c.in_ok-row.ensures.lanes r lt ∙ (ap (λ (ls : List Latch). starts_in ls c.args.rng.now r) c.as_slice.ensures.value ∙ sym (run_start c.args.circuit.now c.args.rng.now r));
  wide = c.in_ok-row.ensures.length ∙ ap length c.as_slice.ensures.value;
  state = c.in_ok-row.ensures.state ∙ (ap (λ (ls : List Latch). after_starts ls c.args.rng.now) c.as_slice.ensures.value ∙ sym (draws_start c.args.circuit.now c.args.rng.now));
  inputs = c.requires.inputs;
  runs = c.requires.runs;
  table = c.requires.table;
}

pub step-requires-clause-row : goal.step-requires-clause-row
step-requires-clause-row c = ap length c.as_slice-in-loop-edge.ensures.value ∙ c.loop-edge.invariant.wide

pub loop-edge-preserved : goal.loop-edge-preserved
loop-edge-preserved c =
    let i = c.loop-edge.invariant in
    record {
      rows = rw (c.in_ok-push.ensures.items, map_push (λ v. v.items) c.loop-edge.rows.items c.loop-edge.row) (batch_more _ _ _ _ c.loop-edge._edge c.loop-edge.row.items i.rows i.row);
      row = λ r lt. c.in_ok-next.ensures.lanes r lt ∙ (rw (c.as_slice-in-loop-edge.ensures.value, i.row r lt, i.state) refl ∙ sym (run_step c.args.circuit.now c.args.rng.now r c.loop-edge._edge));
      wide = c.in_ok-next.ensures.length;
      state = c.step.ensures.state ∙ (ap (later (c.args.circuit.now.inputs + 64)) i.state ∙ sym (draws_step c.args.circuit.now c.args.rng.now c.loop-edge._edge));
      inputs = c.step.auto.inputs ∙ i.inputs;
      runs = c.step.auto.runs ∙ i.runs;
      table = c.step.auto.table ∙ i.table;
    }

pub returns-clause-rows : goal.returns-clause-rows
returns-clause-rows c =
    let all : c.loop-edge._edge ≡ 64 = omega arith in
    subst (HasBatch c.args.circuit.now c.args.rng.now (map (λ v. v.items) c.args.rows.now.items) (map (λ v. v.items) c.loop-edge.rows.items)) all c.loop-edge.invariant.rows

pub returns-clause-state : goal.returns-clause-state
returns-clause-state c =
    let all : c.loop-edge._edge ≡ 64 = omega arith in
    c.loop-edge.invariant.state ∙ ap (edge_draws c.args.circuit.now c.args.rng.now) all
