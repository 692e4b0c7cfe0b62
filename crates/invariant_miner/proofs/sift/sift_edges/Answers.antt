use Rattle.std.proofs.Common.{◌∙◌}
use Rattle.invariant_miner.proofs.KeptLemmas.{above_all}
use Rattle.invariant_miner.proofs.SiftLemmas.{above_above}
use Rattle.invariant_miner.proofs.sift.sift_edges.Goals as goal

pub loop-edge-init : goal.loop-edge-init
loop-edge-init c = record { above = above_all c.args.circuit.now c.args.clauses.now.items; row = c.requires.row; inputs = c.requires.inputs; runs = c.requires.runs; table = c.requires.table }

pub loop-edge-preserved : goal.loop-edge-preserved
loop-edge-preserved c =
    let i = c.loop-edge.invariant in
    record {
      above = above_above c.args.circuit.now c.args.clauses.now.items c.loop-edge.clauses.items c.sift_edge.new.clauses.items i.above c.in_ok-next.ensures.above;
      row = c.take_runs.auto.row ∙ (c.stray.auto.row ∙ i.row);
      inputs = c.sift_edge.auto.inputs ∙ i.inputs;
      runs = c.sift_edge.auto.runs ∙ i.runs;
      table = c.sift_edge.auto.table ∙ i.table;
    }
