use Rattle.std.proofs.Common.{◌∙◌}
use Rattle.gate_graph.specs.Values.{at}
use Rattle.unroll_cnf.proofs.ConeLemmas.{feeds_more}
use Rattle.unroll_cnf.proofs.cones.feed.Goals as goal

pub loop-i-preserved : goal.loop-i-preserved
loop-i-preserved c = record {
  sized = c.mark_fed.auto.marks ∙ c.loop-i.invariant.sized;
  so_far = λ j. feeds_more c.args.circuit.now.latches.items c.loop-i.i c.args.circuit.now.graph c.node.result (at c.args.set.now) j _ _ _ c.node.ensures.node (c.loop-i.invariant.so_far j) (c.mark_fed.ensures j);
}
