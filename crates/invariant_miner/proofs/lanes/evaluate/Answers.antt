use Rattle.std.proofs.Common.{arith}
use Rattle.gate_graph.proofs.GraphLemmas.{node_numbered}
use Rattle.gate_graph.proofs.ValueLemmas.{done_all}
use Rattle.invariant_miner.proofs.LaneLemmas.{lanes_more}
use Rattle.invariant_miner.proofs.lanes.evaluate.Goals as goal

pub node_word-word-requires-clause-numbered : goal.node_word-word-requires-clause-numbered
node_word-word-requires-clause-numbered c = rw (c.requires.latches, c.requires.inputs) (node_numbered c.args.graph.now c.loop-i.i _ c.size-i-end.ensures.graph c.node.ensures.node)

pub loop-i-preserved : goal.loop-i-preserved
loop-i-preserved c = λ r lt. lanes_more _ _ c.loop-i.table c.args.graph.now c.loop-i.i _ r _ c.size-i-end.ensures.graph (c.loop-i.invariant r lt) c.node.ensures.node (omega arith) (c.node_word-word.ensures r lt)

pub returns : goal.returns
returns c = λ r lt. done_all _ _ _ _ c.loop-i.i (c.loop-i.invariant r lt) (omega arith)
