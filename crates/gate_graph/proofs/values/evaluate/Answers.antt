use Rattle.std.proofs.Common.{arith}
use Rattle.std.proofs.lemmas.Option.{slice_get-get_or}
use Rattle.gate_graph.proofs.GraphLemmas.{node_numbered}
use Rattle.gate_graph.specs.declared.nodes.Node.TheVariants.{Zero}
use Rattle.gate_graph.proofs.ValueLemmas.{done_set, done_all}
use Rattle.gate_graph.proofs.values.evaluate.Goals as goal

pub value_of-value-requires-clause-numbered : goal.value_of-value-requires-clause-numbered
value_of-value-requires-clause-numbered c =
    rw (c.requires.latches, c.requires.inputs) (node_numbered c.args.nodes.now c.loop-i.i _ c.requires.graph (slice_get-get_or c.args.nodes.now c.loop-i.i Zero (omega arith)))

pub loop-i-preserved : goal.loop-i-preserved
loop-i-preserved c = done_set _ _ _ _ _ _ c.requires.graph (omega arith) (omega arith) c.loop-i.invariant c.value_of-value.ensures

pub returns : goal.returns
returns c = done_all _ _ _ _ _ c.loop-i.invariant (omega arith)
