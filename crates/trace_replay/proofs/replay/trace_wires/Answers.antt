use Rattle.std.proofs.Common.{◌∙◌, ap, length}
use Rattle.trace_replay.proofs.TraceLemmas.{whole-at}
use Rattle.trace_replay.proofs.replay.trace_wires.Goals as goal

pub edge_wires-requires : goal.edge_wires-requires
edge_wires-requires c = ap length c.deref.ensures.value ∙ whole-at c.args.edges.now c.loop-edge.edge-index _ c.requires c.loop-edge-test.true c.edge-item.is
