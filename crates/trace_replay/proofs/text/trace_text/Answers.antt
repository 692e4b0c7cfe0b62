use Rattle.std.proofs.Common.{◌∙◌, ap, length}
use Rattle.trace_replay.proofs.TraceLemmas.{whole-at}
use Rattle.trace_replay.proofs.text.trace_text.Goals as goal

pub edge_line-requires : goal.edge_line-requires
edge_line-requires c =
    ap length c.deref-in-loop-edge.ensures.value
    ∙ whole-at c.args.trace.now.edges.items c.loop-edge.edge-index _ c.requires (rw c.deref-edge-items.ensures.value at c.loop-edge-test.true) (rw c.deref-edge-items.ensures.value at c.edge-item.is)
