use Rattle.std.proofs.Common.{◌∙◌, ap}
use Rattle.trace_replay.specs.Trace.{edge_bits}
use Rattle.trace_replay.proofs.TraceLemmas.{edges_from-more, same_get}
use Rattle.trace_replay.proofs.trace.edges_from.Goals as goal

pub loop-wires-preserved : goal.loop-wires-preserved
loop-wires-preserved c =
    rw (c.in_ok-push.ensures.items, c.step.ensures)
    (edges_from-more c.args.block.now c.loop-wires.state c.args.run.now c.loop-wires.wires-index _ c.loop-wires.edges.items c.in_ok-edge_bits.field-0
    c.loop-wires-test.true (same_get c.args.run.now c.loop-wires.wires-index _ _ c.loop-wires-test.true) (c.in_ok-edge_bits.ensures ∙ ap edge_bits c.pins.ensures) ∙ c.loop-wires.invariant)
