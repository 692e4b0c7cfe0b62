use Rattle.std.proofs.Common.{◌∙◌, ap, length, arith}
use Rattle.trace_replay.proofs.TraceLemmas.{whole-at}
use Rattle.trace_replay.proofs.AllowedLemmas.{step-forbidden, step-allowed, step-state, all-allowed}
use Rattle.trace_replay.proofs.replay.first_forbidden.Goals as goal

pub is_allowed-requires : goal.is_allowed-requires
is_allowed-requires c =
    ap length c.deref-in-loop-edge.ensures.value
    ∙ whole-at c.args.trace.now.edges.items c.loop-edge.edge _ c.requires.input_bits (rw c.deref-bits-items.ensures.value at c.loop-edge-test.true) (rw c.deref-bits-items.ensures.value at c.bits-item.is)

pub edge_wires-requires : goal.edge_wires-requires
edge_wires-requires c =
    ap length c.deref-in-loop-edge-2.ensures.value
    ∙ whole-at c.args.trace.now.edges.items c.loop-edge.edge _ c.requires.input_bits (rw c.deref-bits-items.ensures.value at c.loop-edge-test.true) (rw c.deref-bits-items.ensures.value at c.bits-item.is)

pub returns-then-not-is_allowed-clause-allowed : goal.returns-then-not-is_allowed-clause-allowed
returns-then-not-is_allowed-clause-allowed c =
    step-forbidden c.args.block.now c.args.trace.now.start.items c.args.trace.now.edges.items c.loop-edge.edge c.bits-item.result c.loop-edge.state
    c.deref-in-loop-edge.result.now c.is_allowed.result (rw c.deref-bits-items.ensures.value at c.loop-edge-test.true) (rw c.deref-bits-items.ensures.value at c.bits-item.is)
    c.deref-in-loop-edge.ensures.value c.loop-edge.invariant.state c.loop-edge.invariant.allowed c.is_allowed.ensures c.if-not-is_allowed.true

pub loop-edge-preserved : goal.loop-edge-preserved
loop-edge-preserved c = record {
  allowed = step-allowed c.args.block.now c.args.trace.now.start.items c.args.trace.now.edges.items c.loop-edge.edge c.bits-item.result c.loop-edge.state
      c.deref-in-loop-edge.result.now c.is_allowed.result (rw c.deref-bits-items.ensures.value at c.loop-edge-test.true) (rw c.deref-bits-items.ensures.value at c.bits-item.is)
      c.deref-in-loop-edge.ensures.value c.loop-edge.invariant.state c.loop-edge.invariant.allowed c.is_allowed.ensures c.if-not-is_allowed.false;
  state = step-state c.args.block.now c.args.trace.now.start.items c.args.trace.now.edges.items c.loop-edge.edge c.bits-item.result c.loop-edge.state
      c.deref-in-loop-edge-2.result.now c.is_allowed.result (rw c.deref-bits-items.ensures.value at c.loop-edge-test.true) (rw c.deref-bits-items.ensures.value at c.bits-item.is)
      c.deref-in-loop-edge-2.ensures.value c.loop-edge.invariant.state c.loop-edge.invariant.allowed
      (rw (c.deref-in-loop-edge-2.ensures.value, ← c.deref-in-loop-edge.ensures.value) c.is_allowed.ensures) _ c.edge_wires.result c.edge_wires.ensures c.step.ensures;
}

pub returns-clause-allowed : goal.returns-clause-allowed
returns-clause-allowed c =
    all-allowed c.args.block.now c.args.trace.now.start.items c.args.trace.now.edges.items c.loop-edge.edge (rw c.deref-bits-items.ensures.value at c.loop-edge-test.false) c.loop-edge.invariant.allowed
