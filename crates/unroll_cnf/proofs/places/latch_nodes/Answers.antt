use Rattle.unroll_cnf.proofs.PlaceLoops.{more_latches}
use Rattle.unroll_cnf.proofs.places.latch_nodes.Goals as goal

pub loop-i-preserved : goal.loop-i-preserved
loop-i-preserved c = more_latches c.loop-i.i c.args.circuit.now.graph _ _ _ _ c.node.ensures.node c.in_ok-push_latch_place.ensures c.loop-i.invariant
