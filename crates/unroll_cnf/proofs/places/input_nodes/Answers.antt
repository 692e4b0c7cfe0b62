use Rattle.unroll_cnf.proofs.PlaceLoops.{more_inputs}
use Rattle.unroll_cnf.proofs.places.input_nodes.Goals as goal

pub loop-i-preserved : goal.loop-i-preserved
loop-i-preserved c = more_inputs c.loop-i.i c.args.circuit.now.graph _ _ _ _ c.node.ensures.node c.in_ok-push_input_place.ensures c.loop-i.invariant
