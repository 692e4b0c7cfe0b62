use Rattle.latch_order.proofs.LatchLemmas.{stored_are}
use Rattle.latch_order.proofs.laws.stored_wires_are_bits.Goals as goal

pub returns : goal.returns
returns c = stored_are
