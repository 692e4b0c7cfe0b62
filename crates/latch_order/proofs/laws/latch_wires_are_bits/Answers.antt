use Rattle.latch_order.proofs.LatchLemmas.{latches_are}
use Rattle.latch_order.proofs.laws.latch_wires_are_bits.Goals as goal

pub returns : goal.returns
returns c = latches_are
