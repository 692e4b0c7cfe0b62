use Rattle.reg_machine.proofs.BitMoves.{cut_bits}
use Rattle.reg_machine.proofs.bits.cut.Goals as goal

pub returns : goal.returns
returns c = rw c.ones.ensures (cut_bits c.args.width c.args.number c.args.low)
