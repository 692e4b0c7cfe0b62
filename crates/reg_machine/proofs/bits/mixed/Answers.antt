use Rattle.reg_machine.proofs.BitMoves.{mixed_bits}
use Rattle.reg_machine.proofs.bits.mixed.Goals as goal

pub returns : goal.returns
returns c = rw c.ones.ensures (mixed_bits c.args.width c.args.mask c.args.yes c.args.no c.requires.mask c.requires.yes c.requires.no)
