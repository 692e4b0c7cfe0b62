use Rattle.reg_machine.proofs.BitMoves.{full_where}
use Rattle.reg_machine.proofs.bits.is_full.Goals as goal

pub returns : goal.returns
returns c = rw c.ones.ensures (full_where c.args.width c.args.value c.requires.value)
