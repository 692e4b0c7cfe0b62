use Rattle.reg_machine.proofs.BitMoves.{placed_bits}
use Rattle.reg_machine.proofs.bits.placed.Goals as goal

pub returns : goal.returns
returns c = placed_bits c.args.value c.args.low c.args.width c.args.word c.requires.value c.requires.inside c.requires.word
