use Rattle.reg_machine.proofs.BitMoves.{any_same}
use Rattle.reg_machine.proofs.software.is_touched.Goals as goal
use Rattle.std.proofs.Common.{◌∙◌}

pub returns : goal.returns
returns c = λ values hw. c.is_some_one.ensures ∙ any_same c.args.field.now.width _ _ (c.enabled_bits.ensures.bits values hw).each
