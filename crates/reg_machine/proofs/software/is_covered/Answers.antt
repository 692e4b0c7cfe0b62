use Rattle.reg_machine.proofs.BitMoves.{all_same}
use Rattle.reg_machine.proofs.software.is_covered.Goals as goal
use Rattle.std.proofs.Common.{◌∙◌}

pub returns : goal.returns
returns c = λ values hw. c.is_full.ensures ∙ all_same c.args.field.now.width _ _ (c.enabled_bits.ensures.bits values hw).each
