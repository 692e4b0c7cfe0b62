use Rattle.field_policies.proofs.BitLemmas.{same_bits}
use Rattle.reg_machine.proofs.BitMoves.{span_bit}
use Rattle.reg_machine.proofs.bits.span.Goals as goal

pub returns : goal.returns
returns c = same_bits c.args.word _ _ _ (λ j h. span_bit c.args.low c.args.width _ j c.ones.ensures) c.placed.ensures
