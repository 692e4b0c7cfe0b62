use Rattle.field_policies.proofs.BitLemmas.{same_bits, or_bits}
use Rattle.reg_machine.proofs.BitMoves.{bytes_bit}
use Rattle.reg_machine.proofs.bits.byte_mask.Goals as goal

pub returns : goal.returns
returns c = same_bits 32 _ _ _ (λ j h. bytes_bit c.args.strobe j h) (or_bits 32 _ _ _ _ (or_bits 32 _ _ _ _ (or_bits 32 _ _ _ _ c.byte_at.ensures c.byte_at-2.ensures) c.byte_at-3.ensures) c.byte_at-4.ensures)
