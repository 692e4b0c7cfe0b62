use Rattle.std.proofs.Common.{sym, ◌∙◌}
use Rattle.reg_machine.proofs.BitMoves.{byte_bits, byte_none}
use Rattle.reg_machine.proofs.bits.byte_at.Goals as goal

pub returns-then-is_one : goal.returns-then-is_one
returns-then-is_one c = byte_bits c.args.strobe c.args.k _ c.requires (sym c.is_one.ensures ∙ c.if-is_one.true) c.placed.ensures

pub returns-else-is_one : goal.returns-else-is_one
returns-else-is_one c = byte_none c.args.strobe c.args.k (sym c.is_one.ensures ∙ c.if-is_one.false)
