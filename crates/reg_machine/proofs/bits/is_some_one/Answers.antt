use Rattle.std.proofs.Common.{◌≡◌, ◌∙◌, ap, not, Bool, true, false, refl}
use Rattle.reg_machine.proofs.BitMoves.{none_where}
use Rattle.reg_machine.proofs.bits.is_some_one.Goals as goal

twice : (b : Bool) → not (not b) ≡ b
twice true = refl
twice false = refl

pub returns : goal.returns
returns c = ap not (none_where c.args.width c.args.value c.requires.value) ∙ twice _
