use Rattle.std.proofs.Common.{ap, eqb}
use Rattle.std.proofs.lemmas.Nat.Bits.{shr_and_one}
use Rattle.field_policies.specs.Bits.{bit}
use Rattle.reg_machine.proofs.bits.is_one.Goals as goal

pub returns : goal.returns
unfolding bit
returns c = ap (λ n. eqb n 1) (shr_and_one c.args.number c.args.i)
