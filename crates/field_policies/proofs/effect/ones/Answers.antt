use Rattle.std.proofs.lemmas.Nat.Bits.{ones_shr}
use Rattle.field_policies.proofs.effect.ones.Goals as goal
use Rattle.std.proofs.Common.{◌-◌, arith, ◌∙◌, ap, ◌^◌}

pub returns : goal.returns
returns c = ones_shr 32 (32 - c.args.width) (omega arith) ∙ ap (λ n. 2 ^ n - 1) (omega arith)
