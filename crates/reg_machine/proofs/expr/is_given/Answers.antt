use Rattle.std.proofs.Common.{ap, ◌∙◌, refl}
use Rattle.field_policies.specs.Bits.{bit}
use Rattle.field_policies.specs.Expressions.{is_given}
use Rattle.reg_machine.proofs.expr.is_given.Goals as goal

pub returns-in-Some : goal.returns-in-Some
unfolding is_given
returns-in-Some c = rw c.in-Some.is (c.is_one.ensures ∙ ap (λ v. bit v 0) c.expr_value.ensures.value)

pub returns-in-None : goal.returns-in-None
unfolding is_given
returns-in-None c = rw c.in-None.is refl
