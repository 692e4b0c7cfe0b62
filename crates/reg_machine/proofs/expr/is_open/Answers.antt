use Rattle.std.proofs.Common.{ap, ◌∙◌, refl}
use mathlib.Core.Bool.{beq}
use Rattle.field_policies.specs.Expressions.{is_open}
use Rattle.reg_machine.proofs.Views.{opens_at}
use Rattle.reg_machine.proofs.expr.is_open.Goals as goal

pub returns-in-Some : goal.returns-in-Some
returns-in-Some c = rw c.in-Some.is (ap (λ b. beq b c.in-Some.gate.high) c.is_one.ensures ∙ opens_at c.args.map.now.fields.items c.args.values.now c.args.hw.now c.in-Some.gate _ 0 c.expr_value.ensures.value)

pub returns-in-None : goal.returns-in-None
unfolding is_open
returns-in-None c = rw c.in-None.is refl
