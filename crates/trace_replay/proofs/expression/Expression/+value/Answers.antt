use Rattle.std.proofs.Common.{◌∙◌, sym, ap}
use Rattle.std.proofs.lemmas.Bool.{cond-true, cond-false}
use Rattle.trace_replay.specs.Expression.{expression_value}
use Rattle.trace_replay.specs.declared.expression.Expression.{Expression}
use Rattle.trace_replay.proofs.ExpressionLemmas.{value-Register, value-WriteData, value-Repeated, value-Constant, value-Not, value-Pair}
use Rattle.trace_replay.proofs.expression.Expression.+value.Goals as goal

pub returns-in-Register : goal.returns-in-Register
returns-in-Register t c = sym (ap (λ (e : Expression). expression_value e c.args.pins c.args.register) c.in-Register.is ∙ value-Register c.args.pins c.args.register)

pub returns-in-WriteData : goal.returns-in-WriteData
returns-in-WriteData t c = sym (ap (λ (e : Expression). expression_value e c.args.pins c.args.register) c.in-WriteData.is ∙ value-WriteData c.args.pins c.args.register)

pub returns-then-value : goal.returns-then-value
returns-then-value t c = sym (ap (λ (e : Expression). expression_value e c.args.pins c.args.register) c.in-Repeated.is ∙ value-Repeated c.args.pins c.args.register _ ∙ cond-true _ 255 0 (sym c.value.ensures ∙ c.if-value.true))

pub returns-else-value : goal.returns-else-value
returns-else-value t c = sym (ap (λ (e : Expression). expression_value e c.args.pins c.args.register) c.in-Repeated.is ∙ value-Repeated c.args.pins c.args.register _ ∙ cond-false _ 255 0 (sym c.value.ensures ∙ c.if-value.false))

pub returns-in-Constant : goal.returns-in-Constant
returns-in-Constant t c =
    rw (c.digit_value.ensures.value, c.digit_value-in-Constant.ensures.value)
    (sym (ap (λ (e : Expression). expression_value e c.args.pins c.args.register) c.in-Constant.is ∙ value-Constant c.args.pins c.args.register _ _))

pub returns-in-Not : goal.returns-in-Not
returns-in-Not t c =
    rw (c.value-in-Not.ensures, c.get.ensures)
    (sym (ap (λ (e : Expression). expression_value e c.args.pins c.args.register) c.in-Not.is ∙ value-Not c.args.pins c.args.register _))

pub returns-in-Pair : goal.returns-in-Pair
returns-in-Pair t c =
    rw (c.combined.ensures, c.value-in-Pair.ensures, c.value-in-Pair-2.ensures, c.get-in-Pair.ensures, c.get-in-Pair-2.ensures)
    (sym (ap (λ (e : Expression). expression_value e c.args.pins c.args.register) c.in-Pair.is ∙ value-Pair c.args.pins c.args.register _ _ _))
