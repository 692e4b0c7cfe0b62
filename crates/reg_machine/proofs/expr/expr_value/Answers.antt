use Rattle.std.proofs.Common.{ap, ◌∙◌, refl}
use Rattle.field_policies.specs.Bits.{bit, all_below, any_below, odd_below}
use Rattle.field_policies.specs.Expressions.{expr_value, one_if, width_at}
use Rattle.reg_machine.proofs.Views.{input_fits}
use Rattle.reg_machine.proofs.expr.expr_value.Goals as goal

pub returns-in-Input-clause-value : goal.returns-in-Input-clause-value
unfolding expr_value
returns-in-Input-clause-value c = rw c.in-Input.is refl

pub returns-in-Input-clause-fits : goal.returns-in-Input-clause-fits
returns-in-Input-clause-fits c = input_fits c.args.map.now.fields.items c.args.map.now.inputs.items c.args.hw.now c.args.expr c.in-Input.k c.requires.hw c.in-Input.is c.requires.in_range

pub returns-in-Value-clause-value : goal.returns-in-Value-clause-value
unfolding expr_value
returns-in-Value-clause-value c = rw c.in-Value.is c.value_at.ensures.value

pub returns-in-Anded-clause-value : goal.returns-in-Anded-clause-value
unfolding expr_value
returns-in-Anded-clause-value c = rw c.in-Anded.is (c.one_if.ensures ∙ ap one_if (c.is_full.ensures ∙ ap (λ n. all_below n (bit c.value_at-value.result)) c.width_at.ensures.value ∙ ap (λ n. all_below (width_at c.args.map.now.fields.items c.in-Anded.n) (bit n)) c.value_at-value.ensures.value))

pub returns-in-Ored-clause-value : goal.returns-in-Ored-clause-value
unfolding expr_value
returns-in-Ored-clause-value c = rw c.in-Ored.is (c.one_if-in-Ored.ensures ∙ ap one_if (c.is_some_one.ensures ∙ ap (λ n. any_below n (bit c.value_at-value-in-Ored.result)) c.width_at-in-Ored.ensures.value ∙ ap (λ n. any_below (width_at c.args.map.now.fields.items c.in-Ored.n) (bit n)) c.value_at-value-in-Ored.ensures.value))

pub returns-in-Xored-clause-value : goal.returns-in-Xored-clause-value
unfolding expr_value
returns-in-Xored-clause-value c = rw c.in-Xored.is (c.one_if-in-Xored.ensures ∙ ap one_if (c.is_odd.ensures ∙ ap (λ n. odd_below n (bit c.value_at-value-in-Xored.result)) c.width_at-in-Xored.ensures.value ∙ ap (λ n. odd_below (width_at c.args.map.now.fields.items c.in-Xored.n) (bit n)) c.value_at-value-in-Xored.ensures.value))
