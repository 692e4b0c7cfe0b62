use Rattle.std.proofs.Common.{◌∙◌, sym}
use Rattle.std.proofs.lemmas.Bool.{cond-true, cond-false}
use Rattle.reg_machine.proofs.Views.{value_here, width_here, value_below}
use Rattle.reg_machine.proofs.expr.value_at.Goals as goal

pub returns-then-field-clause-value : goal.returns-then-field-clause-value
returns-then-field-clause-value c = c.input_of.ensures.value ∙ sym (cond-true _ _ _ c.if-field.true)
    ∙ sym (value_here c.args.map.now.fields.items c.args.values.now c.args.hw.now c.args.number _ c.field_at-field.ensures.here)

pub returns-then-field-clause-fits : goal.returns-then-field-clause-fits
returns-then-field-clause-fits c = rw (width_here c.args.map.now.fields.items c.args.number c.field_at-field.result.now c.field_at-field.ensures.here) c.input_of.ensures.fits

pub returns-else-field-clause-value : goal.returns-else-field-clause-value
returns-else-field-clause-value c = sym (cond-false _ _ _ c.if-field.false)
    ∙ sym (value_here c.args.map.now.fields.items c.args.values.now c.args.hw.now c.args.number _ c.field_at-field.ensures.here)

pub returns-else-field-clause-fits : goal.returns-else-field-clause-fits
returns-else-field-clause-fits c = value_below c.args.map.now.fields.items c.args.values.now c.args.number c.requires.values c.requires.there
