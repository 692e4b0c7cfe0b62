use Rattle.std.proofs.Common.{◌∙◌}
use Rattle.reg_machine.specs.Conditions.{view_of}
use Rattle.reg_machine.proofs.Views.{value_here}
use Rattle.reg_machine.proofs.Shows.{raises_intr, raises_other}
use Rattle.reg_machine.proofs.output.raises.Goals as goal

pub returns-in-Intr : goal.returns-in-Intr
returns-in-Intr c = raises_intr (view_of c.args.map.now c.args.values.now c.args.hw.now) c.args.number _ _ _ _ _ c.field_at-field.ensures.here c.in-Intr.is
    (c.value_at-value.ensures.value ∙ value_here c.args.map.now.fields.items c.args.values.now c.args.hw.now c.args.number _ c.field_at-field.ensures.here) c.filter_value-filter.ensures.value c.intr_bits.ensures.exact

pub returns-in_default : goal.returns-in_default
returns-in_default c = raises_other (view_of c.args.map.now c.args.values.now c.args.hw.now) c.args.number _ _ c.field_at-field.ensures.here c.in_default.not-Intr
    (c.value_at-value.ensures.value ∙ value_here c.args.map.now.fields.items c.args.values.now c.args.hw.now c.args.number _ c.field_at-field.ensures.here)
