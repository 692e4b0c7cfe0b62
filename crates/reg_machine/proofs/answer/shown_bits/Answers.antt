use Rattle.std.proofs.Common.{◌∙◌}
use Rattle.field_policies.proofs.BitLemmas.{same_bits, no_bits}
use Rattle.reg_machine.specs.Conditions.{edge_of}
use Rattle.reg_machine.proofs.Views.{width_here, value_here}
use Rattle.reg_machine.proofs.Shows.{shown_there, not_shown}
use Rattle.reg_machine.proofs.answer.shown_bits.Goals as goal

pub placed-requires-clause-value : goal.placed-requires-clause-value
placed-requires-clause-value c = rw (← width_here c.args.map.now.fields.items c.args.number c.field_at-field.result.now c.field_at-field.ensures.here) c.value_at-value.ensures.fits

pub returns-then-reads_word-field : goal.returns-then-reads_word-field
returns-then-reads_word-field c = same_bits c.args.map.now.bus_width _ _ _ (λ j h. shown_there (edge_of c.args.map.now c.args.values.now c.args.hw.now c.args.event) c.args.known.now j c.args.number c.value_at-value.result c.field_at-field.result.now c.reads_word.result c.field_at-field.ensures.here
    (c.value_at-value.ensures.value ∙ value_here c.args.map.now.fields.items c.args.values.now c.args.hw.now c.args.number _ c.field_at-field.ensures.here) (c.reads_word.ensures c.args.values.now c.args.hw.now) c.if-reads_word-field.true) c.placed.ensures

pub returns-else-reads_word-field : goal.returns-else-reads_word-field
returns-else-reads_word-field c = same_bits c.args.map.now.bus_width _ _ _ (λ j h. not_shown (edge_of c.args.map.now c.args.values.now c.args.hw.now c.args.event) c.args.known.now j c.args.number c.field_at-field.result.now c.reads_word.result c.field_at-field.ensures.here
    (c.reads_word.ensures c.args.values.now c.args.hw.now) c.if-reads_word-field.false) (no_bits c.args.map.now.bus_width)
