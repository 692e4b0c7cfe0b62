use Rattle.field_policies.proofs.BitLemmas.{same_bits, no_bits}
use Rattle.reg_machine.specs.Conditions.{edge_of}
use Rattle.reg_machine.proofs.Shows.{hidden_there, not_hidden}
use Rattle.reg_machine.proofs.answer.hidden_bits.Goals as goal

pub returns-then-reads_word-field : goal.returns-then-reads_word-field
returns-then-reads_word-field c = λ values hw. same_bits c.args.map.now.bus_width _ _ _ (λ j h. hidden_there (edge_of c.args.map.now values hw c.args.event) c.args.known.now j c.args.number c.field_at-field.result.now c.reads_word.result c.field_at-field.ensures.here
    (c.reads_word.ensures values hw) c.if-reads_word-field.true) c.span.ensures

pub returns-else-reads_word-field : goal.returns-else-reads_word-field
returns-else-reads_word-field c = λ values hw. same_bits c.args.map.now.bus_width _ _ _ (λ j h. not_hidden (edge_of c.args.map.now values hw c.args.event) c.args.known.now j c.args.number c.field_at-field.result.now c.reads_word.result c.field_at-field.ensures.here
    (c.reads_word.ensures values hw) c.if-reads_word-field.false) (no_bits c.args.map.now.bus_width)
