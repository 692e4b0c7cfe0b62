use Rattle.std.proofs.Common.{sym, ◌∙◌}
use Rattle.trace_replay.proofs.FieldLemmas.{field-none_digits}
use Rattle.trace_replay.proofs.fields.field.Goals as goal

pub returns-then-not-all_binary : goal.returns-then-not-all_binary
returns-then-not-all_binary c =
    field-none_digits c.args.name.now c.args.text.now c.in_ok-rest.rest.now c.split_at.result.0.now c.args.width c.in_ok-rest.ensures c.if-rest-width.false
    c.split_at.ensures.front (sym c.all_binary.ensures ∙ c.if-not-all_binary.true)
