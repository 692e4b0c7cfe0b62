use Rattle.std.proofs.Common.{sym, ◌∙◌}
use Rattle.trace_replay.proofs.FieldLemmas.{begins-rest, begins-none}
use Rattle.trace_replay.proofs.fields.after.Goals as goal

pub returns-then-starts_with : goal.returns-then-starts_with
returns-then-starts_with c = begins-rest c.args.head.now c.args.text.now (sym c.starts_with.ensures.value ∙ c.if-starts_with.true)

pub returns-else-starts_with : goal.returns-else-starts_with
returns-else-starts_with c = λ rest. begins-none c.args.head.now c.args.text.now rest (sym c.starts_with.ensures.value ∙ c.if-starts_with.false)
