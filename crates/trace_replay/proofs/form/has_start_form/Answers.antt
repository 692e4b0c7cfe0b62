use Rattle.std.proofs.Common.{sym, ◌∙◌}
use Rattle.trace_replay.proofs.FormLemmas.{start-blanks}
use Rattle.trace_replay.proofs.form.has_start_form.Goals as goal

pub returns-then-blanks-ne2 : goal.returns-then-blanks-ne2
returns-then-blanks-ne2 c = sym (start-blanks c.args.line.now (λ same. c.if-blanks-ne2.true (c.blanks.ensures ∙ same)))
