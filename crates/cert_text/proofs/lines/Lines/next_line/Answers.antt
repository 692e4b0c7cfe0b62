use Rattle.std.proofs.Common.{sym, ◌∙◌}
use Rattle.cert_text.proofs.ReadLemmas.{takes, takes_none}
use Rattle.cert_text.proofs.lines.Lines.next_line.Goals as goal

pub returns-in-Some-clause-took : goal.returns-in-Some-clause-took
returns-in-Some-clause-took c = takes c.args.self.now.rest.now c.in-Some.place (sym c.line_feed.ensures.place ∙ c.in-Some.is) c.in-Some.ensures.inside

pub returns-after-is_empty-clause-none : goal.returns-after-is_empty-clause-none
returns-after-is_empty-clause-none c = takes_none c.args.self.now.rest.now (sym c.line_feed.ensures.place ∙ c.in-None.is)
