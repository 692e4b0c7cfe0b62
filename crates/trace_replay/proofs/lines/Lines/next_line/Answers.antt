use Rattle.std.proofs.Common.{sym, ◌∙◌, ap, length}
use Rattle.trace_replay.proofs.LineLemmas.{next-taken, next-none}
use Rattle.trace_replay.proofs.lines.Lines.next_line.Goals as goal

pub returns-in-Some : goal.returns-in-Some
returns-in-Some c =
    let taken = next-taken c.self.inside.rest.now c.in-Some.place (sym c.line_feed.ensures.place ∙ c.in-Some.is) in
    (sym c.self.view_is ∙ taken.0, taken.1)

pub returns-in-None : goal.returns-in-None
returns-in-None c = ap length (sym c.self.view_is) ∙ next-none c.self.inside.rest.now (sym c.line_feed.ensures.place ∙ c.in-None.is)
