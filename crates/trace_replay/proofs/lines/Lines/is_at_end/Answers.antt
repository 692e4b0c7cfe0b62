use Rattle.std.proofs.Common.{sym, ◌∙◌}
use Rattle.trace_replay.proofs.LineLemmas.{at_end}
use Rattle.trace_replay.proofs.lines.Lines.is_at_end.Goals as goal

pub returns : goal.returns
returns c = rw (c.is_empty.ensures, ← c.self.view_is) (at_end c.self.inside.rest.now)
