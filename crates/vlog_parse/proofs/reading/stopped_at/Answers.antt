use Rattle.std.proofs.Common.{inl, inr}
use Rattle.vlog_parse.proofs.reading.stopped_at.Goals as goal

pub returns-then-left-eq0 : goal.returns-then-left-eq0
returns-then-left-eq0 c = inl c.if-left-eq0.true

pub returns-then-left-len : goal.returns-then-left-len
returns-then-left-len c = inr c.if-left-len.true
