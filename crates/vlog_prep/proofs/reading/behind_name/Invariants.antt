use Rattle.std.proofs.Common.{◌≡◌, length}
use Rattle.vlog_prep.specs.Behind.{behind_name}
use Rattle.vlog_prep.proofs.reading.behind_name.Given as goal

abbrev pub invariant-loop-first : goal.invariant-loop-first
invariant-loop-first l = behind_name l.pieces ≡ behind_name l.rest

abbrev pub decreases-loop-first : goal.decreases-loop-first
decreases-loop-first l = length l.rest
