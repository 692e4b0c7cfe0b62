use Rattle.std.proofs.Common.{◌≡◌, drop}
use Rattle.vlog_prep.specs.Lengths.{closing_len}
use Rattle.vlog_prep.proofs.Loops.{found_behind}
use Rattle.vlog_prep.proofs.lengths.closing_len.Given as goal

abbrev pub invariant-loop-at : goal.invariant-loop-at
invariant-loop-at l = found_behind l.at (closing_len l.last l.before (drop l.at l.bytes)) ≡ closing_len l.last 0 l.bytes
