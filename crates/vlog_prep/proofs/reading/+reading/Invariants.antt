use Rattle.std.proofs.Common.{◌≡◌, ◌+◌, ◌*◌, length}
use Rattle.vlog_prep.specs.Reading.{Own, expansion, read_by}
use Rattle.vlog_prep.specs.Seen.{seen}
use Rattle.vlog_prep.proofs.reading.+reading.Given as goal

abbrev pub decreases-use_macro : goal.decreases-use_macro
decreases-use_macro l = 5 * l.levels

abbrev pub decreases-obey : goal.decreases-obey
decreases-obey l = 5 * l.levels + 1

abbrev pub decreases-directive : goal.decreases-directive
decreases-directive l = 5 * l.levels + 2

abbrev pub decreases-step : goal.decreases-step
decreases-step l = 5 * l.levels + 3

abbrev pub decreases-read : goal.decreases-read
decreases-read l = 5 * l.levels + 4

abbrev pub invariant-read-loop-piece : goal.invariant-read-loop-piece
invariant-read-loop-piece l =
    read_by (expansion l.levels) l.at Own l.fn.pieces (seen l.fn.progress) ≡ read_by (expansion l.levels) l.at Own l.rest (seen l.progress)

abbrev pub decreases-read-loop-piece : goal.decreases-read-loop-piece
decreases-read-loop-piece l = length l.rest
