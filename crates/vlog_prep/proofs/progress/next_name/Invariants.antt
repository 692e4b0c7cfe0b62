use Rattle.std.proofs.Common.{◌≡◌, drop}
use Rattle.vlog_prep.specs.Reading.{next_name}
use Rattle.vlog_prep.proofs.progress.next_name.Given as goal

abbrev pub invariant-loop-piece : goal.invariant-loop-piece
invariant-loop-piece l = next_name l.pieces ≡ next_name (drop l.piece-index l.pieces)
