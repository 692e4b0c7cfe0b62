use Rattle.std.specs.Prelude.{map, vec_items, take}
use Rattle.vlog_prep.specs.Pieces.{AreRead}
use Rattle.vlog_prep.proofs.prepare.read_files.Given as goal

abbrev pub invariant-loop-number : goal.invariant-loop-number
invariant-loop-number l = AreRead (take l.number (map vec_items l.files)) l.pieces
