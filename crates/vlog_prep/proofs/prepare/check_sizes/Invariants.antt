use Rattle.std.specs.Prelude.{map, vec_items}
use Rattle.vlog_prep.proofs.Files.{AreSmallTo}
use Rattle.vlog_prep.proofs.prepare.check_sizes.Given as goal

abbrev pub invariant-loop-number : goal.invariant-loop-number
invariant-loop-number l = AreSmallTo l.number (map vec_items l.files)
