use Rattle.flat_raw.specs.Table.{AreSeen}
use Rattle.flat_raw.proofs.path.have_own_paths.Given as goal

abbrev pub invariant-loop-number : goal.invariant-loop-number
invariant-loop-number l = AreSeen l.paths l.nets l.number
