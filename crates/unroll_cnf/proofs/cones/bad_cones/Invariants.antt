use Rattle.std.proofs.Common.{◌+◌, map}
use Rattle.unroll_cnf.specs.Cones.{AreCones}
use Rattle.unroll_cnf.proofs.cones.bad_cones.Given as goal

abbrev pub invariant-loop-d : goal.invariant-loop-d
invariant-loop-d l = AreCones l.circuit l.every (l.d + 1) (map (λ m. m.items) l.cones.items)
