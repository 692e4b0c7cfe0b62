use Rattle.std.proofs.Common.{◌≡◌, ◌+◌, ◌++◌, drop}
use Rattle.unroll_cnf.specs.Queries.{all_broken}
use Rattle.unroll_cnf.proofs.sets.push_all_broken.Given as goal

abbrev pub invariant-loop-i : goal.invariant-loop-i
invariant-loop-i l = l.out ++ all_broken l.circuit l.first (l.y + l.i) (drop l.i l.set) ≡ l.fn.out ++ all_broken l.circuit l.first l.y l.set
