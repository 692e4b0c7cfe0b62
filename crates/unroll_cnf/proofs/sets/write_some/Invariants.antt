use Rattle.std.proofs.Common.{◌≡◌, ◌+◌, ◌++◌, drop}
use Rattle.unroll_cnf.specs.Queries.{some_of}
use Rattle.unroll_cnf.proofs.sets.write_some.Given as goal

abbrev pub invariant-loop-i : goal.invariant-loop-i
invariant-loop-i l = l.literals.items ++ some_of (l.y + l.i) (drop l.i l.set) ≡ some_of l.y l.set
