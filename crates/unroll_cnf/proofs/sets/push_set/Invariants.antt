use Rattle.std.proofs.Common.{◌≡◌, ◌++◌, map, take}
use Rattle.unroll_cnf.specs.Queries.{set_clause}
use Rattle.unroll_cnf.proofs.sets.push_set.Given as goal

abbrev pub invariant-loop-i : goal.invariant-loop-i
invariant-loop-i l = l.out ≡ l.fn.out ++ map (set_clause l.circuit l.first) (take l.i l.set)
