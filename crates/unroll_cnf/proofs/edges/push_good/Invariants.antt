use Rattle.std.proofs.Common.{◌≡◌, ◌++◌}
use Rattle.unroll_cnf.specs.Queries.{good_clauses}
use Rattle.unroll_cnf.proofs.edges.push_good.Given as goal

abbrev pub invariant-loop-t : goal.invariant-loop-t
invariant-loop-t l = l.out ≡ l.fn.out ++ good_clauses l.circuit l.t
