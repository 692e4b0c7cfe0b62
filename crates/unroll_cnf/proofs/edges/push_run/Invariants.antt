use Rattle.std.proofs.Common.{◌≡◌, ◌++◌, map}
use Rattle.unroll_cnf.specs.Cones.{marks_at}
use Rattle.unroll_cnf.specs.Queries.{run_clauses}
use Rattle.unroll_cnf.proofs.edges.push_run.Given as goal

abbrev pub invariant-loop-t : goal.invariant-loop-t
invariant-loop-t l = l.out ≡ l.fn.out ++ run_clauses l.circuit (marks_at (map (λ m. m.items) l.cones) l.last) l.t
