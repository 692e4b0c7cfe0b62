use Rattle.std.proofs.Common.{true, arith}
use Rattle.unroll_cnf.proofs.ClauseLemmas.{of_set, small_set}
use Rattle.solver_tests.proofs.queries.queries_of_a_set_have_these_clauses.Goals as goal

pub keep_query-requires-clause-of : goal.keep_query-requires-clause-of
keep_query-requires-clause-of g c = of_set _ (record { latch = 1; negated = true }) _ c.in_ok-never_kept.ensures (omega (arith, c.in_ok-circuit.ensures))

pub keep_query-requires-clause-small : goal.keep_query-requires-clause-small
keep_query-requires-clause-small g c = small_set (record { latch = 1; negated = true }) _ c.in_ok-never_kept.ensures

pub step_query-requires-clause-of : goal.step_query-requires-clause-of
step_query-requires-clause-of g c = of_set _ (record { latch = 1; negated = true }) _ c.in_ok-never_kept.ensures (omega (arith, c.in_ok-circuit.ensures))

pub step_query-requires-clause-small : goal.step_query-requires-clause-small
step_query-requires-clause-small g c = small_set (record { latch = 1; negated = true }) _ c.in_ok-never_kept.ensures
