use Rattle.solver_tests.proofs.kept.two_equal.Goals as goal

pub invariant_of-result-clause-low : goal.invariant_of-result-clause-low
invariant_of-result-clause-low c = c.size-size.ensures.graph.low

pub invariant_of-result-clause-counted : goal.invariant_of-result-clause-counted
invariant_of-result-clause-counted c = c.size-size.ensures.graph.counted
