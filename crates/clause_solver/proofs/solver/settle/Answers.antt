use Rattle.clause_solver.proofs.SolverLemmas.{lemmas_within}
use Rattle.clause_solver.proofs.solver.settle.Goals as goal

pub analyze-requires-clause-over : goal.analyze-requires-clause-over
analyze-requires-clause-over c = lemmas_within _ _ _ _ c.args.lemmas.now.formula.over c.args.lemmas.now.over c.requires.size
