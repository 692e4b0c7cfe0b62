use Rattle.unroll_cnf.proofs.QueryLemmas.{step_run}
use Rattle.unroll_cnf.proofs.laws.step_runs_are_stood_for.Goals as goal

pub returns : goal.returns
returns c = step_run
