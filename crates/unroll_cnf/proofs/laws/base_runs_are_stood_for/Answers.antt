use Rattle.unroll_cnf.proofs.QueryLemmas.{base_run}
use Rattle.unroll_cnf.proofs.laws.base_runs_are_stood_for.Goals as goal

pub returns : goal.returns
returns c = base_run
