use Rattle.unroll_cnf.proofs.QueryLemmas.{keep_run}
use Rattle.unroll_cnf.proofs.laws.keep_runs_are_stood_for.Goals as goal

pub returns : goal.returns
returns c = keep_run
