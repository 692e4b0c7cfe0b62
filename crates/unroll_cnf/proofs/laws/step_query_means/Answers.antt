use Rattle.unroll_cnf.proofs.QueryLemmas.{step_to, step_from}
use Rattle.unroll_cnf.proofs.laws.step_query_means.Goals as goal

pub returns : goal.returns
returns c = λ c' v set k of. (step_to c' v set k of, step_from c' v set k of)
