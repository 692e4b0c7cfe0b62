use Rattle.unroll_cnf.proofs.QueryLemmas.{keep_to, keep_from}
use Rattle.unroll_cnf.proofs.laws.keep_query_means.Goals as goal

pub returns : goal.returns
returns c = λ c' v set of. (keep_to c' v set of, keep_from c' v set of)
