use Rattle.unroll_cnf.proofs.QueryLemmas.{base_to, base_from}
use Rattle.unroll_cnf.proofs.laws.base_query_means.Goals as goal

pub returns : goal.returns
returns c = λ c' v k some. (base_to c' v k some, base_from c' v k some)
