use Rattle.invariant_miner.proofs.LawLemmas.{closed_join}
use Rattle.invariant_miner.proofs.laws.closed_sets_join.Goals as goal

pub returns : goal.returns
returns c = λ c' a b k l. closed_join c' a b k l
