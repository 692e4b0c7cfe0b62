use Rattle.invariant_miner.proofs.LawLemmas.{greatest_one}
use Rattle.invariant_miner.proofs.laws.greatest_is_one.Goals as goal

pub returns : goal.returns
returns c = λ c' list a b g h. greatest_one c' list a b g h
