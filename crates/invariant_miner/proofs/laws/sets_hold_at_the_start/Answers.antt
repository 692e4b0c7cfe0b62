use Rattle.invariant_miner.proofs.LawLemmas.{start_meets}
use Rattle.invariant_miner.proofs.laws.sets_hold_at_the_start.Goals as goal

pub returns : goal.returns
returns c = λ c' set s b. start_meets c' set s b
