use Rattle.invariant_miner.proofs.LawLemmas.{inductive_closed}
use Rattle.invariant_miner.proofs.laws.inductive_sets_are_closed.Goals as goal

pub returns : goal.returns
returns c = λ c' set of r. inductive_closed c' set of r
