use Rattle.invariant_miner.proofs.ThinLemmas.{empty_chains, empty_askable}
use Rattle.invariant_miner.proofs.set.InductiveSet.empty.Goals as goal

pub returns-clause-chains : goal.returns-clause-chains
returns-clause-chains c k = rw (c.new.ensures.items, c.new-2.ensures.items) (empty_chains k)

pub returns-clause-askable : goal.returns-clause-askable
returns-clause-askable c k = rw c.new.ensures.items (empty_askable k)
