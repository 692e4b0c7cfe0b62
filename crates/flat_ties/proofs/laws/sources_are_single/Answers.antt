use Rattle.flat_ties.proofs.Chains.{one_source}
use Rattle.flat_ties.proofs.laws.sources_are_single.Goals as goal

pub returns : goal.returns
returns c = one_source
