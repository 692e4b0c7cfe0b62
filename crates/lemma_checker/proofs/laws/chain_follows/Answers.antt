use Rattle.lemma_checker.proofs.Semantics.{chain_follows}
use Rattle.lemma_checker.proofs.laws.chain_follows.Goals as goal

pub returns : goal.returns
returns c = chain_follows
