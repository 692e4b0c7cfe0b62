use Rattle.lemma_checker.proofs.LawProofs.{propagation_grows}
use Rattle.lemma_checker.proofs.laws.propagation_grows.Goals as goal

pub returns : goal.returns
returns c = propagation_grows
