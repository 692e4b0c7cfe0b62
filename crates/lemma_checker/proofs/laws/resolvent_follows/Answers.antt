use Rattle.lemma_checker.proofs.LawProofs.{resolvent_follows}
use Rattle.lemma_checker.proofs.laws.resolvent_follows.Goals as goal

pub returns : goal.returns
returns c = resolvent_follows
