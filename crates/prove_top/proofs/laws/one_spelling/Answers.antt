use Rattle.prove_top.proofs.CompleteLemmas.{one-spelling}
use Rattle.prove_top.proofs.laws.one_spelling.Goals as goal

pub returns : goal.returns
returns c = one-spelling
