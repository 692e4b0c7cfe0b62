use Rattle.gate_graph.proofs.SharingLemmas.{and_gives}
use Rattle.gate_graph.proofs.laws.conjunction_gives.Goals as goal

pub returns : goal.returns
returns c = λ ns a b zero_first of_a of_b. and_gives ns a b zero_first of_a of_b
