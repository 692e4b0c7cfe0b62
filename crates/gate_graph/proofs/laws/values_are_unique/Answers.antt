use Rattle.gate_graph.proofs.ValueLemmas.{agree}
use Rattle.gate_graph.proofs.laws.values_are_unique.Goals as goal

pub returns : goal.returns
returns c = λ s x v u nodes g p q i lt. agree s x v u nodes g p q i lt
