use Rattle.gate_graph.proofs.GrowthLemmas.{latch_counted, input_counted}
use Rattle.gate_graph.proofs.laws.latches_and_inputs_are_counted.Goals as goal

pub returns-clause-latch : goal.returns-clause-latch
returns-clause-latch c = λ ns n. latch_counted ns n

pub returns-clause-input : goal.returns-clause-input
returns-clause-input c = λ ns n. input_counted ns n
