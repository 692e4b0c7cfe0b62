use Rattle.invariant_miner.proofs.SampleLemmas.{ArePut}
use Rattle.invariant_miner.proofs.samples.draw_inputs.Given as goal

abbrev pub invariant-loop-r : goal.invariant-loop-r
invariant-loop-r l = ArePut l.circuit l.fn.rng l.inputs l.r
