use Rattle.invariant_miner.proofs.SampleLemmas.{IsPut}
use Rattle.invariant_miner.proofs.samples.put_address.Given as goal

abbrev pub invariant-loop-j : goal.invariant-loop-j
invariant-loop-j l = IsPut l.fn.inputs l.inputs l.first l.j l.address l.r
