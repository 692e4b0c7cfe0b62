use Rattle.trace_replay.proofs.JointLaws.{run_is_driven, run_is_legal}
use Rattle.trace_replay.proofs.JointRuns.{first_is_earliest}
use Rattle.prove_top.specs.Sampled.{choices_to, sample_bits, sampled_register, sampled_wires}
use Rattle.prove_top.specs.declared.sampled.TheConstants.{EDGES}
use Rattle.prove_top.proofs.laws.sampled_is_first.Goals as goal

pub returns : goal.returns
unfolding sampled_wires
returns c = λ block seed run is begins. (
  run_is_driven block (sampled_register seed) (choices_to (sample_bits seed) EDGES) run,
  run_is_legal block (sampled_register seed) (choices_to (sample_bits seed) EDGES) run,
  first_is_earliest block (sampled_wires block seed) run (sampled_register seed) is begins,
)
