use Rattle.trace_replay.proofs.JointLaws.{run_there, run_once}
use Rattle.trace_replay.proofs.runs.one_joint_run.Goals as goal

pub returns-clause-there : goal.returns-clause-there
returns-clause-there c = λ block wires register. run_there block register wires

pub returns-clause-once : goal.returns-clause-once
returns-clause-once c = run_once
