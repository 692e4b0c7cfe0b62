use Rattle.trace_replay.proofs.JointLaws.{run_is_driven, run_is_legal, legal_is_run}
use Rattle.trace_replay.proofs.runs.legal_by_choices.Goals as goal

pub returns-clause-driven : goal.returns-clause-driven
returns-clause-driven c = run_is_driven

pub returns-clause-drives_legal : goal.returns-clause-drives_legal
returns-clause-drives_legal c = run_is_legal

pub returns-clause-legal_is_driven : goal.returns-clause-legal_is_driven
returns-clause-legal_is_driven c = legal_is_run
