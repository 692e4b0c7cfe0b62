use Rattle.vlog_design.proofs.Excluding.{accepted_is_not_refused}
use Rattle.vlog_design.proofs.law.accepted_is_not_refused.Goals as goal

pub returns : goal.returns
returns c = accepted_is_not_refused
