use Rattle.field_gates.proofs.StepLemmas.{step_is}
use Rattle.field_gates.proofs.laws.field_step_is_machines.Goals as goal

pub returns : goal.returns
returns c = step_is
