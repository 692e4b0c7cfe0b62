use Rattle.side_gates.proofs.SideLaws.{intr_is}
use Rattle.side_gates.proofs.laws.intr_side_is_machines.Goals as goal

pub returns : goal.returns
returns c = intr_is
