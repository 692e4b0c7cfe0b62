use Rattle.side_gates.proofs.SideLaws.{counter_is}
use Rattle.side_gates.proofs.laws.counter_side_is_machines.Goals as goal

pub returns : goal.returns
returns c = counter_is
