use Rattle.side_gates.proofs.SideLaws.{plain_is}
use Rattle.side_gates.proofs.laws.plain_side_is_machines.Goals as goal

pub returns : goal.returns
returns c = plain_is
