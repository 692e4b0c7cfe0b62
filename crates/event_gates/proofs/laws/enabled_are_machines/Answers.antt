use Rattle.event_gates.proofs.PlaceLemmas.{enabled_is}
use Rattle.event_gates.proofs.laws.enabled_are_machines.Goals as goal

pub returns : goal.returns
returns c = enabled_is
