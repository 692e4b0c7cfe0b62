use Rattle.event_gates.proofs.PlaceLemmas.{payload_is}
use Rattle.event_gates.proofs.laws.payloads_are_machines.Goals as goal

pub returns : goal.returns
returns c = payload_is
