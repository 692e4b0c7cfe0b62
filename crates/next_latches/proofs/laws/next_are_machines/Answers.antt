use Rattle.next_latches.proofs.NextLemmas.{next_are}
use Rattle.next_latches.proofs.laws.next_are_machines.Goals as goal

pub returns : goal.returns
returns c = next_are
