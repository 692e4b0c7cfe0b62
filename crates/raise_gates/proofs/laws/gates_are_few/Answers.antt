use Rattle.raise_gates.proofs.RaiseLemmas.{few}
use Rattle.raise_gates.proofs.laws.gates_are_few.Goals as goal

pub returns : goal.returns
returns c = few
