use Rattle.expr_gates.proofs.ExprLemmas.{gates}
use Rattle.expr_gates.proofs.laws.gates_are_machines.Goals as goal

pub returns : goal.returns
returns c = gates
