use Rattle.expr_gates.proofs.ExprLemmas.{given}
use Rattle.expr_gates.proofs.laws.given_are_machines.Goals as goal

pub returns : goal.returns
returns c = given
