use Rattle.expr_gates.proofs.ExprLemmas.{expressions}
use Rattle.expr_gates.proofs.laws.expressions_are_machines.Goals as goal

pub returns : goal.returns
returns c = expressions
