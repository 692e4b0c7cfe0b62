use Rattle.expr_gates.proofs.ExprLemmas.{masks}
use Rattle.expr_gates.proofs.laws.masks_are_machines.Goals as goal

pub returns : goal.returns
returns c = masks
