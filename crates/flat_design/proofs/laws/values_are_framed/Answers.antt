use Rattle.flat_design.proofs.Frames.{expr_framed}
use Rattle.flat_design.proofs.Sizes.{value_size}
use Rattle.flat_design.proofs.laws.values_are_framed.Goals as goal

pub returns-clause-value_has_size : goal.returns-clause-value_has_size
returns-clause-value_has_size c = value_size

pub returns-clause-expr_is_framed : goal.returns-clause-expr_is_framed
returns-clause-expr_is_framed c = expr_framed
