use Rattle.flat_design.proofs.Running.{stmt_has_flow, item_has_flow}
use Rattle.flat_design.proofs.laws.effects_are_framed.Goals as goal

pub returns-clause-stmt_has_flow : goal.returns-clause-stmt_has_flow
returns-clause-stmt_has_flow c = stmt_has_flow

pub returns-clause-item_has_flow : goal.returns-clause-item_has_flow
returns-clause-item_has_flow c = item_has_flow
