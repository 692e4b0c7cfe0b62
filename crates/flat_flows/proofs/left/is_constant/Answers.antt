use Rattle.std.proofs.Common.{sym, ap}
use Rattle.std.specs.Prelude.{is_some}
use Rattle.flat_flows.proofs.ReadNodes.{read_Constant, no_constant}
use Rattle.flat_flows.proofs.left.is_constant.Goals as goal

pub returns-in-Constant : goal.returns-in-Constant
returns-in-Constant c nets = sym (ap (λ r. is_some r.0) (read_Constant nets c.args.e.now c.in-Constant.field-0 c.in-Constant.is))

pub returns-in_default : goal.returns-in_default
returns-in_default c nets = sym (ap is_some (no_constant nets c.args.e.now c.in_default.not-Constant))
