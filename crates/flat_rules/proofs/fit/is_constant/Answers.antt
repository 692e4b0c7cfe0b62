use Rattle.std.proofs.Common.{ap, sym}
use Rattle.std.specs.Prelude.{is_some}
use Rattle.flat_rules.proofs.Constants.{constant_is, not_constant}
use Rattle.flat_rules.proofs.fit.is_constant.Goals as goal

pub returns-in-Constant : goal.returns-in-Constant
returns-in-Constant c = ap is_some (sym (constant_is c.args.nets.now c.args.e.now c.in-Constant.field-0 c.in-Constant.is))

pub returns-in_default : goal.returns-in_default
returns-in_default c = ap is_some (sym (not_constant c.args.nets.now c.args.e.now c.in_default.not-Constant))
