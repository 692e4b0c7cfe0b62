use Rattle.std.proofs.Common.{sym, arith}
use Rattle.reg_machine.proofs.Views.{width_here}
use Rattle.reg_machine.proofs.expr.width_at.Goals as goal

pub returns : goal.returns
returns c = record { value = sym (width_here c.args.map.now.fields.items c.args.number _ c.field_at.ensures.here); some = c.field_at.ensures.field.some; word = omega (arith, c.field_at.ensures.field.inside) }
