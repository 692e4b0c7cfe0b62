use Rattle.std.proofs.Common.{◌≡◌, suc, ◌-◌, arith}
use Rattle.std.proofs.lemmas.Grind.{common_steps}
use Rattle.rdl_effects.proofs.Numbers.{inside_none, inside_some}
use Rattle.rdl_effects.proofs.limit.+count.Goals as goal

pub number_inside-returns-then-room-eq0 : goal.number_inside-returns-then-room-eq0
number_inside-returns-then-room-eq0 t c = rw (inside_none c.args.room c.args.component.now c.if-room-eq0.true) (grind (arith, common_steps))

pub number_inside-returns : goal.number_inside-returns
number_inside-returns t c =
    let e : c.args.room ≡ suc (c.args.room - 1) = omega (arith, c.if-room-eq0.false) in
    rw (inside_some c.args.room (c.args.room - 1) c.args.component.now e) (grind (arith, common_steps))
