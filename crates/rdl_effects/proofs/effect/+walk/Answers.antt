use Rattle.std.proofs.Common.{◌≡◌, suc, ◌-◌, arith}
use Rattle.std.proofs.lemmas.Grind.{common_steps}
use Rattle.rdl_values.proofs.Walks.{over_none, over_some}
use Rattle.rdl_effects.specs.Bodies.{refused_at}
use Rattle.rdl_effects.proofs.effect.+walk.Goals as goal

pub note_all-returns-then-room-eq0 : goal.note_all-returns-then-room-eq0
note_all-returns-then-room-eq0 t c = rw (over_none (refused_at c.args.effect) c.args.room c.args.trail.now c.args.component.now c.if-room-eq0.true) c.in_ok-note_refused.ensures

pub note_all-returns : goal.note_all-returns
note_all-returns t c =
    let e : c.args.room ≡ suc (c.args.room - 1) = omega (arith, c.if-room-eq0.false) in
    rw (over_some (refused_at c.args.effect) c.args.room (c.args.room - 1) c.args.trail.now c.args.component.now e) (grind (arith, common_steps))
