use Rattle.std.proofs.Common.{◌≡◌, suc, ◌-◌, arith}
use Rattle.std.proofs.lemmas.Grind.{common_steps}
use Rattle.rdl_layout.proofs.Walks.{over_none, over_some, more}
use Rattle.rdl_layout.specs.Walks.{over}
use Rattle.rdl_fields.specs.Registers.{fields_at}
use Rattle.rdl_fields.proofs.register.+walk.Goals as goal

pub note_all-returns-then-room-eq0 : goal.note_all-returns-then-room-eq0
note_all-returns-then-room-eq0 t c = rw (over_none fields_at c.args.room c.args.address c.args.trail.now c.args.component.now c.if-room-eq0.true) c.in_ok-note_here.ensures

pub note_all-returns : goal.note_all-returns
note_all-returns t c =
    let e : c.args.room ≡ suc (c.args.room - 1) = omega (arith, c.if-room-eq0.false) in
    rw (over_some fields_at c.args.room (c.args.room - 1) c.args.address c.args.trail.now c.args.component.now e) (grind (arith, common_steps))

pub note_elements-loop-index-preserved : goal.note_elements-loop-index-preserved
note_elements-loop-index-preserved t c =
    more (over fields_at c.args.room) c.args.base _ c.args.up.now c.args.targets.now c.args.instance.now c.args.extent c.loop-index.index _ _ _
    c.loop-index.invariant c.address_of-address.ensures.address c.in_ok-note_element.ensures
