use Rattle.std.proofs.Common.{◌≡◌, suc, ◌-◌, arith}
use Rattle.std.proofs.lemmas.Grind.{common_steps}
use Rattle.rdl_layout.proofs.Walks.{over_none, over_some, more}
use Rattle.rdl_layout.specs.Walks.{over}
use Rattle.rdl_layout.specs.Misplaced.{misplaced_at}
use Rattle.rdl_layout.specs.Registers.{register_at}
use Rattle.rdl_layout.proofs.register.+walk.Goals as goal

pub note_all-returns-then-room-eq0-clause-registers : goal.note_all-returns-then-room-eq0-clause-registers
note_all-returns-then-room-eq0-clause-registers t c = rw (over_none register_at c.args.room c.args.address c.args.trail.now c.args.component.now c.if-room-eq0.true) c.in_ok-note_one.ensures.registers

pub note_all-returns-then-room-eq0-clause-misplaced : goal.note_all-returns-then-room-eq0-clause-misplaced
note_all-returns-then-room-eq0-clause-misplaced t c = rw (over_none misplaced_at c.args.room c.args.address c.args.trail.now c.args.component.now c.if-room-eq0.true) c.in_ok-note_one.ensures.misplaced

pub note_all-returns-clause-registers : goal.note_all-returns-clause-registers
note_all-returns-clause-registers t c =
    let e : c.args.room ≡ suc (c.args.room - 1) = omega (arith, c.if-room-eq0.false) in
    rw (over_some register_at c.args.room (c.args.room - 1) c.args.address c.args.trail.now c.args.component.now e) (grind (arith, common_steps))

pub note_all-returns-clause-misplaced : goal.note_all-returns-clause-misplaced
note_all-returns-clause-misplaced t c =
    let e : c.args.room ≡ suc (c.args.room - 1) = omega (arith, c.if-room-eq0.false) in
    rw (over_some misplaced_at c.args.room (c.args.room - 1) c.args.address c.args.trail.now c.args.component.now e) (grind (arith, common_steps))

pub note_elements-loop-index-preserved : goal.note_elements-loop-index-preserved
note_elements-loop-index-preserved t c = record {
  registers = more (over register_at c.args.room) c.args.base _ c.args.up.now c.args.targets.now c.args.instance.now c.args.extent c.loop-index.index _ _ _
      c.loop-index.invariant.registers c.address_of-address.ensures.address c.in_ok-note_element.ensures.registers;
  misplaced = more (over misplaced_at c.args.room) c.args.base _ c.args.up.now c.args.targets.now c.args.instance.now c.args.extent c.loop-index.index _ _ _
      c.loop-index.invariant.misplaced c.address_of-address.ensures.address c.in_ok-note_element.ensures.misplaced;
}
