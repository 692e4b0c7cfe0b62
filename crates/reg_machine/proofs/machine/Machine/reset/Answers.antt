use Rattle.std.proofs.Common.{arith}
use Rattle.reg_machine.proofs.NextLemmas.{reset_empty, reset_pushed, reset_all, reset_fits_map}
use Rattle.reg_machine.proofs.StateLemmas.{reset_is}
use Rattle.reg_machine.proofs.machine.Machine.reset.Goals as goal

pub loop-number-init : goal.loop-number-init
loop-number-init c = reset_empty c.args.map.now.fields.items _ _ _ c.in_ok-values.ensures.items c.in_ok-used.ensures.items c.in_ok-known.ensures.items

pub loop-number-preserved : goal.loop-number-preserved
loop-number-preserved c = reset_pushed c.args.map.now.fields.items c.loop-number.number c.field_at-field.result.now c.loop-number.values.items _ c.loop-number.used.items _ c.loop-number.known.items _ _
    c.field_at-field.ensures.here c.reset_value.ensures c.in_ok-push.ensures.items c.in_ok-push-2.ensures.items c.in_ok-push-3.ensures.items c.loop-number.invariant

pub returns-clause-reset : goal.returns-clause-reset
returns-clause-reset c = reset_is _ _ _ _ (reset_all c.args.map.now.fields.items c.loop-number.number _ _ _ (omega arith) c.loop-number.invariant)

pub returns-clause-state : goal.returns-clause-state
returns-clause-state c = reset_fits_map c.args.map.now _ _ _ (reset_all c.args.map.now.fields.items c.loop-number.number _ _ _ (omega arith) c.loop-number.invariant)
