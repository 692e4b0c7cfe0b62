use Rattle.field_policies.specs.Bits.{bit}
use Rattle.field_policies.proofs.BitLemmas.{own_bits}
use Rattle.reg_machine.specs.Steps.{is_hardware_active, hardware_bit}
use Rattle.reg_machine.proofs.BitMoves.{mixed_as}
use Rattle.reg_machine.proofs.hardware.hardware_side.Goals as goal

pub returns-clause-active : goal.returns-clause-active
unfolding is_hardware_active
returns-clause-active c = c.ungated_side-side.ensures.active

pub returns-clause-bits : goal.returns-clause-bits
unfolding hardware_bit
returns-clause-bits c = mixed_as c.args.field.now.width _ _ _ _ _ _ (bit c.args.value) c.open_bits-open.ensures c.ungated_side-side.ensures.bits (own_bits c.args.field.now.width c.args.value c.requires.value) c.mixed-value.ensures
