use Rattle.std.proofs.Common.{ap}
use Rattle.field_policies.specs.Bits.{bit}
use Rattle.field_policies.proofs.BitLemmas.{same_bits}
use Rattle.reg_machine.proofs.BitMoves.{overridden_as}
use Rattle.reg_machine.proofs.hardware.counter_side.Goals as goal

pub returns-clause-bits : goal.returns-clause-bits
returns-clause-bits c = same_bits c.args.field.now.width _ _ _ (λ i h. overridden_as _ _ _ _ _ _ c.is_given-clear.ensures c.is_given-set.ensures (ap (λ n. bit n.value i) c.count_of-counted.ensures.step)) c.overridden.ensures
