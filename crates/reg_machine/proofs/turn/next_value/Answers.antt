use Rattle.std.proofs.Common.{ap, sym, ◌∙◌, not, ◌&&◌}
use Rattle.field_policies.specs.Bits.{bit}
use Rattle.field_policies.proofs.BitLemmas.{own_bits, no_bits, same_bits}
use Rattle.reg_machine.specs.Steps.{next_bit}
use Rattle.reg_machine.proofs.BitMoves.{first_side, second_side, no_side}
use Rattle.reg_machine.proofs.turn.next_value.Goals as goal

pub returns-then-turn : goal.returns-then-turn
unfolding next_bit
returns-then-turn c = same_bits c.args.field.now.width _ _ _ (λ i h. first_side _ _ _ (sym c.requires.turn.by_software ∙ c.if-turn.true)) (c.software_value.ensures c.args.values.now c.args.hw.now c.args.state.used c.requires.turn.written)

pub returns-then-turn-2 : goal.returns-then-turn-2
unfolding next_bit
returns-then-turn-2 c = same_bits c.args.field.now.width _ _ _ (λ i h. second_side _ _ _ _ _ (sym c.requires.turn.by_software ∙ c.if-turn.false) (sym c.requires.turn.by_hardware ∙ c.if-turn-2.true)) c.requires.turn.bits

pub returns-then-field : goal.returns-then-field
unfolding next_bit
returns-then-field c = same_bits c.args.field.now.width _ _ _ (λ i h. ap (λ p. not p && bit c.args.state.value i) (sym c.if-field.true) ∙ no_side _ _ _ _ _ (sym c.requires.turn.by_software ∙ c.if-turn.false) (sym c.requires.turn.by_hardware ∙ c.if-turn-2.false)) (no_bits c.args.field.now.width)

pub returns-else-field : goal.returns-else-field
unfolding next_bit
returns-else-field c = same_bits c.args.field.now.width _ _ _ (λ i h. ap (λ p. not p && bit c.args.state.value i) (sym c.if-field.false) ∙ no_side _ _ _ _ _ (sym c.requires.turn.by_software ∙ c.if-turn.false) (sym c.requires.turn.by_hardware ∙ c.if-turn-2.false)) (own_bits c.args.field.now.width c.args.state.value c.requires.value)
