use Rattle.std.proofs.Common.{◌+◌, ap, sym, ◌∙◌, cond}
use Rattle.field_policies.specs.Bits.{bit}
use Rattle.field_policies.specs.Policies.{write_bit, read_bit}
use Rattle.field_policies.proofs.BitLemmas.{own_bits, same_bits}
use Rattle.reg_machine.specs.Steps.{software_bit, payload_of, is_enabled}
use Rattle.reg_machine.specs.Conditions.{edge_of}
use Rattle.reg_machine.proofs.BitMoves.{mixed_as}
use Rattle.reg_machine.proofs.software.software_value.Goals as goal

pub returns-then-written : goal.returns-then-written
unfolding software_bit
returns-then-written c = λ values hw used w. same_bits c.args.field.now.width _ _ _ (λ i h. ap (λ b. cond b (cond (is_enabled (edge_of c.args.map.now values hw c.args.event) c.args.field.now i) (write_bit c.args.field.now.write (bit c.args.value i) (bit (payload_of c.args.event) (c.args.field.now.lsb + i))) (bit c.args.value i)) (read_bit c.args.field.now.read (bit c.args.value i))) (sym c.if-written.true ∙ w)) (mixed_as c.args.field.now.width _ _ _ _ _ _ (bit c.args.value) (c.enabled_bits.ensures.bits values hw)
    (same_bits c.args.field.now.width _ _ _ (λ i h. ap (write_bit c.args.field.now.write (bit c.args.value i)) (c.cut-payload.ensures.each i h ∙ ap (λ n. bit n (c.args.field.now.lsb + i)) c.payload_of.ensures)) c.write_result-full.ensures)
    (own_bits c.args.field.now.width c.args.value c.requires.value) c.mixed.ensures)

pub returns-else-written : goal.returns-else-written
unfolding software_bit
returns-else-written c = λ values hw used w. same_bits c.args.field.now.width _ _ _ (λ i h. ap (λ b. cond b (cond (is_enabled (edge_of c.args.map.now values hw c.args.event) c.args.field.now i) (write_bit c.args.field.now.write (bit c.args.value i) (bit (payload_of c.args.event) (c.args.field.now.lsb + i))) (bit c.args.value i)) (read_bit c.args.field.now.read (bit c.args.value i))) (sym c.if-written.false ∙ w)) c.read_result.ensures
