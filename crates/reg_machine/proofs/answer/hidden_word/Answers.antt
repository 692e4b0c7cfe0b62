use Rattle.std.proofs.Common.{◌≡◌, arith, ap, sym, add-one, length}
use Rattle.field_policies.specs.Bits.{any_below}
use Rattle.field_policies.proofs.BitLemmas.{no_bits, or_bits, same_bits}
use Rattle.reg_machine.specs.Conditions.{edge_of}
use Rattle.reg_machine.specs.Machines.{hides, hidden_bit}
use Rattle.reg_machine.proofs.answer.hidden_word.Goals as goal

pub loop-number-init : goal.loop-number-init
loop-number-init c = λ values hw. no_bits c.args.map.now.bus_width

pub loop-number-preserved : goal.loop-number-preserved
loop-number-preserved c = λ values hw. same_bits c.args.map.now.bus_width _ _ _ (λ j h. ap (λ n. any_below n (hides (edge_of c.args.map.now values hw c.args.event) c.args.known.now j)) (sym (add-one c.loop-number.number)))
    (or_bits c.args.map.now.bus_width _ _ _ _ (c.loop-number.invariant values hw) (c.hidden_bits-word.ensures values hw))

pub returns : goal.returns
unfolding hidden_bit
returns c = let last : c.loop-number.number ≡ length c.args.map.now.fields.items = omega arith in
    λ values hw. same_bits c.args.map.now.bus_width _ _ _ (λ j h. ap (λ n. any_below n (hides (edge_of c.args.map.now values hw c.args.event) c.args.known.now j)) last) (c.loop-number.invariant values hw)
