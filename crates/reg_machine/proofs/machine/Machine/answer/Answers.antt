use Rattle.std.proofs.Common.{ap, not, List, Bool}
use Rattle.field_policies.proofs.BitLemmas.{inverse_bits, same_bits}
use Rattle.reg_machine.specs.Conditions.{edge_of}
use Rattle.reg_machine.specs.Machines.{counts_bit, hidden_bit}
use Rattle.reg_machine.proofs.machine.Machine.answer.Goals as goal

pub returns-clause-counts : goal.returns-clause-counts
unfolding counts_bit
returns-clause-counts c = rw c.ones.ensures (same_bits c.args.map.now.bus_width _ _ _ (λ j h.
    ap (λ (known : List Bool). not (hidden_bit (edge_of c.args.map.now c.args.self.now.values.items c.args.hw.now c.args.event) known j)) c.as_slice-known.ensures.value)
    (inverse_bits c.args.map.now.bus_width _ _ (c.hidden_word.ensures c.args.self.now.values.items c.args.hw.now)))
