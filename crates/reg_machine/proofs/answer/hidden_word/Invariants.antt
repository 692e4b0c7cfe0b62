use Rattle.std.proofs.Common.{List, ℕ}
use Rattle.field_policies.specs.Bits.{any_below, AreBitsOf}
use Rattle.reg_machine.specs.Conditions.{edge_of}
use Rattle.reg_machine.specs.Machines.{hides}
use Rattle.reg_machine.proofs.answer.hidden_word.Given as goal

abbrev pub invariant-loop-number : goal.invariant-loop-number
invariant-loop-number l = (values hw : List ℕ) → AreBitsOf l.map.bus_width (λ j. any_below l.number (hides (edge_of l.map values hw l.event) l.known j)) l.word
