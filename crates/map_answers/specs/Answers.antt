-- The answer of a register map to a bus event.
use Rattle.std.specs.Prelude.{ℕ, ◌+◌, Bool, List, map}
use Rattle.field_policies.specs.declared.field.Field.{Field}
use Rattle.gate_graph.specs.Gates.{wire_value}
use Rattle.std.specs.List.{range_with_len}
use Rattle.reg_machine.specs.Steps.{Edge}
use Rattle.reg_machine.specs.Machines.{counts_bit}
use Rattle.latch_order.specs.declared.latches.StateGates.{StateGates}

-- where each node i has the value v i: whether each field's value is known
abbrev pub known_at : (ℕ → Bool) → List StateGates → List Bool
known_at v states = map (λ s. wire_value v s.known) states

-- the bits of the bus word that count
abbrev pub counts_row : Edge → List Bool → ℕ → List Bool
counts_row e known bus = map (counts_bit e known) (range_with_len 0 bus)

-- how many gates a field may add to the data
abbrev pub data_gates_of : Field → ℕ
data_gates_of f = f.width + 33
