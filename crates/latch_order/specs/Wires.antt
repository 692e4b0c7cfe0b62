-- What fields store, as wires, and the values of the wires.
use Rattle.std.specs.Prelude.{ℕ, Bool, List}
use Rattle.gate_graph.specs.declared.wires.Wire.{Wire}
use Rattle.gate_graph.specs.Gates.{wire_value}
use Rattle.word_gates.specs.Words.{values}
use Rattle.latch_order.specs.declared.latches.StateGates.{StateGates}
use Rattle.latch_order.specs.Latches.{Stored}

abbrev pub stored_by : {X : Type 0} → List X → X → X → Stored X
stored_by value used known = record { value = value; used = used; known = known }

abbrev pub stored_wires : StateGates → Stored Wire
stored_wires s = stored_by s.value.items s.used s.known

-- where each node i has the value v i
abbrev pub stored_at : (ℕ → Bool) → Stored Wire → Stored Bool
stored_at v s = stored_by (values v s.value) (wire_value v s.used) (wire_value v s.known)
