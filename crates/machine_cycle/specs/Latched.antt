-- The register machine that latches and inputs stand for, where each node i has the value v i: its state, its edge, and the
-- data of its answer.
use Rattle.std.specs.Prelude.{ℕ, Bool, true, false, List, map}
use Rattle.std.specs.List.{range_with_len}
use Rattle.std.specs.declared.vec.Vec.{Vec}
use Rattle.std.specs.declared.alloc.Global.{Global}
use Rattle.field_policies.specs.declared.map.RegMap.{RegMap}
use Rattle.gate_graph.specs.declared.wires.Wire.{Wire}
use Rattle.reg_machine.specs.Steps.{Edge}
use Rattle.reg_machine.specs.States.{State}
use Rattle.reg_machine.specs.Machines.{answer_bit}
use Rattle.word_gates.specs.Words.{values}
use Rattle.event_gates.specs.declared.hits.EventGates.{EventGates}
use Rattle.event_gates.specs.Events.{event_at}
use Rattle.latch_order.specs.Latches.{all_stored, state_by}
use Rattle.map_views.specs.Laws.{inputs_at}

-- the state is read off the latches, field by field
abbrev pub latched_state : RegMap → List Wire → (ℕ → Bool) → State
latched_state map_of latches v = state_by (all_stored false true map_of.fields.items (values v latches))

-- the edge sees these values, the words, the bus event, and the numbers at the hardware inputs
abbrev pub latched_edge : RegMap → List Wire → EventGates → List (Vec Wire Global) → (ℕ → Bool) → Edge
latched_edge map_of latches event hw v = record {
  view = record { fields = map_of.fields.items; values = (latched_state map_of latches v).values; hw = inputs_at v hw };
  words = map_of.words.items;
  event = event_at v event;
}

-- the data of the answer, bit by bit
abbrev pub answer_row : Edge → List Bool → ℕ → List Bool
answer_row e known bus = map (answer_bit e known) (range_with_len 0 bus)
