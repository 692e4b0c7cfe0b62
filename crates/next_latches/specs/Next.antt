-- The latches of a register map after an edge of the register machine.
use Rattle.std.specs.Prelude.{◌≡◌, ℕ, Bool, List, length, map}
use Rattle.field_policies.specs.declared.field.Field.{Field}
use Rattle.gate_graph.specs.declared.wires.Wire.{Wire}
use Rattle.gate_graph.specs.declared.nodes.Node.{Node}
use Rattle.gate_graph.specs.Gates.{wire_value}
use Rattle.reg_machine.specs.Steps.{Edge}
use Rattle.reg_machine.specs.States.{State, next_state}
use Rattle.word_gates.specs.Words.{Shows}
use Rattle.latch_order.specs.declared.latches.StateGates.{StateGates}
use Rattle.latch_order.specs.Latches.{Stored, all_latches, state_bits}
use Rattle.latch_order.specs.Wires.{stored_by}
use Rattle.field_edges.specs.declared.edge.EdgeGates.{EdgeGates}
use Rattle.map_views.specs.Laws.{values_at}
use Rattle.map_edges.specs.Edges.{AllEdges, AllNext}

abbrev pub next_stored : EdgeGates → Stored Wire
next_stored g = stored_by g.step.value.items g.step.used g.step.known

abbrev pub all_next_stored : List EdgeGates → List (Stored Wire)
all_next_stored edges = map next_stored edges

-- the state that the wires stand for where each node i has the value v i
abbrev pub state_at : (ℕ → Bool) → List StateGates → State
state_at v states = record { values = values_at v states; used = map (λ s. wire_value v s.used) states; known = map (λ s. wire_value v s.known) states }

-- the latches are the next state's
abbrev pub NextAreMachines : Type 0
NextAreMachines = (nodes : List Node) (fields : List Field) (states : List StateGates) (edges : List EdgeGates) (e : (ℕ → Bool) → Edge) → ((v : ℕ → Bool) → (e v).view.fields ≡ fields) → length states ≡ length fields
    → AllEdges nodes fields edges → AllNext nodes fields states e edges → Shows nodes (all_latches fields (all_next_stored edges)) (λ v. state_bits fields (next_state (e v) (state_at v states)))
