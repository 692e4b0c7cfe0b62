-- The laws that a field's places in a bus event are those that the register machine sees.
use Rattle.std.specs.Prelude.{◌≡◌, ℕ, ◌+◌, ◌/◌, ◌≤◌, Bool, false, not, ◌&&◌, List, map, length, get_or}
use Rattle.std.specs.List.{range_with_len}
use Rattle.field_policies.specs.declared.field.Field.{Field}
use Rattle.field_policies.specs.Bits.{bit}
use Rattle.gate_graph.specs.declared.wires.Wire.{Wire}
use Rattle.gate_graph.specs.Gates.{wire_value}
use Rattle.reg_machine.specs.Steps as machine
use Rattle.reg_machine.specs.Steps.{Edge}
use Rattle.word_gates.specs.Words.{values}
use Rattle.event_gates.specs.declared.hits.EventGates.{EventGates}
use Rattle.event_gates.specs.Events.{event_at}
use Rattle.event_gates.specs.Places.{payload_of_field}

abbrev pub places : Field → (ℕ → Bool) → List Bool
places f bits = map bits (range_with_len 0 f.width)

-- a place is written where the event writes the word and the strobe of its byte is 1
abbrev pub EnabledAreMachines : Type 0
EnabledAreMachines = (v : ℕ → Bool) (g : EventGates) (e : Edge) (f : Field) → e.event ≡ event_at v g
    → places f (λ i. get_or (values v g.strobe.items) ((f.lsb + i) / 8) false && machine.writes e f) ≡ places f (machine.is_enabled e f)

-- the written bits are those of the data of a write, and 0 where the event is none
abbrev pub PayloadsAreMachines : Type 0
PayloadsAreMachines = (v : ℕ → Bool) (g : EventGates) (e : Edge) (f : Field) (only : Bool) (payload : List Wire) → e.event ≡ event_at v g → f.lsb + f.width ≤ length g.payload.items
    → only ≡ (wire_value v g.write && not (wire_value v g.read)) → values v payload ≡ map (λ x. x && only) (values v g.payload.items)
    → values v (payload_of_field f payload) ≡ places f (λ i. bit (machine.payload_of e.event) (f.lsb + i))
