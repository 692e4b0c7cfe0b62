-- The bus event that wires stand for (AMBA APB, transfers).
use Rattle.std.specs.Prelude.{ℕ, Bool, if◌then◌else◌}
use Rattle.apb_rules.specs.declared.event.BusEvent.{BusEvent}
use Rattle.apb_rules.specs.declared.event.BusEvent.TheVariants.{Nothing, Read, Write}
use Rattle.bit_base.specs.Numbers.{number_of}
use Rattle.gate_graph.specs.Gates.{wire_value}
use Rattle.word_gates.specs.Words.{values}
use Rattle.event_gates.specs.declared.hits.EventGates.{EventGates}

-- where each node i has the value v i: a read goes before a write
abbrev pub event_at : (ℕ → Bool) → EventGates → BusEvent
event_at v e =
    if wire_value v e.read then Read (number_of (values v e.address.items))
    else (if wire_value v e.write then Write (number_of (values v e.address.items)) (number_of (values v e.payload.items)) (number_of (values v e.strobe.items))
    else Nothing)
