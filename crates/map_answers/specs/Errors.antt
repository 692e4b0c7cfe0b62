-- The error of the answer (AMBA APB, PSLVERR).
use Rattle.std.specs.Prelude.{ℕ, Bool, ◌||◌, if◌then◌else◌, List}
use Rattle.apb_rules.specs.declared.event.BusEvent.{BusEvent}
use Rattle.gate_graph.specs.declared.wires.Wire.{Wire}
use Rattle.gate_graph.specs.declared.nodes.Node.{Node}
use Rattle.gate_graph.specs.Sharing.{and_of}
use Rattle.reg_machine.specs.Steps.{is_read_of, is_write_of}
use Rattle.word_gates.specs.Graphs.{off, inverse, or_made, carried}
use Rattle.event_gates.specs.declared.hits.EventGates.{EventGates}

-- the event reads or writes the word at the address
abbrev pub is_at : BusEvent → ℕ → Bool
is_at e a = is_read_of e a || is_write_of e a

-- which graph it is
abbrev pub found_step_made : List Node → Wire → Wire × Wire → Wire × List Node
found_step_made ns found hit =
    let one = or_made ns hit.0 hit.1 in
    or_made one.1 found one.0

unfoldable pub found_made : List Node → List (Wire × Wire) → Wire × List Node
found_made ns hits = carried found_step_made ns off hits

unfoldable pub error_made : List Node → EventGates → List (Wire × Wire) → Wire × List Node
error_made ns event hits =
    let found = found_made ns hits in
    let some = or_made found.1 event.read event.write in
    let unmapped = and_of some.1 some.0 (inverse found.0) in
    (if event.unmapped_error then unmapped.0 else off, unmapped.1)
