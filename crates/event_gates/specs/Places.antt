-- A field's places in a bus event: the strobe of each place is that of its byte in the bus word (AMBA APB, PSTRB).
use Rattle.std.specs.Prelude.{ℕ, ◌+◌, ◌/◌, List, map, get_or, take, drop}
use Rattle.std.specs.List.{range_with_len}
use Rattle.field_policies.specs.declared.field.Field.{Field}
use Rattle.gate_graph.specs.declared.wires.Wire.{Wire}
use Rattle.gate_graph.specs.declared.nodes.Node.{Node}
use Rattle.word_gates.specs.Graphs.{off, masked_made}

abbrev pub strobes_of : Field → List Wire → List Wire
strobes_of f strobe = map (λ i. get_or strobe ((f.lsb + i) / 8) off) (range_with_len 0 f.width)

-- whether each place is written
unfoldable pub enabled_made : Field → List Node → Wire → List Wire → List Wire × List Node
enabled_made f ns writes strobe = masked_made ns (strobes_of f strobe) writes

-- the written bit of each place
abbrev pub payload_of_field : Field → List Wire → List Wire
payload_of_field f payload = take f.width (drop f.lsb payload)
