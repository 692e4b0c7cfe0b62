-- What the step of a field looks at, where it is wires.
use Rattle.std.specs.Prelude.{◌≡◌, ℕ, Bool, not, ◌&&◌, ◌||◌, List, length, is_some}
use Rattle.bit_base.specs.Operators.{are_all}
use Rattle.field_policies.specs.declared.field.Field.{Field}
use Rattle.gate_graph.specs.declared.nodes.Node.{Node}
use Rattle.gate_graph.specs.declared.wires.Wire.{Wire}
use Rattle.gate_graph.specs.Gates.{wire_value, IsOf, AreOf}
use Rattle.reg_machine.specs.Steps.{is_whole}
use Rattle.word_gates.specs.Words.{values}
use Rattle.field_gates.specs.declared.step.SeenGates.{SeenGates}
use Rattle.field_gates.specs.declared.step.SideGates.{SideGates}
use Rattle.field_gates.specs.FieldStep.{Seen}

-- the wires are of the graph, and each word has one for each place
pub record AreSeen (nodes : List Node) (width : ℕ) (s : SeenGates) : Type 0 where
  pub reads_of : IsOf s.reads nodes
  pub allowed_of : IsOf s.allowed nodes
  pub used_of : IsOf s.used nodes
  pub known_of : IsOf s.known nodes
  pub active_of : IsOf s.active nodes
  pub whole_of : IsOf s.whole nodes
  pub enabled_of : AreOf s.enabled.items nodes
  pub payload_of : AreOf s.payload.items nodes
  pub value_of : AreOf s.value.items nodes
  pub side_of : AreOf s.side.items nodes
  pub opened_of : AreOf s.opened.items nodes
  pub enabled_length : length s.enabled.items ≡ width
  pub payload_length : length s.payload.items ≡ width
  pub value_length : length s.value.items ≡ width
  pub side_length : length s.side.items ≡ width
  pub opened_length : length s.opened.items ≡ width

pub record AreSides (nodes : List Node) (s : SideGates) : Type 0 where
  pub written_of : IsOf s.written nodes
  pub software_of : IsOf s.software nodes
  pub by_software_of : IsOf s.by_software nodes
  pub by_hardware_of : IsOf s.by_hardware nodes

-- the same as lists of wires
pub record SeenWires : Type 0 where
  pub reads : Wire
  pub allowed : Wire
  pub used : Wire
  pub known : Wire
  pub active : Wire
  pub whole : Wire
  pub enabled : List Wire
  pub payload : List Wire
  pub value : List Wire
  pub side : List Wire
  pub opened : List Wire

abbrev pub seen_wires : SeenGates → SeenWires
seen_wires s = record {
  reads = s.reads;
  allowed = s.allowed;
  used = s.used;
  known = s.known;
  active = s.active;
  whole = s.whole;
  enabled = s.enabled.items;
  payload = s.payload.items;
  value = s.value.items;
  side = s.side.items;
  opened = s.opened.items;
}

-- what is seen where each node i has the value v i
abbrev pub seen_at : (ℕ → Bool) → SeenGates → Seen
seen_at v s = record {
  reads = wire_value v s.reads;
  allowed = wire_value v s.allowed;
  used = wire_value v s.used;
  known = wire_value v s.known;
  active = wire_value v s.active;
  whole = wire_value v s.whole;
  enabled = values v s.enabled.items;
  payload = values v s.payload.items;
  value = values v s.value.items;
  side = values v s.side.items;
  opened = values v s.opened.items;
}

-- the value is known, by the wires of the sides
abbrev pub known_at : (ℕ → Bool) → Field → SeenGates → SideGates → Bool
known_at v f s sides = wire_value v s.known
    || ((wire_value v sides.by_software && (not (wire_value v sides.written) || (is_whole f.write && are_all (values v s.enabled.items))))
    || (wire_value v sides.by_hardware && wire_value v s.whole && not (is_some f.bit_gate))
    || (not (wire_value v sides.software) && not (wire_value v s.active) && f.pulse))
