-- Which graph the whole step of a field builds: its wires, and the nodes with its gates, as a function of the nodes before.
use Rattle.std.specs.Prelude.{not, List, map, is_some}
use Rattle.field_policies.specs.declared.field.Field.{Field}
use Rattle.gate_graph.specs.declared.wires.Wire.{Wire}
use Rattle.gate_graph.specs.declared.nodes.Node.{Node}
use Rattle.gate_graph.specs.Sharing.{and_of}
use Rattle.reg_machine.specs.Steps.{is_whole}
use Rattle.word_gates.specs.Graphs.{inverse, or_made, any_made, inverted_made}
use Rattle.field_gates.specs.declared.step.SideGates.{SideGates}
use Rattle.field_gates.specs.SeenGates.{SeenWires}
use Rattle.field_gates.specs.Graphs.{only_made, written_made, software_side_made, by_software_made, by_hardware_made, software_made, next_made, next_used_made}

-- the sides
unfoldable pub sides_made : Field → List Node → SeenWires → SideGates × List Node
sides_made f ns s =
    let written = written_made f ns s.enabled s.allowed s.used in
    let software = software_side_made f written.1 written.0 s.reads in
    let soft = by_software_made f software.1 software.0 s.active in
    let hard = by_hardware_made f soft.1 software.0 s.active in
    (record { written = written.0; software = software.0; by_software = soft.0; by_hardware = hard.0 }, hard.1)

-- every place is true
unfoldable pub covered_made : List Node → List Wire → Wire × List Node
covered_made ns a = inverted_made (any_made ns (map inverse a))

-- the known flag
unfoldable pub by_write_made : Field → List Node → SideGates → Wire → Wire × List Node
by_write_made f ns sides covered =
    let gives = or_made ns (inverse sides.written) (only_made (is_whole f.write) covered) in
    and_of gives.1 sides.by_software gives.0

unfoldable pub either_made : List Node → Wire → Wire → Wire → Wire → Wire × List Node
either_made ns a b c d =
    let two = or_made ns b c in
    let three = or_made two.1 two.0 d in
    or_made three.1 a three.0

unfoldable pub known_made : Field → List Node → SeenWires → SideGates → Wire × List Node
known_made f ns s sides =
    let covered = covered_made ns s.enabled in
    let soft = by_write_made f covered.1 sides covered.0 in
    let hard = and_of soft.1 sides.by_hardware (only_made (not (is_some f.bit_gate)) s.whole) in
    let quiet = and_of hard.1 (inverse sides.software) (inverse s.active) in
    either_made quiet.1 s.known soft.0 hard.0 (only_made f.pulse quiet.0)

-- the whole step: whether software is active, then the bits, the once flag and the known flag
unfoldable pub step_made : Field → List Node → SeenWires → (Wire × (List Wire × (Wire × Wire))) × List Node
step_made f ns s =
    let sides = sides_made f ns s in
    let soft = software_made f.write f.read sides.1 sides.0.written s.enabled s.value s.payload in
    let value = next_made f.pulse soft.1 sides.0.by_software sides.0.by_hardware soft.0 s.side s.opened s.value in
    let used = next_used_made f value.1 sides.0.written s.used in
    let known = known_made f used.1 s sides.0 in
    ((sides.0.software, (value.0, (used.0, known.0))), known.1)
