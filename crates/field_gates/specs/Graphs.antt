-- Which graph each call builds: its wires, and the nodes with its gates, as a function of the nodes before.
use Rattle.std.specs.Prelude.{Bool, not, ◌&&◌, if◌then◌else◌, List, length, map, replicate}
use Rattle.field_policies.specs.declared.policy.ReadEffect.{ReadEffect}
use Rattle.field_policies.specs.declared.policy.ReadEffect.TheVariants as read
use Rattle.field_policies.specs.declared.policy.WriteEffect.{WriteEffect}
use Rattle.field_policies.specs.declared.policy.WriteEffect.TheVariants as write
use Rattle.gate_graph.specs.declared.wires.Wire.{Wire}
use Rattle.gate_graph.specs.declared.nodes.Node.{Node}
use Rattle.gate_graph.specs.Sharing.{and_of}
use Rattle.reg_machine.specs.Steps.{has_effect}
use Rattle.field_policies.specs.declared.field.Field.{Field}
use Rattle.word_gates.specs.Graphs.{off, on, inverse, or_made, any_made, bitwise_made, picked_made, between_made}

abbrev pub constant_wire : Bool → Wire
constant_wire bit = if bit then on else off

-- a write by its effect
abbrev pub write_made : WriteEffect → List Node → List Wire → List Wire → List Wire × List Node
write_made write.AsIs ns value payload = (payload, ns)
write_made write.OneSet ns value payload = bitwise_made 1 ns value payload
write_made write.OneClear ns value payload = bitwise_made 0 ns value (map inverse payload)
write_made write.OneToggle ns value payload = bitwise_made 2 ns value payload
write_made write.ZeroSet ns value payload = bitwise_made 1 ns value (map inverse payload)
write_made write.ZeroClear ns value payload = bitwise_made 0 ns value payload
write_made write.ZeroToggle ns value payload = bitwise_made 3 ns value payload
write_made write.Clear ns value payload = (replicate (length value) off, ns)
write_made write.Set ns value payload = (replicate (length value) on, ns)

-- a read by its effect
abbrev pub read_made : ReadEffect → List Wire → List Wire
read_made read.Keep value = value
read_made read.Clear value = replicate (length value) off
read_made read.Set value = replicate (length value) on

-- software: the write at the enabled places, else the read
unfoldable pub software_made : WriteEffect → ReadEffect → List Node → Wire → List Wire → List Wire → List Wire → List Wire × List Node
software_made w r ns written enabled value payload =
    let effect = write_made w ns value payload in
    let by_write = picked_made effect.1 effect.0 value enabled in
    between_made by_write.1 by_write.0 (read_made r value) written

-- after the edge: software, else hardware at the opened places, else what rests
abbrev pub resting_effect : Bool → ReadEffect
resting_effect pulse = if pulse then read.Clear else read.Keep

unfoldable pub next_made : Bool → List Node → Wire → Wire → List Wire → List Wire → List Wire → List Wire → List Wire × List Node
next_made pulse ns by_software by_hardware software hardware opened value =
    let given = picked_made ns hardware value opened in
    let other = between_made given.1 given.0 (read_made (resting_effect pulse) value) by_hardware in
    between_made other.1 software other.0 by_software

-- a wire where the condition holds
abbrev pub only_made : Bool → Wire → Wire
only_made condition w = if condition then w else off

-- the sides, and the once flag
unfoldable pub written_made : Field → List Node → List Wire → Wire → Wire → Wire × List Node
written_made f ns enabled allowed used =
    let touched = any_made ns enabled in
    let may = and_of touched.1 allowed (inverse (only_made f.once used)) in
    let both = and_of may.1 touched.0 may.0 in
    (only_made f.writable both.0, both.1)

unfoldable pub software_side_made : Field → List Node → Wire → Wire → Wire × List Node
software_side_made f ns written reads = or_made ns written (only_made (f.readable && has_effect f.read) reads)

unfoldable pub by_software_made : Field → List Node → Wire → Wire → Wire × List Node
by_software_made f ns software active = and_of ns software (inverse (only_made f.hw_first active))

unfoldable pub by_hardware_made : Field → List Node → Wire → Wire → Wire × List Node
by_hardware_made f ns software active = and_of ns active (inverse (only_made (not f.hw_first) software))

unfoldable pub next_used_made : Field → List Node → Wire → Wire → Wire × List Node
next_used_made f ns written used = or_made ns used (only_made f.once written)
