-- Which graph each call builds: its wires, and the nodes with its gates, as a function of the nodes before.
use Rattle.std.specs.Prelude.{ℕ, zero, suc, ◌+◌, ◌/◌, ◌%◌, ◌==◌, Bool, if◌then◌else◌, List, [], ◌∷◌, ◌++◌, length, get_or, take, map, replicate, Option, Some, None}
use Rattle.field_policies.specs.declared.extra.Counter.{Counter}
use Rattle.field_policies.specs.declared.signal.Gate.{Gate}
use Rattle.gate_graph.specs.declared.wires.Wire.{Wire}
use Rattle.gate_graph.specs.declared.nodes.Node.{Node}
use Rattle.gate_graph.specs.Sharing.{and_of}
use Rattle.word_gates.specs.Graphs.{off, inverse, add_made, sub_made, any_made, bitwise_made, masked_made, between_made}

-- the places of a number: a wire for each 1, another for each 0
abbrev pub placed : ℕ → ℕ → Wire → Wire → List Wire
placed zero n one none = []
placed (suc width) n one none = (if n % 2 == 1 then one else none) ∷ placed width (n / 2) one none

-- the value with what it counts up and down, in two places more
unfoldable pub difference_made : Counter → List Node → List Wire → Wire → Wire → List Wire × List Node
difference_made c ns value incr decr =
    let sum = add_made ns (value ++ (off ∷ (off ∷ []))) (placed (length value + 2) c.up incr off) in
    sub_made sum.1 sum.0 (placed (length value + 2) c.down decr off)

unfoldable pub held_made : List Node → List Wire → Wire → Wire → List Wire × List Node
held_made ns value above below =
    let high = bitwise_made 1 ns value (replicate (length value) above) in
    masked_made high.1 high.0 (inverse below)

-- the step of a counter: its bits, then whether it went over and under
unfoldable pub counted_made : Counter → List Node → List Wire → Wire → Wire → (List Wire × (Wire × Wire)) × List Node
counted_made c ns value incr decr =
    let sum = difference_made c ns value incr decr in
    let under = get_or sum.0 (length value + 1) off in
    let over = and_of sum.1 (get_or sum.0 (length value) off) (inverse under) in
    let bits = held_made over.1 (take (length value) sum.0) (if c.up_stops then over.0 else off) (if c.down_stops then under else off) in
    ((bits.0, (over.0, under)), bits.1)

-- the step of an interrupt field: whether hardware is active, then its bits
abbrev pub taken_made : Bool → List Node → List Wire → List Wire → Wire → List Wire × List Node
taken_made sticky ns value payload active = if sticky then between_made ns payload value active else bitwise_made 1 ns value payload

unfoldable pub interrupt_made : Bool → List Node → List Wire → List Wire → (Wire × List Wire) × List Node
interrupt_made sticky ns value payload =
    let some = any_made ns payload in
    let there = any_made some.1 value in
    let active = and_of there.1 some.0 (inverse (if sticky then there.0 else off)) in
    let bits = taken_made sticky active.1 value payload active.0 in
    ((active.0, bits.0), bits.1)

-- what reaches the interrupt of the register: the bits cut by `enable` or by the inverse of `mask`, and whether some is left
abbrev pub cut_made : Bool → List Node → List Wire → List Wire → List Wire × List Node
cut_made high ns value filter = bitwise_made 0 ns value (if high then filter else map inverse filter)

abbrev pub raised_made : Option Gate → List Node → List Wire → List Wire → Wire × List Node
raised_made None ns value filter = any_made ns value
raised_made (Some g) ns value filter = any_made (cut_made g.high ns value filter).1 (cut_made g.high ns value filter).0
