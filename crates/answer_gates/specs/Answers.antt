-- The bus word with one field more (SystemRDL 2.0, clause 9, software access).
use Rattle.std.specs.Prelude.{ℕ, ◌+◌, ◌-◌, Bool, false, ◌&&◌, ◌||◌, if◌then◌else◌, List, [], ◌∷◌, ◌++◌, length, replicate}
use Rattle.bit_base.specs.Operators.{or_of}
use Rattle.field_policies.specs.declared.field.Field.{Field}
use Rattle.gate_graph.specs.declared.wires.Wire.{Wire}
use Rattle.gate_graph.specs.declared.nodes.Node.{Node}
use Rattle.gate_graph.specs.Sharing.{and_of}
use Rattle.word_gates.specs.Graphs.{off, inverse, bitwise_made, masked_made}

-- these stand from place `low` on in a word of so many
abbrev pub placed : {X : Type 0} → X → ℕ → ℕ → List X → List X
placed none low bus xs = replicate low none ++ (xs ++ replicate (bus - (low + length xs)) none)

-- the word, with these also
abbrev pub joined : ℕ → List Bool → List Bool → List Bool
joined low word bits = or_of word (placed false low (length word) bits)

-- which graph each is
unfoldable pub joined_made : ℕ → List Node → List Wire → List Wire → List Wire × List Node
joined_made low ns word wires = bitwise_made 1 ns word (placed off low (length word) wires)

unfoldable pub shown_made : Field → List Node → Wire → Wire → List Wire → List Wire → List Wire × List Node
shown_made f ns reads known value word =
    let shown = and_of ns (if f.readable then reads else off) known in
    let bits = masked_made shown.1 value shown.0 in
    joined_made f.lsb bits.1 word bits.0

unfoldable pub hidden_made : Field → List Node → Wire → Wire → List Wire → List Wire × List Node
hidden_made f ns reads known word =
    let hides = and_of ns (if f.readable then reads else off) (inverse known) in
    joined_made f.lsb hides.1 word (replicate f.width hides.0)
