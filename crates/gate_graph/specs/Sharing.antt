-- Shared gates: which graph a conjunction gives. Of two wires that have a gate, that gate is taken.
use Rattle.std.specs.Prelude.{◌≡◌, ℕ, ◌+◌, ◌*◌, ◌/◌, ◌==◌, Bool, false, ◌&&◌, ◌||◌, if◌then◌else◌, nat_eq, nat_lt, List, [], ◌∷◌, ◌++◌, length, slice_get, Option, Some, None}
use Rattle.gate_graph.specs.declared.wires.Wire.{Wire}
use Rattle.gate_graph.specs.declared.nodes.Node.{Node}
use Rattle.gate_graph.specs.declared.nodes.Node.TheVariants.{Zero, Latch, Input, And}
use Rattle.gate_graph.specs.Gates.{wire_value, IsOf, Extends, Means}

-- the wire of a node's number, not inverted
abbrev pub wire_of : ℕ → Wire
wire_of i = record { 0 = 2 * i }

-- the node is the gate of these two wires, in this order
abbrev pub is_gate : Wire → Wire → Node → Bool
is_gate a b Zero = false
is_gate a b (Latch n) = false
is_gate a b (Input n) = false
is_gate a b (And c d) = nat_eq a.0 c.0 && nat_eq b.0 d.0

-- the number of the first gate of these wires, where the first of the nodes has the number i
abbrev pub gate_from : Wire → Wire → ℕ → List Node → Option ℕ
gate_from a b i [] = None
gate_from a b i (n ∷ ns) = if is_gate a b n then Some i else gate_from a b (i + 1) ns

-- the wire of the gate that was found, or of one that is added, and the graph with it
abbrev pub gate_or : List Node → Wire → Wire → Option ℕ → Wire × List Node
gate_or ns a b (Some i) = (wire_of i, ns)
gate_or ns a b None = (wire_of (length ns), ns ++ And a b ∷ [])

-- the gate of these wires: the one that is there, else one more
unfoldable pub gate_of : List Node → Wire → Wire → Wire × List Node
gate_of ns a b = gate_or ns a b (gate_from a b 0 ns)

-- the conjunction of two wires, and the graph with it: constants and wires of one node need no gate, and a gate's
-- lower wire stands first
unfoldable pub and_of : List Node → Wire → Wire → Wire × List Node
and_of ns a b =
    if a.0 == 0 || b.0 == 0 then (wire_of 0, ns)
    else (if a.0 == 1 || a.0 == b.0 then (b, ns)
    else (if b.0 == 1 then (a, ns)
    else (if a.0 / 2 == b.0 / 2 then (wire_of 0, ns)
    else (if nat_lt a.0 b.0 then gate_of ns a b else gate_of ns b a))))

-- the graph begins with the constant
abbrev pub HasZero : List Node → Type 0
HasZero ns = slice_get ns 0 ≡ Some Zero

-- the result has a wire of this value, and a graph that extends the old one by at most k gates
pub record Gives (old : List Node) (result : Wire × List Node) (k : ℕ) (f : (ℕ → Bool) → Bool) : Type 0 where
  pub extends : Extends old result.1 k
  pub means : Means result.1 result.0 f

-- what a conjunction gives
abbrev pub ConjunctionGives : Type 0
ConjunctionGives = (ns : List Node) (a b : Wire) → HasZero ns → IsOf a ns → IsOf b ns → Gives ns (and_of ns a b) 1 (λ v. wire_value v a && wire_value v b)
