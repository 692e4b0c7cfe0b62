-- And-inverter graphs: what each wire's value is, where each node has a value, and what adding nodes keeps.
-- (And-inverter graphs are no public standard's; node 0 is the constant, as in the AIGER format.)
use Rattle.std.specs.Prelude.{◌≡◌, ◌≢◌, ℕ, ◌+◌, ◌*◌, ◌/◌, ◌%◌, ◌<◌, ◌≤◌, Bool, false, not, ◌&&◌, eqb, cond, List, [], ◌∷◌, length, slice_get, Some, ◌⊎◌}
use Rattle.gate_graph.specs.declared.wires.Wire.{Wire}
use Rattle.gate_graph.specs.declared.nodes.Node.{Node}
use Rattle.gate_graph.specs.declared.nodes.Node.TheVariants.{Zero, Latch, Input, And}

-- the value of a wire, where each node i has the value v i: that of its node, inverted at an odd number
unfoldable pub wire_value : (ℕ → Bool) → Wire → Bool
wire_value v w = cond (eqb (w.0 % 2) 1) (not (v (w.0 / 2))) (v (w.0 / 2))

-- the value of node i is what the node says of it, whatever latches and inputs are
abbrev pub Obeys : (ℕ → Bool) → ℕ → Node → Type 0
Obeys v i Zero = v i ≡ false
Obeys v i (Latch n) = Unit {0}
Obeys v i (Input n) = Unit {0}
Obeys v i (And a b) = v i ≡ (wire_value v a && wire_value v b)

-- the values obey every gate of the graph, whatever its latches and inputs are
pub record Respects (v : ℕ → Bool) (nodes : List Node) : Type 0 where
  pub gate : (i : ℕ) (n : Node) → slice_get nodes i ≡ Some n → Obeys v i n

-- the wire is one of the graph's
abbrev pub IsOf : Wire → List Node → Type 0
IsOf w nodes = w.0 < 2 * length nodes

-- each of these wires is one of the graph's
pub record AreOf (wires : List Wire) (nodes : List Node) : Type 0 where
  pub each : (i : ℕ) (w : Wire) → slice_get wires i ≡ Some w → IsOf w nodes

-- how many latches the graph has
abbrev pub latch_count : List Node → ℕ
latch_count [] = 0
latch_count (Zero ∷ ns) = latch_count ns
latch_count (Latch n ∷ ns) = latch_count ns + 1
latch_count (Input n ∷ ns) = latch_count ns
latch_count (And a b ∷ ns) = latch_count ns

-- how many inputs the graph has
abbrev pub input_count : List Node → ℕ
input_count [] = 0
input_count (Zero ∷ ns) = input_count ns
input_count (Latch n ∷ ns) = input_count ns
input_count (Input n ∷ ns) = input_count ns + 1
input_count (And a b ∷ ns) = input_count ns

-- at most k gates were added behind the earlier nodes, which stay, and no latch or input
pub record Extends (old new : List Node) (k : ℕ) : Type 0 where
  pub kept : (i : ℕ) (n : Node) → slice_get old i ≡ Some n → slice_get new i ≡ Some n
  pub grows : length old ≤ length new
  pub bound : length new ≤ length old + k
  pub latches : latch_count new ≡ latch_count old
  pub inputs : input_count new ≡ input_count old

-- nodes were added, of any kind, behind the earlier ones, which stay
pub record Keeps (old new : List Node) : Type 0 where
  pub kept : (i : ℕ) (n : Node) → slice_get old i ≡ Some n → slice_get new i ≡ Some n
  pub grows : length old ≤ length new

-- the wire is of the graph, and has the value f under every assignment that respects the graph
pub record Means (nodes : List Node) (w : Wire) (f : (ℕ → Bool) → Bool) : Type 0 where
  pub of : IsOf w nodes
  pub value : (v : ℕ → Bool) → Respects v nodes → wire_value v w ≡ f v

-- the wires of a gate are of lower nodes, and of two different ones
abbrev pub IsLow : ℕ → Node → Type 0
IsLow i Zero = Unit {0}
IsLow i (Latch n) = Unit {0}
IsLow i (Input n) = Unit {0}
IsLow i (And a b) = (a.0 < 2 * i) × (b.0 < 2 * i) × (a.0 / 2 ≢ b.0 / 2)

-- node 0 is the constant, and the wires of each gate are of two different lower nodes
pub record AreLow (nodes : List Node) : Type 0 where
  pub first : slice_get nodes 0 ≡ Some Zero
  pub gate : (i : ℕ) (a b : Wire) → slice_get nodes i ≡ Some (And a b) → IsLow i (And a b)

-- the latch nodes have the numbers from l on, the input nodes those from x on, each once and in order
abbrev pub AreCounted : ℕ → ℕ → List Node → Type 0
AreCounted l x [] = Unit {0}
AreCounted l x (Zero ∷ ns) = AreCounted l x ns
AreCounted l x (Latch n ∷ ns) = (n ≡ l) × AreCounted (l + 1) x ns
AreCounted l x (Input n ∷ ns) = (n ≡ x) × AreCounted l (x + 1) ns
AreCounted l x (And a b ∷ ns) = AreCounted l x ns

-- a list of nodes that is a graph
pub record IsGraph (nodes : List Node) : Type 0 where
  pub low : AreLow nodes
  pub counted : AreCounted 0 0 nodes

-- a conjunction that needs no gate: a wire is constant, or both are of one node
abbrev pub IsSimple : Wire → Wire → Type 0
IsSimple a b = (a.0 / 2 ≡ 0) ⊎ ((b.0 / 2 ≡ 0) ⊎ (a.0 / 2 ≡ b.0 / 2))
