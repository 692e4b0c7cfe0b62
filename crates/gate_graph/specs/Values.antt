-- The values of the nodes of a graph, under latches and inputs.
use Rattle.std.specs.Prelude.{◌≡◌, ℕ, ◌<◌, Bool, false, ◌&&◌, List, [], ◌∷◌, ◌++◌, slice_get, slice_index_or, Some}
use Rattle.gate_graph.specs.declared.nodes.Node.{Node}
use Rattle.gate_graph.specs.declared.nodes.Node.TheVariants.{Zero, Latch, Input, And}
use Rattle.gate_graph.specs.Gates.{wire_value}

-- the entry of a list of values, false past its end
abbrev pub at : List Bool → ℕ → Bool
at values i = slice_index_or values i false

-- the value of a node, where each node i has the value v i
abbrev pub node_value : List Bool → List Bool → (ℕ → Bool) → Node → Bool
node_value latches inputs v Zero = false
node_value latches inputs v (Latch n) = at latches n
node_value latches inputs v (Input n) = at inputs n
node_value latches inputs v (And a b) = wire_value v a && wire_value v b

-- each node i has its value v i, under these latches and inputs
pub record IsValuation (latches inputs : List Bool) (v : ℕ → Bool) (nodes : List Node) : Type 0 where
  pub node : (i : ℕ) (n : Node) → slice_get nodes i ≡ Some n → v i ≡ node_value latches inputs v n

-- the values of further nodes, behind those that are done
abbrev pub values_from : List Bool → List Bool → List Bool → List Node → List Bool
values_from latches inputs done [] = done
values_from latches inputs done (n ∷ ns) = values_from latches inputs (done ++ node_value latches inputs (at done) n ∷ []) ns

-- the value of each node of a graph, under these latches and inputs (false past the last)
unfoldable pub value : List Bool → List Bool → List Node → ℕ → Bool
value latches inputs nodes = at (values_from latches inputs [] nodes)

-- the number of a latch or input node is below these counts
abbrev pub IsNumbered : ℕ → ℕ → Node → Type 0
IsNumbered latches inputs Zero = Unit {0}
IsNumbered latches inputs (Latch n) = n < latches
IsNumbered latches inputs (Input n) = n < inputs
IsNumbered latches inputs (And a b) = Unit {0}
