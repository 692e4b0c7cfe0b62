-- Words of wires, least first, and their values.
use Rattle.std.specs.Prelude.{◌≡◌, ℕ, Bool, List, map}
use Rattle.gate_graph.specs.declared.wires.Wire.{Wire}
use Rattle.gate_graph.specs.declared.nodes.Node.{Node}
use Rattle.gate_graph.specs.Gates.{wire_value, Respects, AreOf}

-- the values of the wires, where each node i has the value v i
abbrev pub values : (ℕ → Bool) → List Wire → List Bool
values v wires = map (wire_value v) wires

-- the wires are of the graph, and have the values f under every assignment that respects the graph
pub record Shows (nodes : List Node) (wires : List Wire) (f : (ℕ → Bool) → List Bool) : Type 0 where
  pub of : AreOf wires nodes
  pub value : (v : ℕ → Bool) → Respects v nodes → values v wires ≡ f v
