-- What a graph keeps beside its nodes: how many latches and inputs it has, and where its gates are.
use Rattle.std.specs.Prelude.{◌≡◌, ℕ, ◌^◌, ◌<◌, Bool, ◌&&◌, nat_eq, List, length, Option}
use Rattle.gate_graph.specs.declared.nodes.Node.{Node}
use Rattle.gate_graph.specs.declared.wires.Wire.{Wire}
use Rattle.gate_graph.specs.Gates.{IsGraph, latch_count, input_count}
use Rattle.gate_graph.specs.Sharing.{gate_from}

-- two pairs of numbers are equal
abbrev pub pair_eq : ℕ × ℕ → ℕ × ℕ → Bool
pair_eq p q = nat_eq p.0 q.0 && nat_eq p.1 q.1

-- the nodes are a graph of fewer than 2^31 nodes, with these numbers of latches and inputs, and the table has the
-- first gate of each two wires
pub record IsHeld (nodes : List Node) (latches inputs : ℕ) (table : ℕ × ℕ → Option ℕ) : Type 0 where
  pub graph : IsGraph nodes
  pub small : length nodes < 2 ^ 31
  pub latched : latches ≡ latch_count nodes
  pub numbered : inputs ≡ input_count nodes
  pub shared : (a b : Wire) → table (a.0, b.0) ≡ gate_from a b 0 nodes
