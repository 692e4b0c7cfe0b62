-- Graphs that grow: what stays as nodes are added, and how many latches and inputs there are then. For the crates above.
use Rattle.std.proofs.Common.{◌≡◌, ℕ, ◌+◌, ◌<◌, Bool, List, [], ◌∷◌, ◌++◌, length, arith}
use Rattle.gate_graph.specs.declared.wires.Wire.{Wire}
use Rattle.gate_graph.specs.declared.nodes.Node.{Node}
use Rattle.gate_graph.specs.declared.nodes.Node.TheVariants.{Latch, Input}
use Rattle.gate_graph.specs.Gates.{wire_value, IsGraph, IsOf, Keeps, latch_count, input_count}
use Rattle.gate_graph.specs.Values.{value, IsValuation}
use Rattle.gate_graph.proofs.GraphLemmas.{latch_count-push, input_count-push}
use Rattle.gate_graph.proofs.ValueLemmas.{value_is, agree, wire_value_below}

-- what is a valuation of the graph is one of the earlier nodes
pub valuation_kept : (s x : List Bool) (v : ℕ → Bool) (old new : List Node) → Keeps old new → IsValuation s x v new → IsValuation s x v old
valuation_kept s x v old new keeps p = record { node = λ i n h. p.node i n (keeps.kept i n h) }

-- earlier nodes keep their values
pub value_kept : (s x : List Bool) (old new : List Node) → IsGraph old → IsGraph new → Keeps old new → (i : ℕ) → i < length old → value s x new i ≡ value s x old i
value_kept s x old new g h keeps i lt = agree s x (value s x new) (value s x old) old g (valuation_kept s x (value s x new) old new keeps (value_is s x new h)) (value_is s x old g) i lt

pub wire_value_kept : (s x : List Bool) (old new : List Node) → IsGraph old → IsGraph new → Keeps old new → (w : Wire) → IsOf w old → wire_value (value s x new) w ≡ wire_value (value s x old) w
wire_value_kept s x old new g h keeps w of = wire_value_below (value s x new) (value s x old) w (length old) of (λ i lt. value_kept s x old new g h keeps i lt)

-- one latch more, one input more
pub latch_counted : (ns : List Node) (n : ℕ) → (latch_count (ns ++ Latch n ∷ []) ≡ latch_count ns + 1) × (input_count (ns ++ Latch n ∷ []) ≡ input_count ns)
latch_counted ns n = (omega (arith, latch_count-push ns (Latch n)), omega (arith, input_count-push ns (Latch n)))

pub input_counted : (ns : List Node) (n : ℕ) → (latch_count (ns ++ Input n ∷ []) ≡ latch_count ns) × (input_count (ns ++ Input n ∷ []) ≡ input_count ns + 1)
input_counted ns n = (omega (arith, latch_count-push ns (Input n)), omega (arith, input_count-push ns (Input n)))
