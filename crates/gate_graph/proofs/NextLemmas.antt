-- The next state by the values of the nodes.
use Rattle.std.proofs.Common.{◌≡◌, ℕ, suc, ◌<◌, Bool, List, [], ◌∷◌, length, map, refl, arith}
use Rattle.std.specs.List.{All}
use Rattle.gate_graph.specs.declared.nodes.Node.{Node}
use Rattle.gate_graph.specs.declared.parts.Latch.{Latch}
use Rattle.gate_graph.specs.declared.circuits.Circuit.{Circuit}
use Rattle.gate_graph.specs.Gates.{wire_value, IsOf, IsGraph}
use Rattle.gate_graph.specs.Values.{value, IsValuation}
use Rattle.gate_graph.specs.Runs.{next_state}
use Rattle.gate_graph.proofs.ValueLemmas.{wire_value_below, agree, value_is}

pub circuit_graph : (c : Circuit) → IsGraph c.graph
circuit_graph c = record { low = c.low; counted = c.counted }

same_nexts : (latches : List Latch) (nodes : List Node) (v u : ℕ → Bool) → All (λ l. IsOf l.next nodes) latches → ((j : ℕ) → j < length nodes → v j ≡ u j) → map (λ l. wire_value v l.next) latches ≡ map (λ l. wire_value u l.next) latches
same_nexts [] nodes v u all same = refl
same_nexts (l ∷ ls) nodes v u all same = rw (wire_value_below v u l.next (length nodes) (all 0 l (omega arith)) same, same_nexts ls nodes v u (λ k d lt. all (suc k) d (omega arith)) same) refl

pub next_by_values : (c : Circuit) (s x : List Bool) (v : ℕ → Bool) → IsValuation s x v c.graph → map (λ l. wire_value v l.next) c.latches.items ≡ next_state c s x
unfolding next_state
next_by_values c s x v p = same_nexts c.latches.items c.graph v (value s x c.graph) c.nexts (agree s x v (value s x c.graph) c.graph (circuit_graph c) p (value_is s x c.graph (circuit_graph c)))
