-- Runs of a circuit. A run of m edges is its first state and the inputs at each edge; a state is the list of
-- the latches' values, in the order of their numbers.
use Rattle.std.specs.Prelude.{◌≡◌, ℕ, Bool, false, List, [], ◌∷◌, slice_get, Some, map}
use Rattle.gate_graph.specs.declared.parts.Latch.{Latch}
use Rattle.gate_graph.specs.declared.circuits.Circuit.{Circuit}
use Rattle.gate_graph.specs.Gates.{wire_value}
use Rattle.gate_graph.specs.Values.{at, value}
use Rattle.gate_graph.specs.Latches.{StartsAs}

-- the state after an edge in state s with inputs x
unfoldable pub next_state : Circuit → List Bool → List Bool → List Bool
next_state c s x = map (λ l. wire_value (value s x c.graph) l.next) c.latches.items

-- whether the edge in state s with inputs x is bad
unfoldable pub is_bad : Circuit → List Bool → List Bool → Bool
is_bad c s x = wire_value (value s x c.graph) c.bad

-- the state after the edges with these inputs
abbrev pub state_after : Circuit → List Bool → List (List Bool) → List Bool
state_after c s [] = s
state_after c s (x ∷ xs) = state_after c (next_state c s x) xs

-- none of these edges is bad
abbrev pub AreGood : Circuit → List Bool → List (List Bool) → Type 0
AreGood c s [] = Unit {0}
AreGood c s (x ∷ xs) = (is_bad c s x ≡ false) × AreGood c (next_state c s x) xs

-- a first state from the start: each latch has a value that it may start with
pub record IsStart (c : Circuit) (s : List Bool) : Type 0 where
  pub each : (n : ℕ) (l : Latch) → slice_get c.latches.items n ≡ Some l → StartsAs l.start (at s n)

-- no run from the start has a bad edge
pub record IsSafe (c : Circuit) : Type 0 where
  pub good : (s : List Bool) (xs : List (List Bool)) (x : List Bool) → IsStart c s → is_bad c (state_after c s xs) x ≡ false
