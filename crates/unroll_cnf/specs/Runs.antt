-- Runs of a circuit by their edges: the runs that the queries ask for.
use Rattle.std.specs.Prelude.{◌≡◌, ℕ, ◌+◌, ◌<◌, Bool, true, false, List, [], ◌∷◌, length, take, slice_index_or}
use Rattle.gate_graph.specs.declared.circuits.Circuit.{Circuit}
use Rattle.gate_graph.specs.Runs.{next_state, is_bad, state_after, IsStart}
use Rattle.unroll_cnf.specs.declared.latch_literal.LatchLiteral.{LatchLiteral}
use Rattle.unroll_cnf.specs.Latches.{MeetsAll}

-- the state before edge t of a run
unfoldable pub state_at : Circuit → List Bool → List (List Bool) → ℕ → List Bool
state_at c s xs t = state_after c s (take t xs)

-- whether edge t of a run is bad
unfoldable pub bad_at : Circuit → List Bool → List (List Bool) → ℕ → Bool
bad_at c s xs t = is_bad c (state_at c s xs t) (slice_index_or xs t [])

-- a run of k edges from the start, bad at its last edge
pub record IsBaseRun (c : Circuit) (k : ℕ) (s : List Bool) (xs : List (List Bool)) : Type 0 where
  pub starts : IsStart c s
  pub edges : length xs ≡ k
  pub bad : (t : ℕ) → t + 1 ≡ k → bad_at c s xs t ≡ true

-- a run of k + 1 edges from a state that meets the set, good at the first k and bad at the last
pub record IsStepRun (c : Circuit) (set : List (List LatchLiteral)) (k : ℕ) (s : List Bool) (xs : List (List Bool)) : Type 0 where
  pub meets : MeetsAll s set
  pub edges : length xs ≡ k + 1
  pub good : (t : ℕ) → t < k → bad_at c s xs t ≡ false
  pub bad : bad_at c s xs k ≡ true

-- an edge from a state that meets the set to one that does not
pub record IsKeepRun (c : Circuit) (set : List (List LatchLiteral)) (s x : List Bool) : Type 0 where
  pub meets : MeetsAll s set
  pub fails : MeetsAll (next_state c s x) set → ⊥

-- a run of one such edge
pub record IsKeepEdge (c : Circuit) (set : List (List LatchLiteral)) (s : List Bool) (xs : List (List Bool)) : Type 0 where
  pub input : List Bool
  pub one : xs ≡ input ∷ []
  pub is : IsKeepRun c set s input
