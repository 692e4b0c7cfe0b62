-- Sets of latch clauses that every edge of a circuit keeps, and the greatest of them in a list.
use Rattle.std.specs.Prelude.{◌≡◌, ℕ, Bool, List, Some, slice_get}
use Rattle.std.specs.List.{filter}
use Rattle.gate_graph.specs.declared.circuits.Circuit.{Circuit}
use Rattle.gate_graph.specs.Runs.{next_state}
use Rattle.unroll_cnf.specs.declared.latch_literal.LatchLiteral.{LatchLiteral}
use Rattle.unroll_cnf.specs.Latches.{MeetsAll}

-- from each state that meets the set, under every input, the next state meets it
pub record IsClosed (c : Circuit) (set : List (List LatchLiteral)) : Type 0 where
  pub kept : (s x : List Bool) → MeetsAll s set → MeetsAll (next_state c s x) set

-- each clause of the one is in the other
pub record IsWithin (sub set : List (List LatchLiteral)) : Type 0 where
  pub each : (i : ℕ) (d : List LatchLiteral) → slice_get sub i ≡ Some d → (j : ℕ) × (slice_get set j ≡ Some d)

-- the clauses of the list that pass a test, in its order, among them each closed set of clauses of the list
pub record IsAbove (c : Circuit) (list current : List (List LatchLiteral)) : Type 0 where
  pub picks : List LatchLiteral → Bool
  pub is : current ≡ filter picks list
  pub above : (sub : List (List LatchLiteral)) → IsClosed c sub → IsWithin sub list → IsWithin sub current

-- the greatest closed set of clauses of the list, in its order
pub record IsGreatestClosed (c : Circuit) (list kept : List (List LatchLiteral)) : Type 0 where
  pub picks : List LatchLiteral → Bool
  pub is : kept ≡ filter picks list
  pub closed : IsClosed c kept
  pub greatest : (sub : List (List LatchLiteral)) → IsClosed c sub → IsWithin sub list → IsWithin sub kept
