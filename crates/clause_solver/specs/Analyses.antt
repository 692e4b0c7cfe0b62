-- What the way back along the trail gives.
use Rattle.std.specs.Prelude.{◌≡◌, ℕ, ◌+◌, Bool, true, false, List, take, Option, Some, None, slice_get}
use Rattle.lemma_checker.specs.declared.literal.Literal.{Literal}
use Rattle.lemma_checker.specs.Clauses.{opposite, has, at}
use Rattle.lemma_checker.specs.Chains.{chain_result}
use Rattle.clause_solver.specs.declared.analysis.Stop.{Stop}
use Rattle.clause_solver.specs.declared.analysis.Analysis.{Analysis}
use Rattle.clause_solver.specs.declared.walk.Found.{Found}
use Rattle.clause_solver.specs.Walks.{IsWalk, IsStop, IsFound}

-- the opposite of the literal at the place is in the set
pub record IsMarkedAt (f : ℕ → Bool) (t : List Literal) (i : ℕ) : Type 0 where
  pub each : (x : Literal) → slice_get t i ≡ Some x → f (opposite x.0) ≡ true

-- the set is what the chain gives; it has the opposite of the literal at place i, and its others are denied before `low`
pub record IsShort (n : ℕ) (clauses : List (List Literal)) (t : List Literal) (i low : ℕ) (seen : List Bool) (touched : List Literal) (ids pivots : List ℕ) : Type 0 where
  pub walk : IsWalk n clauses t (i + 1) seen touched ids pivots
  pub marked : IsMarkedAt (at seen) t i
  pub before : (l : ℕ) → at seen l ≡ true → has (opposite l) (take i t) ≡ true → has (opposite l) (take low t) ≡ true

-- the walk stops at the place, whose literal denies one of the set, to go back to level k
pub record StepStops (n : ℕ) (clauses : List (List Literal)) (t : List Literal) (starts : List ℕ) (i k low : ℕ) (seen : List Bool) (touched : List Literal) (ids pivots : List ℕ) : Type 0 where
  pub walk : IsWalk n clauses t (i + 1) seen touched ids pivots
  pub marked : IsMarkedAt (at seen) t i
  pub found : IsFound (at seen) t starts i k low

abbrev pub StepIs : Option Found → ℕ → List (List Literal) → List Literal → List ℕ → ℕ → List Bool → List Literal → List ℕ → List ℕ → Type 0
StepIs None n clauses t starts i seen touched ids pivots = IsWalk n clauses t i seen touched ids pivots
StepIs (Some f) n clauses t starts i seen touched ids pivots = StepStops n clauses t starts i f.level f.low seen touched ids pivots

-- no literal is in the set
pub record IsNone (f : ℕ → Bool) : Type 0 where
  pub each : (l : ℕ) → f l ≡ false

abbrev pub StopIs : Option Stop → List Literal → List ℕ → (ℕ → Bool) → Type 0
StopIs None t starts f = IsNone f
StopIs (Some s) t starts f = IsStop t starts f s.literal.0 s.second.0 s.level

-- the chain gives a set, which is empty or lets the solver go back
pub record AnalysisIs (clauses : List (List Literal)) (t : List Literal) (starts : List ℕ) (a : Analysis) : Type 0 where
  pub set : ℕ → Bool
  pub chain : chain_result clauses a.chain.ids.items a.chain.pivots.items ≡ Some set
  pub stop : StopIs a.stop t starts set
