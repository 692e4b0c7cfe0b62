-- Runs from the start that are good up to some edge, and runs that show the opposite.
use Rattle.std.specs.Prelude.{◌≡◌, ℕ, ◌+◌, ◌-◌, ◌<◌, Bool, false, List, length}
use Rattle.gate_graph.specs.declared.circuits.Circuit.{Circuit}
use Rattle.gate_graph.specs.Runs.{IsStart}
use Rattle.unroll_cnf.specs.declared.latch_literal.LatchLiteral.{LatchLiteral}
use Rattle.unroll_cnf.specs.Runs.{bad_at, IsBaseRun, IsStepRun}

-- no run from the start has a bad edge among its first k
pub record IsGoodFor (c : Circuit) (k : ℕ) : Type 0 where
  pub good : (s : List Bool) (xs : List (List Bool)) (t : ℕ) → IsStart c s → t < length xs → t < k → bad_at c s xs t ≡ false

-- no run from a state that meets the set is good at its first k edges and bad at the next
pub record HasNoStep (c : Circuit) (set : List (List LatchLiteral)) (k : ℕ) : Type 0 where
  pub none : (s : List Bool) (xs : List (List Bool)) → IsStepRun c set k s xs → ⊥

-- a run from the start, bad at its last edge and at none before
pub record IsBadRun (c : Circuit) (s : List Bool) (xs : List (List Bool)) : Type 0 where
  pub base : IsBaseRun c (length xs) s xs
  pub some : 0 < length xs
  pub good : (t : ℕ) → t + 1 < length xs → bad_at c s xs t ≡ false

-- a run from a state that meets the set, bad at its last edge and at none before
abbrev pub IsLooseRun : Circuit → List (List LatchLiteral) → List Bool → List (List Bool) → Type 0
IsLooseRun c set s xs = IsStepRun c set (length xs - 1) s xs
