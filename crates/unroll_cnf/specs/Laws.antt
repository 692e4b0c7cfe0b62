-- The laws of the queries.
use Rattle.std.specs.Prelude.{ℕ, ◌≤◌, ◌↔◌, Bool, List, [], ◌∷◌, length}
use Rattle.lemma_checker.specs.Clauses.{Solves}
use Rattle.gate_graph.specs.declared.circuits.Circuit.{Circuit}
use Rattle.unroll_cnf.specs.declared.latch_literal.LatchLiteral.{LatchLiteral}
use Rattle.unroll_cnf.specs.Latches.{AreOfLatches}
use Rattle.unroll_cnf.specs.Runs.{IsBaseRun, IsStepRun, IsKeepRun}
use Rattle.unroll_cnf.specs.Queries.{base_cones, step_cones, base_clauses, step_clauses, keep_clauses}
use Rattle.unroll_cnf.specs.Meaning.{StandsForA, StandsForKeep, IsStoodFor}

-- exactly the assignments that stand for such a run satisfy the query
abbrev pub BaseMeans : Type 0
BaseMeans = (c : Circuit) (v : ℕ → Bool) (k : ℕ) → 1 ≤ k → Solves v (base_clauses c k) ↔ StandsForA c (base_cones c k) v (IsBaseRun c k)

abbrev pub StepMeans : Type 0
StepMeans = (c : Circuit) (v : ℕ → Bool) (set : List (List LatchLiteral)) (k : ℕ) → AreOfLatches (length c.latches.items) set → Solves v (step_clauses c set k) ↔ StandsForA c (step_cones c k) v (IsStepRun c set k)

abbrev pub KeepMeans : Type 0
KeepMeans = (c : Circuit) (v : ℕ → Bool) (set : List (List LatchLiteral)) → AreOfLatches (length c.latches.items) set → Solves v (keep_clauses c set) ↔ StandsForKeep c v set

-- each such run is stood for by an assignment that satisfies the query
abbrev pub BaseRunsAreStoodFor : Type 0
BaseRunsAreStoodFor = (c : Circuit) (k : ℕ) (s : List Bool) (xs : List (List Bool)) → 1 ≤ k → IsBaseRun c k s xs → IsStoodFor c (base_clauses c k) s xs

abbrev pub StepRunsAreStoodFor : Type 0
StepRunsAreStoodFor = (c : Circuit) (set : List (List LatchLiteral)) (k : ℕ) (s : List Bool) (xs : List (List Bool)) → AreOfLatches (length c.latches.items) set → IsStepRun c set k s xs → IsStoodFor c (step_clauses c set k) s xs

abbrev pub KeepRunsAreStoodFor : Type 0
KeepRunsAreStoodFor = (c : Circuit) (set : List (List LatchLiteral)) (s x : List Bool) → AreOfLatches (length c.latches.items) set → IsKeepRun c set s x → IsStoodFor c (keep_clauses c set) s (x ∷ [])
