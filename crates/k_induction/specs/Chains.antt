-- Chains that refute the queries of a circuit.
use Rattle.std.specs.Prelude.{◌≡◌, ℕ, ◌+◌, List, Some, slice_get, map}
use Rattle.lemma_checker.specs.declared.chain.Chain.{Chain}
use Rattle.lemma_checker.specs.Chains.{ReachesEmpty}
use Rattle.lemma_checker.specs.Checker.{link}
use Rattle.gate_graph.specs.declared.circuits.Circuit.{Circuit}
use Rattle.unroll_cnf.specs.declared.latch_literal.LatchLiteral.{LatchLiteral}
use Rattle.unroll_cnf.specs.Queries.{base_clauses, step_clauses, keep_clauses}

-- entry j reaches the empty clause in the base query of j + 1 edges
pub record AreBases (c : Circuit) (bases : List (List Chain)) : Type 0 where
  pub each : (j : ℕ) (chains : List Chain) → slice_get bases j ≡ Some chains → ReachesEmpty (base_clauses c (j + 1)) (map link chains)

-- the chains reach the empty clause in the step query of k edges, and in the keep query
abbrev pub RefuteStep : Circuit → List (List LatchLiteral) → ℕ → List Chain → Type 0
RefuteStep c set k chains = ReachesEmpty (step_clauses c set k) (map link chains)

abbrev pub RefuteKeep : Circuit → List (List LatchLiteral) → List Chain → Type 0
RefuteKeep c set chains = ReachesEmpty (keep_clauses c set) (map link chains)
