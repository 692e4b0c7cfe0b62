-- What thinning a list of clauses gives.
use Rattle.std.specs.Prelude.{◌≡◌, ℕ, ◌+◌, ◌≤◌, Bool, List, length, map}
use Rattle.lemma_checker.specs.declared.lemmas.Lemmas.{Lemmas}
use Rattle.lemma_checker.specs.Chains.{ReachesEmpty}
use Rattle.lemma_checker.specs.Checker.{link}
use Rattle.clause_solver.specs.Solver.{IsSpent}
use Rattle.gate_graph.specs.declared.circuits.Circuit.{Circuit}
use Rattle.gate_graph.specs.Runs.{next_state}
use Rattle.unroll_cnf.specs.declared.latch_literal.LatchLiteral.{LatchLiteral}
use Rattle.unroll_cnf.specs.Latches.{MeetsAll, AreOfLatches, weight}
use Rattle.unroll_cnf.specs.declared.limits.TheConstants.{MOST_WEIGHT}
use Rattle.unroll_cnf.specs.Queries.{keep_clauses}
use Rattle.invariant_miner.specs.declared.set.InductiveSet.{InductiveSet}
use Rattle.invariant_miner.specs.declared.asked.Asked.{Asked}
use Rattle.invariant_miner.specs.declared.asked.Asked.TheVariants as asked
use Rattle.invariant_miner.specs.declared.thinned.Thinned.{Thinned}
use Rattle.invariant_miner.specs.declared.thinned.Thinned.TheVariants as thinned
use Rattle.invariant_miner.specs.Kept.{IsClosed, IsAbove}

-- the chains of the set refute the keep query of its clauses
abbrev pub IsInductive : Circuit → InductiveSet → Type 0
IsInductive c set = ReachesEmpty (keep_clauses c set.clauses.items) (map link set.chains.items)

-- the lemmas are those of a spent budget on the keep query of the set
pub record IsSpentOn (c : Circuit) (set : List (List LatchLiteral)) (budget : ℕ) (l : Lemmas) : Type 0 where
  pub clauses : l.formula.clauses ≡ keep_clauses c set
  pub vars : l.formula.vars ≡ length c.graph + length set
  pub spent : IsSpent l l.formula budget

-- the state is after an edge from a state that meets the set, and does not meet it
pub record LeavesSet (c : Circuit) (set : List (List LatchLiteral)) (next : List Bool) : Type 0 where
  pub start : List Bool
  pub input : List Bool
  pub meets : MeetsAll start set
  pub is : next ≡ next_state c start input
  pub fails : MeetsAll next set → ⊥

-- whether a set is kept
abbrev pub AskedIs : Circuit → List (List LatchLiteral) → ℕ → Asked → Type 0
AskedIs c set budget (asked.Closed chains) = IsClosed c set × ReachesEmpty (keep_clauses c set) (map link chains.items)
AskedIs c set budget (asked.Leaves next) = LeavesSet c set next.items
AskedIs c set budget (asked.Spent l) = IsSpentOn c set budget l

-- the budget was spent on the keep query of a part of the list that has each closed set in it
pub record IsMiningSpent (c : Circuit) (list : List (List LatchLiteral)) (budget : ℕ) (l : Lemmas) : Type 0 where
  pub set : List (List LatchLiteral)
  pub above : IsAbove c list set
  pub spent : IsSpentOn c set budget l

-- the set may be asked about: its clauses are of the circuit's latches, and not too many
pub record IsAskable (c : Circuit) (set : List (List LatchLiteral)) : Type 0 where
  pub of : AreOfLatches (length c.latches.items) set
  pub small : weight set ≤ MOST_WEIGHT

-- what is said of the set that is kept, and of the lemmas of a spent budget
abbrev pub IfKept : Thinned → (InductiveSet → Type 0) → Type 0
IfKept (thinned.Kept set) fact = fact set
IfKept (thinned.MiningSpent l) fact = Unit {0}

abbrev pub IfMiningSpent : Thinned → (Lemmas → Type 0) → Type 0
IfMiningSpent (thinned.Kept set) fact = Unit {0}
IfMiningSpent (thinned.MiningSpent l) fact = fact l
