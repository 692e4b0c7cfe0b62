-- What the verdicts say.
use Rattle.std.specs.Prelude.{◌≡◌, ℕ, ◌+◌, ◌-◌, ◌*◌, ◌≤◌, List, length, map}
use Rattle.lemma_checker.specs.declared.literal.Literal.{Literal}
use Rattle.lemma_checker.specs.declared.chain.Chain.{Chain}
use Rattle.lemma_checker.specs.declared.lemmas.Lemmas.{Lemmas}
use Rattle.lemma_checker.specs.Chains.{ReachesEmpty}
use Rattle.lemma_checker.specs.Checker.{link}
use Rattle.clause_solver.specs.Solver.{IsSpent}
use Rattle.gate_graph.specs.declared.circuits.Circuit.{Circuit}
use Rattle.unroll_cnf.specs.declared.latch_literal.LatchLiteral.{LatchLiteral}
use Rattle.unroll_cnf.specs.declared.run.CircuitRun.{CircuitRun}
use Rattle.unroll_cnf.specs.Runs.{IsBaseRun, IsStepRun}
use Rattle.unroll_cnf.specs.Queries.{base_clauses, step_clauses}
use Rattle.unroll_cnf.specs.Meaning.{edges_of, HasSizes}
use Rattle.invariant_miner.specs.declared.set.InductiveSet.{InductiveSet}
use Rattle.k_induction.specs.declared.answer.Answer.{Answer}
use Rattle.k_induction.specs.declared.answer.Answer.TheVariants as answer
use Rattle.k_induction.specs.declared.found.Found.{Found}
use Rattle.k_induction.specs.declared.found.Found.TheVariants as found
use Rattle.k_induction.specs.declared.query.Query.{Query}
use Rattle.k_induction.specs.declared.query.Query.TheVariants as query
use Rattle.k_induction.specs.declared.verdict.Verdict.{Verdict}
use Rattle.k_induction.specs.declared.verdict.Verdict.TheVariants as verdict
use Rattle.k_induction.specs.Safety.{IsGoodFor, HasNoStep, IsBadRun}
use Rattle.k_induction.specs.Chains.{AreBases, RefuteStep}

-- the lemmas of a spent budget on a formula of these clauses and so many variables
pub record IsSpentOf (clauses : List (List Literal)) (vars budget : ℕ) (l : Lemmas) : Type 0 where
  pub same_clauses : l.formula.clauses ≡ clauses
  pub same_vars : l.formula.vars ≡ vars
  pub spent : IsSpent l l.formula budget

-- a run that is found has one value for each latch at the start, and one for each input at each edge
pub record IsBaseFound (c : Circuit) (k : ℕ) (r : CircuitRun) : Type 0 where
  pub sizes : HasSizes c r
  pub run : IsBaseRun c k r.start.items (edges_of r)

pub record IsStepFound (c : Circuit) (set : List (List LatchLiteral)) (k : ℕ) (r : CircuitRun) : Type 0 where
  pub sizes : HasSizes c r
  pub run : IsStepRun c set k r.start.items (edges_of r)

-- what the solver found out about a query of these clauses, whose runs are of this kind
abbrev pub AnswerIs : List (List Literal) → ℕ → ℕ → (CircuitRun → Type 0) → Answer → Type 0
AnswerIs clauses vars budget kind (answer.Refuted chains) = ReachesEmpty clauses (map link chains.items)
AnswerIs clauses vars budget kind (answer.Holds run) = kind run
AnswerIs clauses vars budget kind (answer.Spent l) = IsSpentOf clauses vars budget l

abbrev pub BaseIs : Circuit → ℕ → ℕ → Answer → Type 0
BaseIs c k budget = AnswerIs (base_clauses c k) (k * length c.graph) budget (IsBaseFound c k)

abbrev pub StepIs : Circuit → List (List LatchLiteral) → ℕ → ℕ → Answer → Type 0
StepIs c set k budget = AnswerIs (step_clauses c set k) ((k + 1) * length c.graph) budget (IsStepFound c set k)

-- chains that refute the base queries of 1 to k edges and the step query of k, k at most the bound
pub record IsProof (c : Circuit) (set : List (List LatchLiteral)) (bound k : ℕ) (bases : List (List Chain)) (step : List Chain) : Type 0 where
  pub some : 1 ≤ k
  pub within : k ≤ bound
  pub counted : length bases ≡ k
  pub bases_refute : AreBases c bases
  pub step_refutes : RefuteStep c set k step

-- a shortest bad run, of at most `bound` edges
pub record IsShortest (c : Circuit) (bound : ℕ) (r : CircuitRun) : Type 0 where
  pub sizes : HasSizes c r
  pub bad : IsBadRun c r.start.items (edges_of r)
  pub within : length (edges_of r) ≤ bound
  pub shortest : IsGoodFor c (length (edges_of r) - 1)

-- a loose run of `bound` good edges and a bad one, where no run of at most `bound` edges from the start is bad
pub record IsLoose (c : Circuit) (set : List (List LatchLiteral)) (bound : ℕ) (r : CircuitRun) : Type 0 where
  pub sizes : HasSizes c r
  pub loose : IsStepRun c set bound r.start.items (edges_of r)
  pub good : IsGoodFor c bound

-- the budget was spent on a base query up to the bound, where no shorter run is bad, or on the step query of the bound
pub record IsBaseSpent (c : Circuit) (bound budget k : ℕ) (l : Lemmas) : Type 0 where
  pub some : 1 ≤ k
  pub within : k ≤ bound
  pub good : IsGoodFor c (k - 1)
  pub spent : IsSpentOf (base_clauses c k) (k * length c.graph) budget l

pub record IsStepSpent (c : Circuit) (set : List (List LatchLiteral)) (bound budget k : ℕ) (l : Lemmas) : Type 0 where
  pub last : k ≡ bound
  pub good : IsGoodFor c bound
  pub spent : IsSpentOf (step_clauses c set bound) ((bound + 1) * length c.graph) budget l

abbrev pub BudgetIs : Query → Circuit → List (List LatchLiteral) → ℕ → ℕ → ℕ → Lemmas → Type 0
BudgetIs query.Base c set bound budget k l = IsBaseSpent c bound budget k l
BudgetIs query.Step c set bound budget k l = IsStepSpent c set bound budget k l

-- what the search over base and step queries found
abbrev pub FoundIs : Circuit → List (List LatchLiteral) → ℕ → ℕ → Found → Type 0
FoundIs c set bound budget (found.Proof k bases step) = IsProof c set bound k (map (λ b. b.items) bases.items) step.items
FoundIs c set bound budget (found.Bad r) = IsShortest c bound r
FoundIs c set bound budget (found.Loose r) = IsLoose c set bound r
FoundIs c set bound budget (found.BudgetSpent q k l) = BudgetIs q c set bound budget k l

-- circuit and set of a verdict are the given ones
abbrev pub HasParts : Circuit → InductiveSet → Verdict → Type 0
HasParts c set (verdict.Safe safe) = (safe.circuit ≡ c) × (safe.set ≡ set)
HasParts c set (verdict.Bad bad) = bad.circuit ≡ c
HasParts c set (verdict.Loose loose) = (loose.circuit ≡ c) × (loose.set ≡ set)
HasParts c set (verdict.BudgetSpent q k l) = Unit {0}

-- a safe circuit has a k up to the bound
abbrev pub SafeWithin : ℕ → Verdict → Type 0
SafeWithin bound (verdict.Safe safe) = safe.k ≤ bound
SafeWithin bound (verdict.Bad bad) = Unit {0}
SafeWithin bound (verdict.Loose loose) = Unit {0}
SafeWithin bound (verdict.BudgetSpent q k l) = Unit {0}

-- no run from a state that meets the set is good at the first k edges of a safe circuit and bad at the next
abbrev pub SafeByStep : Circuit → List (List LatchLiteral) → Verdict → Type 0
SafeByStep c set (verdict.Safe safe) = HasNoStep c set safe.k
SafeByStep c set (verdict.Bad bad) = Unit {0}
SafeByStep c set (verdict.Loose loose) = Unit {0}
SafeByStep c set (verdict.BudgetSpent q k l) = Unit {0}

abbrev pub BadIsShortest : Circuit → ℕ → Verdict → Type 0
BadIsShortest c bound (verdict.Safe safe) = Unit {0}
BadIsShortest c bound (verdict.Bad bad) = IsShortest c bound bad.run
BadIsShortest c bound (verdict.Loose loose) = Unit {0}
BadIsShortest c bound (verdict.BudgetSpent q k l) = Unit {0}

abbrev pub LooseIsGood : Circuit → List (List LatchLiteral) → ℕ → Verdict → Type 0
LooseIsGood c set bound (verdict.Safe safe) = Unit {0}
LooseIsGood c set bound (verdict.Bad bad) = Unit {0}
LooseIsGood c set bound (verdict.Loose loose) = IsLoose c set bound loose.run
LooseIsGood c set bound (verdict.BudgetSpent q k l) = Unit {0}

abbrev pub SpentIsSpent : Circuit → List (List LatchLiteral) → ℕ → ℕ → Verdict → Type 0
SpentIsSpent c set bound budget (verdict.Safe safe) = Unit {0}
SpentIsSpent c set bound budget (verdict.Bad bad) = Unit {0}
SpentIsSpent c set bound budget (verdict.Loose loose) = Unit {0}
SpentIsSpent c set bound budget (verdict.BudgetSpent q k l) = BudgetIs q c set bound budget k l

-- a bad run, or a budget spent on a base query
abbrev pub IsBadOrSpent : Verdict → Type 0
IsBadOrSpent (verdict.Safe safe) = ⊥
IsBadOrSpent (verdict.Bad bad) = Unit {0}
IsBadOrSpent (verdict.Loose loose) = ⊥
IsBadOrSpent (verdict.BudgetSpent q k l) = q ≡ query.Base

-- a safe circuit, or a spent budget
abbrev pub IsSafeOrSpent : Verdict → Type 0
IsSafeOrSpent (verdict.Safe safe) = Unit {0}
IsSafeOrSpent (verdict.Bad bad) = ⊥
IsSafeOrSpent (verdict.Loose loose) = ⊥
IsSafeOrSpent (verdict.BudgetSpent q k l) = Unit {0}
