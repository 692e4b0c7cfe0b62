-- The solver's state between two turns, and its three answers.
use Rattle.std.specs.Prelude.{◌≡◌, ℕ, ◌+◌, ◌*◌, ◌^◌, ◌<◌, ◌≤◌, ◌⊎◌, Bool, true, false, List, ◌++◌, length, Option, Some, None, slice_get}
use Rattle.lemma_checker.specs.declared.literal.Literal.{Literal}
use Rattle.lemma_checker.specs.declared.formula.Formula.{Formula}
use Rattle.lemma_checker.specs.declared.lemmas.Lemmas.{Lemmas}
use Rattle.lemma_checker.specs.Clauses.{opposite, has, at}
use Rattle.lemma_checker.specs.Chains.{has_empty}
use Rattle.lemma_checker.specs.Propagation.{DoesNotConflict, AreNew}
use Rattle.watch_lists.specs.declared.trail.Trail.{Trail}
use Rattle.watch_lists.specs.declared.watches.Watches.{Watches}
use Rattle.watch_lists.specs.Watches.{Holds, Fits}
use Rattle.watch_lists.specs.Trails.{IsSettled}
use Rattle.watch_lists.specs.Scans.{IsTrailOf, IsConflictNumber}
use Rattle.clause_solver.specs.declared.turn.Turn.{Turn}
use Rattle.clause_solver.specs.declared.turn.Turn.TheVariants as turn
use Rattle.clause_solver.specs.declared.answer.Solved.{Solved}
use Rattle.clause_solver.specs.declared.answer.Solved.TheVariants as solved

-- all clauses of the lemmas: the formula's, then the added ones
abbrev pub all_of : Lemmas → List (List Literal)
all_of l = l.formula.clauses ++ l.added

-- each variable from 1 to `vars` has a value
pub record AreAssigned (vars : ℕ) (s : ℕ → Bool) : Type 0 where
  pub each : (v : ℕ) → 1 ≤ v → v ≤ vars → (s (2 * v) ≡ true) ⊎ (s (2 * v + 1) ≡ true)

-- a literal of the variables that is neither true nor false
pub record IsFree (vars : ℕ) (s : ℕ → Bool) (l : ℕ) : Type 0 where
  pub low : 2 ≤ l
  pub high : l < 2 * vars + 2
  pub not_true : s l ≡ false
  pub not_false : s (opposite l) ≡ false

-- every variable has a value and nothing is left to do
pub record IsModel (clauses : List (List Literal)) (vars : ℕ) (s : ℕ → Bool) : Type 0 where
  pub settled : IsSettled clauses s
  pub assigned : AreAssigned vars s

-- where the descent ends: with values for all variables, or with a false clause
abbrev pub EndIs : Option ℕ → List (List Literal) → ℕ → (ℕ → Bool) → Type 0
EndIs None clauses vars s = IsModel clauses vars s
EndIs (Some k) clauses vars s = IsConflictNumber clauses k s

-- between two turns
pub record IsState (l : Lemmas) (t : Trail) : Type 0 where
  pub of : IsTrailOf (all_of l) t
  pub size : length t.values.items ≡ 2 * l.formula.vars + 2
  pub news : AreNew l.formula.clauses l.added

-- the same with watches that hold the clauses and that the trail fits
pub record IsReady (l : Lemmas) (w : Watches) (t : Trail) : Type 0 where
  pub state : IsState l t
  pub holds : Holds w l.formula.vars (all_of l)
  pub fits : Fits w t

-- two literals of the clause; if they are the same, it has no other
pub record ArePairOrOne (c : List Literal) (first second : ℕ) : Type 0 where
  pub first_in : has first c ≡ true
  pub second_in : has second c ≡ true
  pub alone : second ≡ first → (x : ℕ) → has x c ≡ true → x ≡ first

-- after a lemma was learned
pub record HasLearned (old new : Lemmas) (w : Watches) (before after : Trail) : Type 0 where
  pub ready : IsReady new w after
  pub more : length new.added ≡ length old.added + 1
  pub started : 0 < length before.starts.items

-- the answer is about the formula
pub record IsAbout (vars : ℕ) (clauses : List (List Literal)) (f : Formula) : Type 0 where
  pub same_vars : vars ≡ f.vars
  pub same_clauses : clauses ≡ f.clauses

-- a clause with a literal, and with no variable twice
pub record IsProper (c : List Literal) : Type 0 where
  pub some : 0 < length c
  pub single : (v : ℕ) → has (2 * v) c ≡ true → has (2 * v + 1) c ≡ true → ⊥

-- the lemmas of a spent budget: enough, each new to the clauses before it, with no conflict of unit propagation left
pub record IsSpent (l : Lemmas) (f : Formula) (budget : ℕ) : Type 0 where
  pub about : IsAbout l.formula.vars l.formula.clauses f
  pub full : budget ≤ length l.added
  pub chains : length l.chains.items ≡ length l.added
  pub news : AreNew l.formula.clauses l.added
  pub proper : (i : ℕ) (c : List Literal) → slice_get l.added i ≡ Some c → IsProper c
  pub quiet : DoesNotConflict (all_of l) (λ _. false)
  pub small : budget < 3 ^ l.formula.vars

-- what a turn of learning leaves
abbrev pub TurnIs : Turn → Lemmas → Lemmas → Watches → Trail → Trail → Type 0
TurnIs turn.Assigned old new w before after = ⊥
TurnIs turn.Learned old new w before after = HasLearned old new w before after
TurnIs turn.Refuted old new w before after = has_empty (all_of new) ≡ true

-- all variables have values under which no clause is false
pub record IsSolved (l : Lemmas) (t : Trail) : Type 0 where
  pub state : IsState l t
  pub model : IsModel (all_of l) l.formula.vars (at t.values.items)

-- one lemma more
pub record HasGrown (old new : Lemmas) (w : Watches) (after : Trail) : Type 0 where
  pub ready : IsReady new w after
  pub more : length new.added ≡ length old.added + 1

-- what a whole turn leaves
abbrev pub RoundIs : Turn → Lemmas → Lemmas → Watches → Trail → Type 0
RoundIs turn.Assigned old new w after = IsSolved new after
RoundIs turn.Learned old new w after = HasGrown old new w after
RoundIs turn.Refuted old new w after = has_empty (all_of new) ≡ true

abbrev pub SolvedIs : Solved → Formula → ℕ → Type 0
SolvedIs (solved.Sat s) f budget = IsAbout s.formula.vars s.formula.clauses f
SolvedIs (solved.Unsat r) f budget = IsAbout r.formula.vars r.formula.clauses f
SolvedIs (solved.Spent l) f budget = IsSpent l f budget

-- whichever answer it is, it is about the formula
abbrev pub IsAboutFormula : Solved → Formula → Type 0
IsAboutFormula (solved.Sat s) f = IsAbout s.formula.vars s.formula.clauses f
IsAboutFormula (solved.Unsat r) f = IsAbout r.formula.vars r.formula.clauses f
IsAboutFormula (solved.Spent l) f = IsAbout l.formula.vars l.formula.clauses f

-- what holds of the lemmas where the budget is spent
abbrev pub IfSpent : Solved → (Lemmas → Type 0) → Type 0
IfSpent (solved.Sat s) P = Unit {0}
IfSpent (solved.Unsat r) P = Unit {0}
IfSpent (solved.Spent l) P = P l

-- as many lemmas as the budget, each with its chain, with a literal and with no variable twice
pub record IsFull (l : Lemmas) (budget : ℕ) : Type 0 where
  pub full : budget ≤ length l.added
  pub chains : length l.chains.items ≡ length l.added
  pub proper : (i : ℕ) (c : List Literal) → slice_get l.added i ≡ Some c → IsProper c
