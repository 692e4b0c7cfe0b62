-- Unit propagation as the least closed set, its conflicts, and clauses that it does not give.
use Rattle.std.specs.Prelude.{◌≡◌, ◌≢◌, ℕ, Bool, true, false, not, ◌&&◌, eqb, List, ◌++◌, take, Some, slice_get}
use Rattle.lemma_checker.specs.declared.literal.Literal.{Literal}
use Rattle.lemma_checker.specs.Clauses.{opposite, has}

-- each literal of the clause but l has its opposite in the set
pub record AreOthersFalse (c : List Literal) (l : ℕ) (s : ℕ → Bool) : Type 0 where
  pub member : has l c ≡ true
  pub others : (m : ℕ) → has m c ≡ true → m ≢ l → s (opposite m) ≡ true

-- each literal of the clause has its opposite in the set
pub record IsFalse (c : List Literal) (s : ℕ → Bool) : Type 0 where
  pub each : (m : ℕ) → has m c ≡ true → s (opposite m) ≡ true

-- no literal is in the set together with its opposite
pub record AreApart (s : ℕ → Bool) : Type 0 where
  pub apart : (l : ℕ) → s l ≡ true → s (opposite l) ≡ false

-- the set has the literals that it starts from, and with all but one of a clause's opposites also that one
pub record IsClosed (clauses : List (List Literal)) (from : ℕ → Bool) (s : ℕ → Bool) : Type 0 where
  pub start : (l : ℕ) → from l ≡ true → s l ≡ true
  pub unit : (i : ℕ) (c : List Literal) (l : ℕ) → slice_get clauses i ≡ Some c → AreOthersFalse c l s → s l ≡ true

-- the set lies in each closed set
pub record IsInEachClosed (clauses : List (List Literal)) (from : ℕ → Bool) (s : ℕ → Bool) : Type 0 where
  pub inside : (t : ℕ → Bool) → IsClosed clauses from t → (l : ℕ) → s l ≡ true → t l ≡ true

-- the set is what unit propagation gives: the least closed set
pub record IsPropagation (clauses : List (List Literal)) (from : ℕ → Bool) (s : ℕ → Bool) : Type 0 where
  pub closed : IsClosed clauses from s
  pub least : IsInEachClosed clauses from s

-- the set has no conflict: no literal with its opposite, and no clause all of whose opposites it has
pub record IsConflictFree (clauses : List (List Literal)) (s : ℕ → Bool) : Type 0 where
  pub apart : AreApart s
  pub clause : (i : ℕ) (c : List Literal) → slice_get clauses i ≡ Some c → IsFalse c s → ⊥

-- unit propagation from these literals conflicts with no clause: some closed set, and so the least one, has no conflict
pub record DoesNotConflict (clauses : List (List Literal)) (from : ℕ → Bool) : Type 0 where
  pub set : ℕ → Bool
  pub closed : IsClosed clauses from set
  pub free : IsConflictFree clauses set

-- the opposites of the clause's literals other than l
abbrev pub opposites_but : List Literal → ℕ → ℕ → Bool
opposites_but c l m = has (opposite m) c && not (eqb (opposite m) l)

-- the clause is new to the clauses: it has a literal such that unit propagation from the opposites of its other
-- literals neither conflicts nor gives that literal (some closed set has no conflict and lacks it, and so the least)
pub record IsNew (clauses : List (List Literal)) (c : List Literal) : Type 0 where
  pub literal : ℕ
  pub member : has literal c ≡ true
  pub set : ℕ → Bool
  pub closed : IsClosed clauses (opposites_but c literal) set
  pub free : IsConflictFree clauses set
  pub absent : set literal ≡ false

-- each added clause is new to the clauses before it
pub record AreNew (clauses added : List (List Literal)) : Type 0 where
  pub each : (i : ℕ) (c : List Literal) → slice_get added i ≡ Some c → IsNew (clauses ++ take i added) c
