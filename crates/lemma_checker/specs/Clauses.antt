-- Clauses of propositional logic: what an assignment makes true, and what follows.
use Rattle.std.specs.Prelude.{◌≡◌, ℕ, ◌+◌, ◌-◌, ◌*◌, ◌/◌, ◌%◌, ◌<◌, ◌≤◌, Bool, true, false, not, ◌&&◌, nat_le, nat_lt, eqb, cond, List, Some, slice_get, slice_index_or, take}
use Rattle.std.specs.List.{list_any}
use Rattle.lemma_checker.specs.declared.literal.Literal.{Literal}

-- the number of the literal that denies this one: 2v and 2v + 1 stand for the variable v and its negation
unfoldable pub opposite : ℕ → ℕ
opposite l = l + 1 - 2 * (l % 2)

-- whether the clause has the literal of this number
abbrev pub has : ℕ → List Literal → Bool
has l c = list_any (λ x. eqb x.0 l) c

-- a clause is the set of its literals' numbers
abbrev pub set_of : List Literal → ℕ → Bool
set_of c = λ l. has l c

-- no literal stands twice
pub record AreDistinct (c : List Literal) : Type 0 where
  pub once : (i : ℕ) (x : Literal) → slice_get c i ≡ Some x → has x.0 (take i c) ≡ false

-- the literals are of the variables 1 to `vars`
pub record IsOver (vars : ℕ) (c : List Literal) : Type 0 where
  pub low : (l : ℕ) → has l c ≡ true → 2 ≤ l
  pub high : (l : ℕ) → has l c ≡ true → l < 2 * vars + 2

-- the test for one literal
abbrev pub in_range : ℕ → Literal → Bool
in_range vars x = nat_le 2 x.0 && nat_lt x.0 (2 * vars + 2)

-- each clause is of the variables 1 to `vars`
pub record AreOver (vars : ℕ) (clauses : List (List Literal)) : Type 0 where
  pub each : (i : ℕ) (c : List Literal) → slice_get clauses i ≡ Some c → IsOver vars c

-- the literal's value where each variable i has the value v i
unfoldable pub literal_true : (ℕ → Bool) → ℕ → Bool
literal_true v l = cond (eqb (l % 2) 1) (not (v (l / 2))) (v (l / 2))

-- a clause is true where one of its literals is
abbrev pub clause_true : (ℕ → Bool) → List Literal → Bool
clause_true v c = list_any (λ x. literal_true v x.0) c

-- the assignment satisfies the clauses: each is true
pub record Solves (v : ℕ → Bool) (clauses : List (List Literal)) : Type 0 where
  pub each : (i : ℕ) (c : List Literal) → slice_get clauses i ≡ Some c → clause_true v c ≡ true

-- the clause follows: each assignment that satisfies the clauses satisfies it
abbrev pub Follows : List (List Literal) → List Literal → Type 0
Follows clauses c = (v : ℕ → Bool) → Solves v clauses → clause_true v c ≡ true

-- no assignment satisfies the clauses
abbrev pub HasNoSolution : List (List Literal) → Type 0
HasNoSolution clauses = (v : ℕ → Bool) → Solves v clauses → ⊥

-- the entry of a table of booleans, false past its end
abbrev pub at : List Bool → ℕ → Bool
at table i = slice_index_or table i false

-- the assignment that a list of values gives: its first entry is variable 1
abbrev pub assigned : List Bool → ℕ → Bool
assigned values v = at values (v - 1)
