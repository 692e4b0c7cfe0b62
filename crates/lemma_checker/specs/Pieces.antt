-- Clauses that stand one after another in one list of literals.
use Rattle.std.specs.Prelude.{◌≡◌, ℕ, zero, suc, ◌≤◌, List, [], ◌∷◌, length, get_or, slice_get, slice_range, Some}
use Rattle.lemma_checker.specs.declared.literal.Literal.{Literal}
use Rattle.lemma_checker.specs.Clauses.{AreDistinct}

-- the pieces of a list, of which the first starts at this place, and each ends where the next starts
abbrev pub pieces : List Literal → ℕ → List ℕ → List (List Literal)
pieces literals start [] = []
pieces literals start (e ∷ es) = slice_range literals start e ∷ pieces literals e es

-- where piece i starts
abbrev pub start_at : ℕ → List ℕ → ℕ → ℕ
start_at start ends zero = start
start_at start ends (suc i) = get_or ends i start

-- the pieces are the whole list, and in none a literal stands twice
pub record AreClauses (literals : List Literal) (ends : List ℕ) : Type 0 where
  pub rising : (i e : ℕ) → slice_get ends i ≡ Some e → start_at 0 ends i ≤ e
  pub within : (i e : ℕ) → slice_get ends i ≡ Some e → e ≤ length literals
  pub whole : start_at 0 ends (length ends) ≡ length literals
  pub distinct : (i : ℕ) (c : List Literal) → slice_get (pieces literals 0 ends) i ≡ Some c → AreDistinct c
