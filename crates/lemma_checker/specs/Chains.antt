-- Resolution, and chains of resolution steps.
use Rattle.std.specs.Prelude.{◌≡◌, ℕ, zero, suc, ◌+◌, ◌*◌, ◌/◌, Bool, true, false, not, ◌&&◌, ◌||◌, eqb, ◌==◌, cond, List, [], ◌∷◌, ◌++◌, length, take, Option, Some, None, slice_get, option_and_then}
use Rattle.std.specs.List.{list_any}
use Rattle.lemma_checker.specs.declared.literal.Literal.{Literal}
use Rattle.lemma_checker.specs.Clauses.{set_of}

-- of two clauses, the first with (b) and (c) a variable and its negation, the second with (d) and (e):
-- one has the variable and not its negation, the other the negation and not the variable
abbrev pub clash : Bool → Bool → Bool → Bool → Bool
clash true b d e = not b && (e && not d)
clash false b d e = b && (d && not e)

-- two sets of literals can be resolved on the variable p
unfoldable pub clashes : ℕ → (ℕ → Bool) → (ℕ → Bool) → Bool
clashes p f g = clash (f (2 * p)) (f (2 * p + 1)) (g (2 * p)) (g (2 * p + 1))

-- their resolvent: all literals of both that are not of the variable p
unfoldable pub resolved : ℕ → (ℕ → Bool) → (ℕ → Bool) → ℕ → Bool
resolved p f g l = not (eqb (l / 2) p) && (f l || g l)

-- one step: the set so far with a clause, where there is one and they can be resolved
unfoldable pub resolve_with : ℕ → (ℕ → Bool) → Option (List Literal) → Option (ℕ → Bool)
resolve_with p f None = None
resolve_with p f (Some c) = cond (clashes p f (set_of c)) (Some (resolved p f (set_of c))) None

-- the clause of this number, counted from 1
abbrev pub numbered : List (List Literal) → ℕ → Option (List Literal)
numbered clauses zero = None
numbered clauses (suc i) = slice_get clauses i

-- the set that the steps lead to, each with the next number and the next pivot; None where one does not resolve,
-- or where there are not as many pivots as numbers
abbrev pub chain_from : List (List Literal) → (ℕ → Bool) → List ℕ → List ℕ → Option (ℕ → Bool)
chain_from clauses f [] [] = Some f
chain_from clauses f [] (p ∷ ps) = None
chain_from clauses f (i ∷ is) [] = None
chain_from clauses f (i ∷ is) (p ∷ ps) = option_and_then (λ g. chain_from clauses g is ps) (resolve_with p f (numbered clauses i))

-- what a chain gives: it starts with the clause of its first number
abbrev pub chain_result : List (List Literal) → List ℕ → List ℕ → Option (ℕ → Bool)
chain_result clauses [] ps = None
chain_result clauses (i ∷ is) ps = option_and_then (λ c. chain_from clauses (set_of c) is ps) (numbered clauses i)

-- each added clause is what its chain gives from the clauses before it
pub record AreDerived (clauses added : List (List Literal)) (chains : List (List ℕ × List ℕ)) : Type 0 where
  pub lengths : length chains ≡ length added
  pub each : (i : ℕ) (c : List Literal) (ids pivots : List ℕ) → slice_get added i ≡ Some c → slice_get chains i ≡ Some (ids, pivots) → chain_result (clauses ++ take i added) ids pivots ≡ Some (set_of c)

-- one of the clauses is empty
abbrev pub has_empty : List (List Literal) → Bool
has_empty clauses = list_any (λ c. length c == 0) clauses

-- clauses that the chains give one after another, one of which, or of the given ones, is empty
pub record EmptyClause (clauses : List (List Literal)) (chains : List (List ℕ × List ℕ)) : Type 0 where
  pub added : List (List Literal)
  pub derived : AreDerived clauses added chains
  pub empty : has_empty (clauses ++ added) ≡ true

-- the chains reach the empty clause
abbrev pub ReachesEmpty : List (List Literal) → List (List ℕ × List ℕ) → Type 0
ReachesEmpty clauses chains = ∥ EmptyClause clauses chains ∥₁
