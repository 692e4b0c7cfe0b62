-- What the checker of chains keeps and adds.
use Rattle.std.specs.Prelude.{◌≡◌, ℕ, ◌+◌, ◌<◌, Bool, true, ◌||◌, eqb, List, [], ◌∷◌, ◌++◌, length, slice_get, Some}
use Rattle.lemma_checker.specs.declared.literal.Literal.{Literal}
use Rattle.lemma_checker.specs.declared.chain.Chain.{Chain}
use Rattle.lemma_checker.specs.Clauses.{has, set_of, at}
use Rattle.lemma_checker.specs.Chains.{chain_result}

-- the numbers and the pivots of a chain
abbrev pub link : Chain → List ℕ × List ℕ
link c = (c.ids.items, c.pivots.items)

-- each marked literal is listed
pub record Lists (marks : List Bool) (touched : List Literal) : Type 0 where
  pub listed : (l : ℕ) → at marks l ≡ true → has l touched ≡ true

-- each literal's number is below n
pub record AreBelow (n : ℕ) (c : List Literal) : Type 0 where
  pub each : (l : ℕ) → has l c ≡ true → l < n

-- each literal's number in each clause is below n
pub record AreAllBelow (n : ℕ) (clauses : List (List Literal)) : Type 0 where
  pub each : (i : ℕ) (c : List Literal) → slice_get clauses i ≡ Some c → AreBelow n c

-- a set with one literal more
abbrev pub with_literal : (ℕ → Bool) → ℕ → ℕ → Bool
with_literal f k l = eqb k l || f l

-- both sets together
abbrev pub joined : (ℕ → Bool) → (ℕ → Bool) → ℕ → Bool
joined f g l = f l || g l

-- one clause and its chain more: the clause is what the chain gives, and has the next number
pub record HasOneMore (formula old new : List (List Literal)) (old_chains new_chains : List Chain) (chain : Chain) (number : ℕ) : Type 0 where
  pub clause : List Literal
  pub result : chain_result (formula ++ old) chain.ids.items chain.pivots.items ≡ Some (set_of clause)
  pub added : new ≡ old ++ clause ∷ []
  pub chains : new_chains ≡ old_chains ++ chain ∷ []
  pub counted : number ≡ length formula + length new
