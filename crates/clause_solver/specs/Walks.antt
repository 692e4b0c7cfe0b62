-- Going back along the trail from a false clause.
use Rattle.std.specs.Prelude.{◌≡◌, ◌≢◌, ℕ, ◌+◌, ◌<◌, ◌≤◌, ◌⊎◌, Bool, true, false, List, length, take, Some, slice_get}
use Rattle.lemma_checker.specs.declared.literal.Literal.{Literal}
use Rattle.lemma_checker.specs.Clauses.{opposite, has, at}
use Rattle.lemma_checker.specs.Chains.{chain_result}
use Rattle.lemma_checker.specs.Checker.{Lists}

-- the opposites of the set's literals that stand before i stand before `low`, the last of them just there
pub record IsEnd (f : ℕ → Bool) (t : List Literal) (i low : ℕ) : Type 0 where
  pub within : low ≤ i
  pub before : (l : ℕ) → f l ≡ true → has (opposite l) (take i t) ≡ true → has (opposite l) (take low t) ≡ true
  pub last : (p : ℕ) (x : Literal) → p + 1 ≡ low → slice_get t p ≡ Some x → f (opposite x.0) ≡ true

-- the levels' starts rise
pub record AreRising (starts : List ℕ) : Type 0 where
  pub each : (i j a b : ℕ) → i < j → slice_get starts i ≡ Some a → slice_get starts j ≡ Some b → a < b

-- the first level that starts at `low` or later, and not past i
pub record IsBetween (starts : List ℕ) (low i k : ℕ) : Type 0 where
  pub place : ℕ
  pub is : slice_get starts k ≡ Some place
  pub from : low ≤ place
  pub until : place ≤ i
  pub lower : (j a : ℕ) → j < k → slice_get starts j ≡ Some a → a < low

-- from place i the solver can go back to level k; the other literals of the set are denied before `low`
pub record IsFound (f : ℕ → Bool) (t : List Literal) (starts : List ℕ) (i k low : ℕ) : Type 0 where
  pub end : IsEnd f t i low
  pub between : IsBetween starts low i k

-- the set is what the chain gives, and is false in the first i literals of the trail
pub record IsWalk (n : ℕ) (clauses : List (List Literal)) (t : List Literal) (i : ℕ) (seen : List Bool) (touched : List Literal) (ids pivots : List ℕ) : Type 0 where
  pub size : length seen ≡ n
  pub lists : Lists seen touched
  pub chain : chain_result clauses ids pivots ≡ Some (at seen)
  pub below : (l : ℕ) → at seen l ≡ true → has (opposite l) (take i t) ≡ true

-- before the start of level k the others are false and l is neither true nor false; before each lower start the literal m
-- is another one that is not false; where m is l itself there is no other
pub record IsStop (t : List Literal) (starts : List ℕ) (f : ℕ → Bool) (l m k : ℕ) : Type 0 where
  pub place : ℕ
  pub is : slice_get starts k ≡ Some place
  pub member : f l ≡ true
  pub others : (x : ℕ) → f x ≡ true → x ≢ l → has (opposite x) (take place t) ≡ true
  pub absent : has l (take place t) ≡ false
  pub free : has (opposite l) (take place t) ≡ false
  pub second : f m ≡ true
  pub lower : (j a : ℕ) → j < k → slice_get starts j ≡ Some a → (m ≢ l) × (has (opposite m) (take a t) ≡ false)
  pub alone : m ≡ l → (x : ℕ) → f x ≡ true → x ≡ l

-- the set is what the chain gives; its literals that are denied before place p, or those of the first set that are
-- not denied before the first level
pub record IsClearing (n : ℕ) (clauses : List (List Literal)) (t : List Literal) (bottom p : ℕ) (first : ℕ → Bool) (seen : List Bool) (touched : List Literal) (ids pivots : List ℕ) : Type 0 where
  pub size : length seen ≡ n
  pub lists : Lists seen touched
  pub chain : chain_result clauses ids pivots ≡ Some (at seen)
  pub inside : (l : ℕ) → at seen l ≡ true → has (opposite l) t ≡ true
  pub cases : (l : ℕ) → at seen l ≡ true → (has (opposite l) (take p t) ≡ true) ⊎ ((first l ≡ true) × (has (opposite l) (take bottom t) ≡ false))
  pub kept : (l : ℕ) → first l ≡ true → has (opposite l) (take bottom t) ≡ false → at seen l ≡ true
