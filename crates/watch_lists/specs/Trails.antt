-- Trails of literals, and when unit propagation over a list of clauses has nothing left to do.
use Rattle.std.specs.Prelude.{◌≡◌, ◌≢◌, ℕ, ◌<◌, ◌≤◌, Bool, true, false, List, length, take, Some, slice_get}
use Rattle.lemma_checker.specs.declared.literal.Literal.{Literal}
use Rattle.lemma_checker.specs.Clauses.{opposite, has, set_of, at, AreDistinct}
use Rattle.lemma_checker.specs.Chains.{numbered}
use Rattle.lemma_checker.specs.Propagation.{AreOthersFalse, IsFalse, AreApart}

-- the clause is not false in the set, and a literal whose others are all false is in the set
pub record IsQuiet (c : List Literal) (s : ℕ → Bool) : Type 0 where
  pub not_false : IsFalse c s → ⊥
  pub unit : (l : ℕ) → AreOthersFalse c l s → s l ≡ true

-- unit propagation from the set gives no further literal, and does not conflict
pub record IsSettled (clauses : List (List Literal)) (s : ℕ → Bool) : Type 0 where
  pub apart : AreApart s
  pub quiet : (i : ℕ) (c : List Literal) → slice_get clauses i ≡ Some c → IsQuiet c s

-- two literals of the clause are not false in the set
pub record HasTwoOpen (c : List Literal) (s : ℕ → Bool) : Type 0 where
  pub first : ℕ
  pub second : ℕ
  pub first_in : has first c ≡ true
  pub second_in : has second c ≡ true
  pub different : first ≢ second
  pub first_open : s (opposite first) ≡ false
  pub second_open : s (opposite second) ≡ false

-- the literals' variables are from 1 on
pub record AreNamed (clauses : List (List Literal)) : Type 0 where
  pub each : (i : ℕ) (c : List Literal) (l : ℕ) → slice_get clauses i ≡ Some c → has l c ≡ true → 2 ≤ l

-- a level starts at this place
pub record HasStart (starts : List ℕ) (p : ℕ) : Type 0 where
  pub level : ℕ
  pub is : slice_get starts level ≡ Some p

-- the trail's literals stand once, each forced by its reason from what stands before it, or chosen at a level's start;
-- before each level's start unit propagation has nothing left to do. `n` is the number of literals, with the two of variable 0
pub record IsTrail (n : ℕ) (clauses : List (List Literal)) (t : List Literal) (reasons starts : List ℕ) (values : List Bool) : Type 0 where
  pub size : length values ≡ n
  pub same : at values ≡ set_of t
  pub apart : AreApart (set_of t)
  pub lengths : length reasons ≡ length t
  pub once : AreDistinct t
  pub named : (l : ℕ) → has l t ≡ true → 2 ≤ l
  pub known : (p k : ℕ) → slice_get reasons p ≡ Some k → k ≤ length clauses
  pub chosen : (p : ℕ) → slice_get reasons p ≡ Some 0 → HasStart starts p
  pub given : (p k : ℕ) (x : Literal) (c : List Literal) → slice_get t p ≡ Some x → slice_get reasons p ≡ Some k → numbered clauses k ≡ Some c → AreOthersFalse c x.0 (set_of (take p t))
  pub inside : (i a : ℕ) → slice_get starts i ≡ Some a → a < length t
  pub rising : (i j a b : ℕ) → i < j → slice_get starts i ≡ Some a → slice_get starts j ≡ Some b → a < b
  pub settled : (i a : ℕ) → slice_get starts i ≡ Some a → IsSettled clauses (set_of (take a t))
