-- What a look at a watched clause finds and leaves.
use Rattle.std.specs.Prelude.{◌≡◌, ◌≢◌, ℕ, ◌<◌, ◌≤◌, ◌⊎◌, Bool, true, false, List, length, take}
use Rattle.lemma_checker.specs.declared.literal.Literal.{Literal}
use Rattle.lemma_checker.specs.Clauses.{opposite, has, set_of}
use Rattle.lemma_checker.specs.Propagation.{IsFalse}
use Rattle.watch_lists.specs.declared.look.Found.{Found}
use Rattle.watch_lists.specs.declared.look.Found.TheVariants as found
use Rattle.watch_lists.specs.Scans.{IsForced}
use Rattle.watch_lists.specs.Watching.{AreTwo, literal_at}

-- the same literals in another order
pub record IsReordered (old new : List Literal) : Type 0 where
  pub same : set_of new ≡ set_of old
  pub length : length new ≡ length old
  pub two : AreTwo new

-- with the same two watches
pub record IsFacing (old new : List Literal) : Type 0 where
  pub order : IsReordered old new
  pub watched : (x : ℕ) → has x (take 2 new) ≡ has x (take 2 old)

-- a literal past the watches that isn't false, and is not the other watch
pub record IsOther (c : List Literal) (s : ℕ → Bool) (p : ℕ) : Type 0 where
  pub past : 2 ≤ p
  pub below : p < length c
  pub different : literal_at c p ≢ literal_at c 0
  pub free : s (opposite (literal_at c p)) ≡ false

-- the clause isn't watched at the literal
pub record IsAway (f : ℕ) (old new : List Literal) : Type 0 where
  pub facing : IsFacing old new
  pub away : has f (take 2 new) ≡ false

-- this literal of the clause is true
pub record IsMet (m : ℕ) (old new : List Literal) (s : ℕ → Bool) : Type 0 where
  pub facing : IsFacing old new
  pub member : has m new ≡ true
  pub holds : s m ≡ true

-- the clause is watched at an open literal in place of f; the other watch stays
pub record IsMoved (f to other : ℕ) (old new : List Literal) (s : ℕ → Bool) : Type 0 where
  pub order : IsReordered old new
  pub watched : (x : ℕ) → has x (take 2 new) ≡ true → (x ≡ to) ⊎ ((has x (take 2 old) ≡ true) × (x ≢ f))
  pub member : has to new ≡ true
  pub second : has other new ≡ true
  pub free : s (opposite to) ≡ false

-- all others are false, and this one is open
pub record IsLast (l : ℕ) (old new : List Literal) (s : ℕ → Bool) : Type 0 where
  pub facing : IsFacing old new
  pub forced : IsForced new l s

-- all literals are false
pub record IsLost (old new : List Literal) (s : ℕ → Bool) : Type 0 where
  pub facing : IsFacing old new
  pub conflict : IsFalse new s

abbrev pub FoundIs : Found → ℕ → List Literal → List Literal → (ℕ → Bool) → Type 0
FoundIs found.Away f old new s = IsAway f old new
FoundIs (found.Met l) f old new s = IsMet l.0 old new s
FoundIs (found.Moved to other) f old new s = IsMoved f to.0 other.0 old new s
FoundIs (found.Forced l) f old new s = IsLast l.0 old new s
FoundIs found.False f old new s = IsLost old new s
