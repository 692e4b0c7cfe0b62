-- Laws of the trails that fit watches.
use Rattle.std.specs.Prelude.{◌≡◌, ℕ, ◌<◌, ◌≤◌, true, false, List, [], ◌∷◌, ◌++◌, length, take, Some, slice_get, slice_set}
use Rattle.lemma_checker.specs.declared.literal.Literal.{Literal}
use Rattle.lemma_checker.specs.Clauses.{opposite, has, set_of, at}
use Rattle.watch_lists.specs.declared.trail.Trail.{Trail}
use Rattle.watch_lists.specs.declared.watches.Watches.{Watches}
use Rattle.watch_lists.specs.Trails.{IsSettled}
use Rattle.watch_lists.specs.Watching.{IsPlain}
use Rattle.watch_lists.specs.Watches.{Holds, Fits, ArePairGuarded}

-- the trail's variables are among those of the watches, none twice, with their values
abbrev pub IsTrailFor : Watches → Trail → Type 0
IsTrailFor w t = IsPlain (length w.lists.items) t.literals.items t.reasons.items t.starts.items t.values.items t.done

-- the same trail with as many propagated literals
abbrev pub with_done : Trail → ℕ → Trail
with_done t d = record t { done = d }

-- the trail was cut to its first `place` literals and `levels` levels
pub record IsCut (t u : Trail) (levels place : ℕ) : Type 0 where
  pub literals : u.literals.items ≡ take place t.literals.items
  pub reasons : u.reasons.items ≡ take place t.reasons.items
  pub starts : u.starts.items ≡ take levels t.starts.items
  pub values : at u.values.items ≡ set_of (take place t.literals.items)
  pub size : length u.values.items ≡ length t.values.items
  pub done : u.done ≤ place

-- one literal more that is open, below n; with so many levels
pub record IsPushed (n : ℕ) (t u : Trail) (x : Literal) (reason : ℕ) : Type 0 where
  pub low : 2 ≤ x.0
  pub high : x.0 < n
  pub absent : has x.0 t.literals.items ≡ false
  pub free : has (opposite x.0) t.literals.items ≡ false
  pub literals : u.literals.items ≡ t.literals.items ++ x ∷ []
  pub reasons : u.reasons.items ≡ t.reasons.items ++ reason ∷ []
  pub values : u.values.items ≡ slice_set t.values.items x.0 true
  pub done : u.done ≡ t.done

-- the starts rise
pub record AreRising (starts : List ℕ) : Type 0 where
  pub each : (i j a b : ℕ) → i < j → slice_get starts i ≡ Some a → slice_get starts j ≡ Some b → a < b

-- no propagated literal denies l, nor one that stands before a level's start
pub record IsOpenAtStarts (l : ℕ) (t : Trail) : Type 0 where
  pub now : has (opposite l) (take t.done t.literals.items) ≡ false
  pub levels : (i a : ℕ) → slice_get t.starts.items i ≡ Some a → has (opposite l) (take a t.literals.items) ≡ false

abbrev pub FirstFits : Type 0
FirstFits = (w : Watches) (vars : ℕ) (clauses : List (List Literal)) (t : Trail) → Holds w vars clauses → IsTrailFor w t → t.starts.items ≡ [] → t.done ≡ 0 → Fits w t

abbrev pub LongerFits : Type 0
LongerFits = (w : Watches) (t u : Trail) (x : Literal) (reason : ℕ) → Fits w t → IsPushed (length w.lists.items) t u x reason → u.starts.items ≡ t.starts.items → Fits w u

abbrev pub LowerFits : Type 0
LowerFits = (w : Watches) (t : Trail) (done : ℕ) → Fits w t → done ≤ t.done → Fits w (with_done t done)

abbrev pub CutFits : Type 0
CutFits = (w : Watches) (vars : ℕ) (clauses : List (List Literal)) (t u : Trail) (levels place : ℕ) → Holds w vars clauses → Fits w t → AreRising t.starts.items → slice_get t.starts.items levels ≡ Some place → IsSettled clauses (set_of (take place t.literals.items)) → IsCut t u levels place → Fits w u

abbrev pub ChosenFits : Type 0
ChosenFits = (w : Watches) (t u : Trail) (x : Literal) → Fits w t → t.done ≡ length t.literals.items → IsPushed (length w.lists.items) t u x 0 → u.starts.items ≡ t.starts.items ++ length t.literals.items ∷ [] → Fits w u

abbrev pub OpenAreGuarded : Type 0
OpenAreGuarded = (c : List Literal) (first second : ℕ) (t : Trail) → IsOpenAtStarts first t → IsOpenAtStarts second t → ArePairGuarded c first second t
