-- What a look at the clauses answers.
use Rattle.std.specs.Prelude.{◌≡◌, ℕ, ◌<◌, ◌≤◌, Bool, true, false, List, length, Option, Some, None, slice_get}
use Rattle.lemma_checker.specs.declared.literal.Literal.{Literal}
use Rattle.lemma_checker.specs.Clauses.{opposite, has}
use Rattle.lemma_checker.specs.Chains.{numbered}
use Rattle.lemma_checker.specs.Propagation.{AreOthersFalse, IsFalse}
use Rattle.watch_lists.specs.declared.scan.Status.{Status}
use Rattle.watch_lists.specs.declared.scan.Status.TheVariants as status
use Rattle.watch_lists.specs.declared.scan.Swept.{Swept}
use Rattle.watch_lists.specs.declared.scan.Swept.TheVariants as swept
use Rattle.watch_lists.specs.declared.trail.Trail.{Trail}
use Rattle.watch_lists.specs.Trails.{IsQuiet, IsSettled, IsTrail}

-- all other literals are false, and this one is neither false nor true
pub record IsForced (c : List Literal) (l : ℕ) (s : ℕ → Bool) : Type 0 where
  pub others : AreOthersFalse c l s
  pub not_true : s l ≡ false
  pub not_false : s (opposite l) ≡ false

abbrev pub StatusIs : Status → List Literal → (ℕ → Bool) → Type 0
StatusIs status.Quiet c s = IsQuiet c s
StatusIs status.False c s = IsFalse c s
StatusIs (status.Unit l) c s = IsForced c l.0 s

-- each clause is quiet
pub record AreQuiet (clauses : List (List Literal)) (s : ℕ → Bool) : Type 0 where
  pub each : (i : ℕ) (c : List Literal) → slice_get clauses i ≡ Some c → IsQuiet c s

-- of the clause's literals so far all but the one left are false, and that one is not true and not false
abbrev pub IsLeft : Option Literal → List Literal → (ℕ → Bool) → Type 0
IsLeft None c s = IsFalse c s
IsLeft (Some l) c s = IsForced c l.0 s

-- the clause of this number is false
pub record IsConflictNumber (clauses : List (List Literal)) (k : ℕ) (s : ℕ → Bool) : Type 0 where
  pub few : k ≤ length clauses
  pub clause : List Literal
  pub is : numbered clauses k ≡ Some clause
  pub conflict : IsFalse clause s

-- the clause of this number forces the literal
pub record IsUnitNumber (clauses : List (List Literal)) (k l : ℕ) (s : ℕ → Bool) : Type 0 where
  pub few : k ≤ length clauses
  pub clause : List Literal
  pub is : numbered clauses k ≡ Some clause
  pub forced : IsForced clause l s

-- what one look at all clauses leaves
abbrev pub SweptIs : Swept → List (List Literal) → (ℕ → Bool) → Type 0
SweptIs swept.Same clauses s = AreQuiet clauses s
SweptIs swept.More clauses s = Unit {0}
SweptIs (swept.Conflict k) clauses s = IsConflictNumber clauses k s

-- the trail's parts make a trail over the clauses
abbrev pub IsTrailOf : List (List Literal) → Trail → Type 0
IsTrailOf clauses t = IsTrail (length t.values.items) clauses t.literals.items t.reasons.items t.starts.items t.values.items

-- each literal's number is from 2 on and below n
pub record AreWithin (n : ℕ) (clauses : List (List Literal)) : Type 0 where
  pub low : (i : ℕ) (c : List Literal) (l : ℕ) → slice_get clauses i ≡ Some c → has l c ≡ true → 2 ≤ l
  pub high : (i : ℕ) (c : List Literal) (l : ℕ) → slice_get clauses i ≡ Some c → has l c ≡ true → l < n

-- what propagation tells: nothing is left to do, or the clause of this number is false
abbrev pub ToldIs : Option ℕ → List (List Literal) → (ℕ → Bool) → Type 0
ToldIs None clauses s = IsSettled clauses s
ToldIs (Some k) clauses s = IsConflictNumber clauses k s
