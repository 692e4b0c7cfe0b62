-- The way along the list of a literal that became false.
use Rattle.std.specs.Prelude.{◌≡◌, ℕ, ◌+◌, ◌-◌, ◌<◌, ◌≤◌, ◌⊎◌, true, not, List, length, take, drop, count_by, Option, Some, None, slice_get}
use Rattle.lemma_checker.specs.declared.literal.Literal.{Literal}
use Rattle.lemma_checker.specs.Clauses.{opposite, set_of}
use Rattle.watch_lists.specs.declared.watch.Watch.{Watch}
use Rattle.watch_lists.specs.declared.visit.Step.{Step}
use Rattle.watch_lists.specs.declared.visit.Step.TheVariants as step
use Rattle.watch_lists.specs.declared.trail.Trail.{Trail}
use Rattle.watch_lists.specs.Scans.{IsConflictNumber}
use Rattle.watch_lists.specs.Watching.{copy, list_at, names, literal_at, watched_at, among, AreWatches, AreGuarded, IsPlain, HasTrue, AreHeld, AreForced}

-- the watches are in order, and guarded up to what is propagated of the trail
pub record AreWatching (literals : List Literal) (starts : List ℕ) (lists : List (List Watch)) (t : Trail) : Type 0 where
  pub watches : AreWatches literals starts lists
  pub plain : IsPlain (length lists) t.literals.items t.reasons.items t.starts.items t.values.items t.done
  pub guarded : AreGuarded literals starts t.literals.items t.starts.items t.done

-- the next literal to propagate makes f false; each clause that is watched at f comes yet in f's list, from place i on, or has a true literal
pub record IsPassing (literals : List Literal) (starts : List ℕ) (lists : List (List Watch)) (t : Trail) (f i : ℕ) : Type 0 where
  pub watching : AreWatching literals starts lists t
  pub next : t.done < length t.literals.items
  pub denied : opposite (literal_at t.literals.items t.done) ≡ f
  pub passed : (k : ℕ) → k + 1 < length starts → 2 ≤ length (copy literals starts k) → watched_at literals starts k f ≡ true → (names k (drop i (list_at lists f)) ≡ true) ⊎ HasTrue (set_of (copy literals starts k)) t.literals.items

-- each copy has the same literals in another order
pub record AreSameCopies (starts : List ℕ) (old new : List Literal) : Type 0 where
  pub same : (k : ℕ) → k + 1 < length starts → set_of (copy new starts k) ≡ set_of (copy old starts k)
  pub long : (k : ℕ) → k + 1 < length starts → length (copy new starts k) ≡ length (copy old starts k)

-- what a part of propagation leaves: the same copies, and a trail that grew by forced literals
pub record IsGrown (literals : List Literal) (starts : List ℕ) (new : List Literal) (before after : Trail) : Type 0 where
  pub copies : AreSameCopies starts literals new
  pub forced : (clauses : List (List Literal)) → AreHeld literals starts clauses → AreForced clauses before.literals.items before.reasons.items after.literals.items after.reasons.items
  pub front : take (length before.literals.items) after.literals.items ≡ before.literals.items
  pub levels : after.starts.items ≡ before.starts.items
  pub balance : length after.literals.items + count_by not after.values.items ≡ length before.literals.items + count_by not before.values.items

-- a clause is false
pub record IsStopped (literals : List Literal) (starts : List ℕ) (new : List Literal) (lists : List (List Watch)) (t : Trail) (k : ℕ) : Type 0 where
  pub watching : AreWatching new starts lists t
  pub conflict : (clauses : List (List Literal)) → AreHeld literals starts clauses → IsConflictNumber clauses k (set_of t.literals.items)

-- the next place j of the list comes, of which less is left
pub record IsAhead (old : List Watch) (i : ℕ) (literals : List Literal) (starts : List ℕ) (lists : List (List Watch)) (t : Trail) (f j : ℕ) : Type 0 where
  pub passing : IsPassing literals starts lists t f j
  pub less : length (list_at lists f) - j < length old - i

abbrev pub StepIs : Step → List Watch → ℕ → List Literal → List ℕ → List Literal → List (List Watch) → Trail → ℕ → Type 0
StepIs (step.At j) old i literals starts new lists t f = IsAhead old i new starts lists t f j
StepIs (step.Conflict k) old i literals starts new lists t f = IsStopped literals starts new lists t k

-- each clause that is watched at f has a true literal
pub record IsThrough (literals : List Literal) (starts : List ℕ) (lists : List (List Watch)) (t : Trail) (f : ℕ) : Type 0 where
  pub watching : AreWatching literals starts lists t
  pub next : t.done < length t.literals.items
  pub denied : opposite (literal_at t.literals.items t.done) ≡ f
  pub met : (k : ℕ) → k + 1 < length starts → 2 ≤ length (copy literals starts k) → watched_at literals starts k f ≡ true → HasTrue (set_of (copy literals starts k)) t.literals.items

abbrev pub PassedIs : Option ℕ → List Literal → List ℕ → List Literal → List (List Watch) → Trail → ℕ → Type 0
PassedIs None literals starts new lists t f = IsThrough new starts lists t f
PassedIs (Some k) literals starts new lists t f = IsStopped literals starts new lists t k

-- all literals are propagated
pub record IsRun (literals : List Literal) (starts : List ℕ) (lists : List (List Watch)) (t : Trail) : Type 0 where
  pub watching : AreWatching literals starts lists t
  pub all : t.done ≡ length t.literals.items

abbrev pub RanIs : Option ℕ → List Literal → List ℕ → List Literal → List (List Watch) → Trail → Type 0
RanIs None literals starts new lists t = IsRun new starts lists t
RanIs (Some k) literals starts new lists t = IsStopped literals starts new lists t k

-- the short clauses of these numbers are of one literal or none
pub record AreBrief (literals : List Literal) (starts : List ℕ) (short : List ℕ) : Type 0 where
  pub each : (j k : ℕ) → slice_get short j ≡ Some k → (k + 1 < length starts) × (length (copy literals starts k) ≤ 1)

-- the short clauses of these numbers have a true literal
pub record AreTrue (literals : List Literal) (starts : List ℕ) (short : List ℕ) (t : List Literal) : Type 0 where
  pub each : (k : ℕ) → among k short ≡ true → HasTrue (set_of (copy literals starts k)) t

-- a clause is false, where the copies stayed
pub record IsDenied (literals : List Literal) (starts : List ℕ) (t : Trail) (k : ℕ) : Type 0 where
  pub conflict : (clauses : List (List Literal)) → AreHeld literals starts clauses → IsConflictNumber clauses k (set_of t.literals.items)

abbrev pub MetIs : Option ℕ → List Literal → List ℕ → List ℕ → Trail → Type 0
MetIs None literals starts short t = AreTrue literals starts short t.literals.items
MetIs (Some k) literals starts short t = IsDenied literals starts t k
