-- Which clauses the watches hold, and which trails fit them.
use Rattle.std.specs.Prelude.{◌≡◌, ◌≢◌, ℕ, ◌+◌, ◌*◌, ◌<◌, ◌≤◌, true, List, length, take}
use Rattle.lemma_checker.specs.declared.literal.Literal.{Literal}
use Rattle.lemma_checker.specs.Clauses.{has, set_of}
use Rattle.watch_lists.specs.declared.trail.Trail.{Trail}
use Rattle.watch_lists.specs.declared.watches.Watches.{Watches}
use Rattle.watch_lists.specs.Watching.{lists_of, AreWatches, AreShort, AreMet, AreHeld, IsGuarded}
use Rattle.watch_lists.specs.Visits.{AreWatching}

-- the watches are in order
pub record AreSound (w : Watches) : Type 0 where
  pub watches : AreWatches w.literals.items w.starts.items (lists_of w.lists.items)
  pub short : AreShort w.literals.items w.starts.items w.short.items
  pub looked : w.looked ≤ length w.short.items

-- the watches hold the clauses under their numbers, over the variables 1 to `vars`
pub record Holds (w : Watches) (vars : ℕ) (clauses : List (List Literal)) : Type 0 where
  pub size : length w.lists.items ≡ 2 * vars + 2
  pub sound : AreSound w
  pub held : AreHeld w.literals.items w.starts.items clauses

-- the trail fits the watches: each watched literal is guarded up to what is propagated, and the short clauses that
-- were looked at have true literals
pub record Fits (w : Watches) (t : Trail) : Type 0 where
  pub watching : AreWatching w.literals.items w.starts.items (lists_of w.lists.items) t
  pub short : AreShort w.literals.items w.starts.items w.short.items
  pub looked : w.looked ≤ length w.short.items
  pub met : AreMet w.literals.items w.starts.items (take w.looked w.short.items) t.literals.items t.done

-- the clause's variables are among those of the watches
pub record IsOf (w : Watches) (c : List Literal) : Type 0 where
  pub low : (l : ℕ) → has l c ≡ true → 2 ≤ l
  pub high : (l : ℕ) → has l c ≡ true → l < length w.lists.items

-- two literals of the clause, which differ
pub record ArePair (c : List Literal) (first second : ℕ) : Type 0 where
  pub first_in : has first c ≡ true
  pub second_in : has second c ≡ true
  pub different : first ≢ second

-- both are guarded
pub record ArePairGuarded (c : List Literal) (first second : ℕ) (t : Trail) : Type 0 where
  pub first_guarded : IsGuarded (set_of c) first t.literals.items t.starts.items t.done
  pub second_guarded : IsGuarded (set_of c) second t.literals.items t.starts.items t.done

-- the same clauses, watched at the same literals
pub record IsUnchanged (w v : Watches) : Type 0 where
  pub literals : v.literals.items ≡ w.literals.items
  pub starts : v.starts.items ≡ w.starts.items
  pub lists : lists_of v.lists.items ≡ lists_of w.lists.items
  pub short : v.short.items ≡ w.short.items
  pub looked : v.looked ≡ w.looked
