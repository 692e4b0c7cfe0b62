-- Watched literals: when each clause is watched at two of its literals, and which trails fit the watches.
use Rattle.std.specs.Prelude.{◌≡◌, ◌≢◌, ℕ, ◌+◌, ◌-◌, ◌%◌, ◌^◌, ◌<◌, ◌≤◌, Bool, true, eqb, List, [], length, take, map, Some, slice_get, slice_index_or}
use Rattle.std.specs.List.{list_any, between}
use Rattle.std.specs.declared.vec.Vec.{Vec}
use Rattle.std.specs.declared.alloc.Global.{Global}
use Rattle.lemma_checker.specs.declared.literal.Literal.{Literal}
use Rattle.lemma_checker.specs.Clauses.{opposite, has, set_of, at, AreDistinct}
use Rattle.lemma_checker.specs.Chains.{numbered}
use Rattle.lemma_checker.specs.Propagation.{AreApart, AreOthersFalse}
use Rattle.watch_lists.specs.declared.watch.Watch.{Watch}

-- the copy of clause k: its literals in the table, from its start to the next one's
abbrev pub copy : List Literal → List ℕ → ℕ → List Literal
copy literals starts k = between (slice_index_or starts k 0) (slice_index_or starts (k + 1) 0) literals

-- the starts rise, and lie inside the table; there are few
pub record IsTable (literals : List Literal) (starts : List ℕ) : Type 0 where
  pub some : 0 < length starts
  pub few : length starts < 2 ^ 32
  pub rising : (i j : ℕ) → i ≤ j → j < length starts → slice_index_or starts i 0 ≤ slice_index_or starts j 0
  pub inside : (i : ℕ) → i < length starts → slice_index_or starts i 0 ≤ length literals
  pub last : slice_index_or starts (length starts - 1) 0 ≡ length literals

-- the lists of watches, by the number of the literal
abbrev pub lists_of : List (Vec Watch Global) → List (List Watch)
lists_of lists = map (λ v. v.items) lists

-- the list of one literal
abbrev pub list_at : List (List Watch) → ℕ → List Watch
list_at lists l = slice_index_or lists l []

-- whether a watch of clause k is in the list
abbrev pub names : ℕ → List Watch → Bool
names k list = list_any (λ w. eqb w.clause k) list

-- whether k is among the numbers
abbrev pub among : ℕ → List ℕ → Bool
among k numbers = list_any (λ m. eqb m k) numbers

-- the literal at a place of a clause
abbrev pub literal_at : List Literal → ℕ → ℕ
literal_at c i = (slice_index_or c i (record { 0 = 0 })).0

-- the first two literals of the clause are not the same
pub record AreTwo (c : List Literal) : Type 0 where
  pub long : 2 ≤ length c
  pub different : literal_at c 0 ≢ literal_at c 1

-- whether clause k is watched at the literal: it is one of the first two of its copy
abbrev pub watched_at : List Literal → List ℕ → ℕ → ℕ → Bool
watched_at literals starts k x = has x (take 2 (copy literals starts k))

-- the watch names a clause of two literals or more, where its copy starts and ends, and one of its literals
pub record IsEntry (literals : List Literal) (starts : List ℕ) (w : Watch) : Type 0 where
  pub below : w.clause + 1 < length starts
  pub long : 2 ≤ length (copy literals starts w.clause)
  pub start : w.start ≡ slice_index_or starts w.clause 0
  pub end : w.end ≡ slice_index_or starts (w.clause + 1) 0
  pub member : has w.blocker.0 (copy literals starts w.clause) ≡ true

-- each clause of the table has its copy, and one of two literals or more is listed at the first two, which differ.
-- A watch names such a clause, its place and one of its literals.
pub record AreWatches (literals : List Literal) (starts : List ℕ) (lists : List (List Watch)) : Type 0 where
  pub table : IsTable literals starts
  pub even : length lists % 2 ≡ 0
  pub low : (k l : ℕ) → k + 1 < length starts → has l (copy literals starts k) ≡ true → 2 ≤ l
  pub high : (k l : ℕ) → k + 1 < length starts → has l (copy literals starts k) ≡ true → l < length lists
  pub two : (k : ℕ) → k + 1 < length starts → 2 ≤ length (copy literals starts k) → AreTwo (copy literals starts k)
  pub listed : (k x : ℕ) → k + 1 < length starts → 2 ≤ length (copy literals starts k) → watched_at literals starts k x ≡ true → names k (list_at lists x) ≡ true
  pub entries : (l j : ℕ) (w : Watch) → slice_get (list_at lists l) j ≡ Some w → IsEntry literals starts w

-- each clause of fewer than two literals is in the list of short ones, which has no other
pub record AreShort (literals : List Literal) (starts : List ℕ) (short : List ℕ) : Type 0 where
  pub listed : (k : ℕ) → k + 1 < length starts → length (copy literals starts k) ≤ 1 → among k short ≡ true
  pub entries : (j k : ℕ) → slice_get short j ≡ Some k → (k + 1 < length starts) × (length (copy literals starts k) ≤ 1)

-- one of the set's literals is true in the trail
pub record HasTrue (f : ℕ → Bool) (t : List Literal) : Type 0 where
  pub literal : ℕ
  pub member : f literal ≡ true
  pub holds : has literal t ≡ true

-- where the watched literal x of the clause is false among the propagated literals, the clause has a true literal;
-- and where it is false before a level's start, one that is true before it
pub record IsGuarded (f : ℕ → Bool) (x : ℕ) (t : List Literal) (starts : List ℕ) (done : ℕ) : Type 0 where
  pub now : has (opposite x) (take done t) ≡ true → HasTrue f t
  pub levels : (i a : ℕ) → slice_get starts i ≡ Some a → has (opposite x) (take a t) ≡ true → HasTrue f (take a t)

-- both watches of each clause are guarded
pub record AreGuarded (literals : List Literal) (starts : List ℕ) (t : List Literal) (levels : List ℕ) (done : ℕ) : Type 0 where
  pub each : (k x : ℕ) → k + 1 < length starts → 2 ≤ length (copy literals starts k) → watched_at literals starts k x ≡ true → IsGuarded (set_of (copy literals starts k)) x t levels done

-- once a literal is propagated, the short clauses that were looked at have true literals
pub record AreMet (literals : List Literal) (starts : List ℕ) (looked : List ℕ) (t : List Literal) (done : ℕ) : Type 0 where
  pub each : (k : ℕ) → 0 < done → among k looked ≡ true → HasTrue (set_of (copy literals starts k)) t

-- the literals are below n, each variable once, with their values; levels start among them
pub record IsPlain (n : ℕ) (t : List Literal) (reasons levels : List ℕ) (values : List Bool) (done : ℕ) : Type 0 where
  pub size : length values ≡ n
  pub same : at values ≡ set_of t
  pub apart : AreApart (set_of t)
  pub once : AreDistinct t
  pub named : (l : ℕ) → has l t ≡ true → 2 ≤ l
  pub lengths : length reasons ≡ length t
  pub inside : (i a : ℕ) → slice_get levels i ≡ Some a → a ≤ length t
  pub within : done ≤ length t

-- the table holds the clauses: clause k has the literals of its copy
pub record AreHeld (literals : List Literal) (starts : List ℕ) (clauses : List (List Literal)) : Type 0 where
  pub count : length starts ≡ length clauses + 1
  pub same : (k : ℕ) (c : List Literal) → slice_get clauses k ≡ Some c → set_of (copy literals starts k) ≡ set_of c

-- the clause of this number forces the literal
pub record IsReason (clauses : List (List Literal)) (k l : ℕ) (s : ℕ → Bool) : Type 0 where
  pub some : 1 ≤ k
  pub clause : List Literal
  pub is : numbered clauses k ≡ Some clause
  pub others : AreOthersFalse clause l s

-- the literals and reasons that were added to a trail: each is forced by the clause of its reason
pub record AreForced (clauses : List (List Literal)) (t : List Literal) (reasons : List ℕ) (longer : List Literal) (more : List ℕ) : Type 0 where
  pub front : take (length t) longer ≡ t
  pub known : take (length t) more ≡ reasons
  pub each : (p k : ℕ) (x : Literal) → length t ≤ p → slice_get longer p ≡ Some x → slice_get more p ≡ Some k → IsReason clauses k x.0 (set_of (take p longer))
