-- One look at a watch: what it leaves of the watches and of the trail.
use Rattle.std.proofs.Common.{◌≡◌, ◌≢◌, ℕ, zero, suc, ◌+◌, ◌-◌, ◌%◌, ◌<◌, ◌≤◌, ◌⊎◌, Bool, true, false, not, eqb, List, [], ◌∷◌, ◌++◌, length, take, drop, get_or, set, Some, slice_get, refl, ap, ◌∙◌, sym, subst, inl, inr, arith, true≢false, length-set, eq-eqb}
use Rattle.std.specs.List.{swap_remove, count_by}
use Rattle.watch_lists.proofs.TrailLemmas.{fewer_false}
use Rattle.std.proofs.lemmas.Bool.{cases_eq, cases_lt, or_cases, or_left, or_right, eqb-true}
use Rattle.std.proofs.lemmas.Option.{slice_get_within, slice_get-get_or}
use Rattle.std.proofs.lemmas.List.{take_all, take_at, take_more, get_or_past, drop_all, drop-set-lt, length_push, get_or_append_left}
use Rattle.lemma_checker.specs.declared.literal.Literal.{Literal}
use Rattle.lemma_checker.specs.Clauses.{opposite, has, set_of, at}
use Rattle.lemma_checker.specs.Propagation.{IsFalse}
use Rattle.watch_lists.specs.declared.watch.Watch.{Watch}
use Rattle.watch_lists.specs.declared.trail.Trail.{Trail}
use Rattle.watch_lists.specs.Trails.{IsQuiet}
use Rattle.watch_lists.specs.Scans.{IsForced}
use Rattle.watch_lists.specs.Watching.{copy, list_at, names, among, literal_at, watched_at, AreTwo, IsEntry, AreWatches, IsPlain, HasTrue, AreHeld, AreForced}
use Rattle.watch_lists.specs.Looks.{IsReordered, IsFacing, IsAway, IsMet, IsMoved, IsLast, IsLost}
use Rattle.watch_lists.specs.Visits.{AreWatching, IsPassing, AreSameCopies, IsGrown, IsAhead, IsStopped, IsThrough, AreTrue}
use Rattle.watch_lists.proofs.GuardLemmas.{true_push, true_set, guards_next, guards_push, plain_push, guard_more, forced_none, forced_push, forced_more, front_more, conflict_of}
use Rattle.watch_lists.proofs.NameLemmas.{IsIn, names_step, names_set, element_set, names_removed, element_removed, removed_length, names_push_old, names_push_new}
use Rattle.watch_lists.proofs.WatchLists.{list_other, list_same}
use Rattle.lemma_checker.proofs.ListLemmas.{get_push}
use Rattle.lemma_checker.proofs.CollectLemmas.{has_push_new}
use Rattle.lemma_checker.proofs.LawProofs.{opposite_back}
use Rattle.lemma_checker.proofs.ClauseLemmas.{has_get_or}

pub same_copies : (starts : List ℕ) (ls : List Literal) → AreSameCopies starts ls ls
same_copies starts ls = record { same = λ k lt. refl; long = λ k lt. refl }

-- one copy changed its order
pub copies_next : (starts : List ℕ) (ls new : List Literal) (k : ℕ) → IsReordered (copy ls starts k) (copy new starts k) → ((j : ℕ) → j + 1 < length starts → j ≢ k → copy new starts j ≡ copy ls starts j) → AreSameCopies starts ls new
copies_next starts ls new k order others = record {
  same = λ j lt. elim (cases_eq j k) [ inl e ↦ subst (λ (i : ℕ). set_of (copy new starts i) ≡ set_of (copy ls starts i)) (sym e) order.same | inr away ↦ ap set_of (others j lt away) ];
  long = λ j lt. elim (cases_eq j k) [ inl e ↦ subst (λ (i : ℕ). length (copy new starts i) ≡ length (copy ls starts i)) (sym e) order.length | inr away ↦ ap length (others j lt away) ];
}

two_next : (starts : List ℕ) (ls new : List Literal) (k : ℕ) → AreTwo (copy new starts k) → ((j : ℕ) → j + 1 < length starts → j ≢ k → copy new starts j ≡ copy ls starts j) → ((j : ℕ) → j + 1 < length starts → 2 ≤ length (copy ls starts j) → AreTwo (copy ls starts j)) → (j : ℕ) → j + 1 < length starts → 2 ≤ length (copy new starts j) → AreTwo (copy new starts j)
two_next starts ls new k two others old j lt long = elim (cases_eq j k) [ inl e ↦ subst (λ (i : ℕ). AreTwo (copy new starts i)) (sym e) two | inr away ↦ subst AreTwo (sym (others j lt away)) (old j lt (omega (arith, long, ap length (others j lt away)))) ]

-- the watches after a copy changed its order
watches_next : (starts : List ℕ) (ls new : List Literal) (ws next : List (List Watch)) (k : ℕ) → AreWatches ls starts ws → length new ≡ length ls → length next ≡ length ws → IsReordered (copy ls starts k) (copy new starts k) → ((j : ℕ) → j + 1 < length starts → j ≢ k → copy new starts j ≡ copy ls starts j) → ((j x : ℕ) → j + 1 < length starts → 2 ≤ length (copy new starts j) → watched_at new starts j x ≡ true → names j (list_at next x) ≡ true) → ((l j : ℕ) (w : Watch) → slice_get (list_at next l) j ≡ Some w → IsEntry ls starts w) → AreWatches new starts next
watches_next starts ls new ws next k w long_ls long_ws order others listed entries =
    let copies : AreSameCopies starts ls new = copies_next starts ls new k order others in
    record {
      table = record { some = w.table.some; few = w.table.few; rising = w.table.rising; inside = λ i lt. omega (arith, w.table.inside i lt, long_ls); last = w.table.last ∙ sym long_ls };
      even = ap (λ (n : ℕ). n % 2) long_ws ∙ w.even;
      low = λ j l lt h. w.low j l lt (ap (λ (f : ℕ → Bool). f l) (sym (copies.same j lt)) ∙ h);
      high = λ j l lt h. omega (arith, long_ws, w.high j l lt (ap (λ (f : ℕ → Bool). f l) (sym (copies.same j lt)) ∙ h));
      two = two_next starts ls new k order.two others w.two;
      listed = listed;
      entries = λ l j v is. let e : IsEntry ls starts v = entries l j v is in record { below = e.below; start = e.start; end = e.end; long = omega (arith, e.long, copies.long v.clause e.below); member = ap (λ (f : ℕ → Bool). f v.blocker.0) (copies.same v.clause e.below) ∙ e.member };
    }

-- the watches of each clause, where one copy keeps its two
watched_next : (starts : List ℕ) (ls new : List Literal) (k : ℕ) → IsFacing (copy ls starts k) (copy new starts k) → ((j : ℕ) → j + 1 < length starts → j ≢ k → copy new starts j ≡ copy ls starts j) → (j x : ℕ) → j + 1 < length starts → watched_at new starts j x ≡ watched_at ls starts j x
watched_next starts ls new k facing others j x lt = elim (cases_eq j k) [
  | inl e ↦ subst (λ (i : ℕ). watched_at new starts i x ≡ watched_at ls starts i x) (sym e) (facing.watched x)
  | inr away ↦ ap (λ (c : List Literal). has x (take 2 c)) (others j lt away)
]

-- the same lists serve where a copy keeps its two watches
pub facing_watching : (starts : List ℕ) (ls new : List Literal) (ws : List (List Watch)) (t : Trail) (k : ℕ) → AreWatching ls starts ws t → length new ≡ length ls → IsFacing (copy ls starts k) (copy new starts k) → ((j : ℕ) → j + 1 < length starts → j ≢ k → copy new starts j ≡ copy ls starts j) → AreWatching new starts ws t
facing_watching starts ls new ws t k w long facing others =
    let copies : AreSameCopies starts ls new = copies_next starts ls new k facing.order others in
    record {
      watches = watches_next starts ls new ws ws k w.watches long refl facing.order others (λ j x lt two h. w.watches.listed j x lt (omega (arith, two, copies.long j lt)) (sym (watched_next starts ls new k facing others j x lt) ∙ h)) w.watches.entries;
      plain = w.plain;
      guarded = guards_next ls new starts t.literals.items t.starts.items t.done copies (λ j x lt h. inl (sym (watched_next starts ls new k facing others j x lt) ∙ h)) w.guarded;
    }

-- nothing was added
pub grown_none : (starts : List ℕ) (ls new : List Literal) (ws : List (List Watch)) (t u : Trail) → AreWatching ls starts ws t → AreSameCopies starts ls new → u ≡ t → IsGrown ls starts new t u
grown_none starts ls new ws t u w copies same = record {
  copies = copies;
  forced = λ clauses held. subst (λ (v : Trail). AreForced clauses t.literals.items t.reasons.items v.literals.items v.reasons.items) (sym same) (forced_none clauses t.literals.items t.reasons.items w.plain.lengths);
  front = take_all (length t.literals.items) u.literals.items (omega (arith, ap (λ (v : Trail). length v.literals.items) same)) ∙ ap (λ (v : Trail). v.literals.items) same;
  levels = ap (λ (v : Trail). v.starts.items) same;
  balance = ap (λ (v : Trail). length v.literals.items + count_by not v.values.items) same;
}

-- the literal's list was passed to the next place; the clause at the place has a true literal, or is not watched here
passed_next : (starts : List ℕ) (ls new : List Literal) (ws : List (List Watch)) (t : List Literal) (f i k : ℕ) (v : Watch) → slice_get (list_at ws f) i ≡ Some v → v.clause ≡ k → AreSameCopies starts ls new → ((j : ℕ) → j + 1 < length starts → watched_at new starts j f ≡ true → watched_at ls starts j f ≡ true) → ((j : ℕ) → j + 1 < length starts → 2 ≤ length (copy ls starts j) → watched_at ls starts j f ≡ true → (names j (drop i (list_at ws f)) ≡ true) ⊎ HasTrue (set_of (copy ls starts j)) t) → (k + 1 < length starts → watched_at new starts k f ≡ true → HasTrue (set_of (copy new starts k)) t) → (j : ℕ) → j + 1 < length starts → 2 ≤ length (copy new starts j) → watched_at new starts j f ≡ true → (names j (drop (i + 1) (list_at ws f)) ≡ true) ⊎ HasTrue (set_of (copy new starts j)) t
passed_next starts ls new ws t f i k v is number copies watched passed here j lt long h = elim (passed j lt (omega (arith, long, copies.long j lt)) (watched j lt h)) [
  | inl named ↦ elim (names_step j (list_at ws f) i v is named) [
    | inl e ↦ inr (subst (λ (n : ℕ). HasTrue (set_of (copy new starts n)) t) (sym number ∙ e) (here (subst (λ (n : ℕ). n + 1 < length starts) (sym e ∙ number) lt) (subst (λ (n : ℕ). watched_at new starts n f ≡ true) (sym e ∙ number) h)))
    | inr rest ↦ inl rest
  ]
  | inr met ↦ inr (true_set (set_of (copy ls starts j)) (set_of (copy new starts j)) t (copies.same j lt) met)
]

-- the copy of the clause that a watch names was looked at
pub record IsLooked (starts : List ℕ) (ls new : List Literal) (ws : List (List Watch)) (t : Trail) (f i : ℕ) (v : Watch) : Type 0 where
  pub passing : IsPassing ls starts ws t f i
  pub is : slice_get (list_at ws f) i ≡ Some v
  pub long : length new ≡ length ls
  pub others : (j : ℕ) → j + 1 < length starts → j ≢ v.clause → copy new starts j ≡ copy ls starts j

true_at : (ls : List Literal) (starts : List ℕ) (ws : List (List Watch)) (t : Trail) (l : ℕ) → AreWatching ls starts ws t → at t.values.items l ≡ true → has l t.literals.items ≡ true
true_at ls starts ws t l w h = ap (λ (s : ℕ → Bool). s l) (sym w.plain.same) ∙ h

less_next : (ws : List Watch) (i : ℕ) (v : Watch) → slice_get ws i ≡ Some v → length ws - (i + 1) < length ws - i
less_next ws i v is = let lt : i < length ws = slice_get_within ws i v is in omega arith

-- the watch's literal is true
pub ahead_blocked : (starts : List ℕ) (ls : List Literal) (ws : List (List Watch)) (t : Trail) (f i : ℕ) (v : Watch) → IsPassing ls starts ws t f i → slice_get (list_at ws f) i ≡ Some v → at t.values.items v.blocker.0 ≡ true → IsAhead (list_at ws f) i ls starts ws t f (i + 1)
ahead_blocked starts ls ws t f i v p is holds = record {
  passing = record {
    watching = p.watching;
    next = p.next;
    denied = p.denied;
    passed = passed_next starts ls ls ws t.literals.items f i v.clause v is refl (same_copies starts ls) (λ j lt h. h) p.passed (λ lt h. record { literal = v.blocker.0; member = (p.watching.watches.entries f i v is).member; holds = true_at ls starts ws t v.blocker.0 p.watching holds });
  };
  less = less_next (list_at ws f) i v is;
}

-- the literals of so many watches are true
passing_run : (starts : List ℕ) (ls : List Literal) (ws : List (List Watch)) (t : Trail) (f i n : ℕ) → IsPassing ls starts ws t f i → i + n ≤ length (list_at ws f) → ((j : ℕ) (w : Watch) → i ≤ j → j < i + n → slice_get (list_at ws f) j ≡ Some w → at t.values.items w.blocker.0 ≡ true) → IsPassing ls starts ws t f (i + n)
passing_run starts ls ws t f i zero p le holds = let e : i ≡ i + 0 = omega arith in subst (IsPassing ls starts ws t f) e p
passing_run starts ls ws t f i (suc n) p le holds =
    let v : Watch = get_or (list_at ws f) (i + n) (record { clause = 0; blocker = record { 0 = 0 }; start = 0; end = 0 }) in
    let is : slice_get (list_at ws f) (i + n) ≡ Some v = slice_get-get_or (list_at ws f) (i + n) (record { clause = 0; blocker = record { 0 = 0 }; start = 0; end = 0 }) (omega arith) in
    let before : IsPassing ls starts ws t f (i + n) = passing_run starts ls ws t f i n p (omega arith) (λ j w past lt at_j. holds j w past (omega arith) at_j) in
    let e : i + n + 1 ≡ i + suc n = omega arith in
    subst (IsPassing ls starts ws t f) e ((ahead_blocked starts ls ws t f (i + n) v before is (holds (i + n) v (omega arith) (omega arith) is)).passing)

pub ahead_run : (starts : List ℕ) (ls : List Literal) (ws : List (List Watch)) (t : Trail) (f i next : ℕ) (v : Watch) → IsPassing ls starts ws t f i → slice_get (list_at ws f) i ≡ Some v → at t.values.items v.blocker.0 ≡ true → i + 1 ≤ next → next ≤ length (list_at ws f) → ((j : ℕ) (w : Watch) → i + 1 ≤ j → j < next → slice_get (list_at ws f) j ≡ Some w → at t.values.items w.blocker.0 ≡ true) → IsAhead (list_at ws f) i ls starts ws t f next
ahead_run starts ls ws t f i next v p is holds past le run =
    let one : IsAhead (list_at ws f) i ls starts ws t f (i + 1) = ahead_blocked starts ls ws t f i v p is holds in
    let e : i + 1 + (next - (i + 1)) ≡ next = omega arith in
    record {
      passing = subst (IsPassing ls starts ws t f) e (passing_run starts ls ws t f (i + 1) (next - (i + 1)) one.passing (omega arith) (λ j w from lt at_j. run j w from (omega arith) at_j));
      less = let lt : i < length (list_at ws f) = slice_get_within (list_at ws f) i v is in omega arith;
    }

-- the clause is not watched here
pub ahead_away : (starts : List ℕ) (ls new : List Literal) (ws : List (List Watch)) (t : Trail) (f i : ℕ) (v : Watch) → IsLooked starts ls new ws t f i v → IsAway f (copy ls starts v.clause) (copy new starts v.clause) → IsAhead (list_at ws f) i new starts ws t f (i + 1)
ahead_away starts ls new ws t f i v l a = record {
  passing = record {
    watching = facing_watching starts ls new ws t v.clause l.passing.watching l.long a.facing l.others;
    next = l.passing.next;
    denied = l.passing.denied;
    passed = passed_next starts ls new ws t.literals.items f i v.clause v l.is refl (copies_next starts ls new v.clause a.facing.order l.others) (λ j lt h. sym (watched_next starts ls new v.clause a.facing l.others j f lt) ∙ h) l.passing.passed (λ lt h. absurd (true≢false (sym h ∙ a.away)));
  };
  less = less_next (list_at ws f) i v l.is;
}

-- the trail grows by a literal that the copy of a clause forces
pub watching_push : (starts : List ℕ) (ls : List Literal) (ws : List (List Watch)) (t u : Trail) (k : ℕ) (x : Literal) → AreWatching ls starts ws t → k + 1 < length starts → IsForced (copy ls starts k) x.0 (set_of t.literals.items) → u.literals.items ≡ t.literals.items ++ x ∷ [] → u.reasons.items ≡ t.reasons.items ++ (k + 1) ∷ [] → u.values.items ≡ set t.values.items x.0 true → u.starts.items ≡ t.starts.items → u.done ≡ t.done → AreWatching ls starts ws u
watching_push starts ls ws t u k x w below forced literals reasons values levels done =
    let plain : IsPlain (length ws) (t.literals.items ++ x ∷ []) (t.reasons.items ++ (k + 1) ∷ []) t.starts.items (set t.values.items x.0 true) t.done = plain_push (length ws) t.literals.items t.reasons.items t.starts.items t.values.items t.done x (k + 1) w.plain (w.watches.high k x.0 below forced.others.member) (w.watches.low k x.0 below forced.others.member) forced.not_true forced.not_false in
    record {
      watches = w.watches;
      plain = rw (literals, reasons, values, levels, done) plain;
      guarded = rw (literals, levels, done) (guards_push ls starts t.literals.items t.starts.items t.done x w.plain.within w.plain.inside w.guarded);
    }

pub grown_push : (starts : List ℕ) (ls new : List Literal) (ws : List (List Watch)) (t u : Trail) (k : ℕ) (x : Literal) → AreWatching ls starts ws t → AreSameCopies starts ls new → k + 1 < length starts → IsForced (copy new starts k) x.0 (set_of t.literals.items) → u.literals.items ≡ t.literals.items ++ x ∷ [] → u.reasons.items ≡ t.reasons.items ++ (k + 1) ∷ [] → u.values.items ≡ set t.values.items x.0 true → u.starts.items ≡ t.starts.items → IsGrown ls starts new t u
grown_push starts ls new ws t u k x w copies below forced literals reasons values levels =
    let lt : x.0 < length ws = w.watches.high k x.0 below (ap (λ (g : ℕ → Bool). g x.0) (sym (copies.same k below)) ∙ forced.others.member) in
    record {
      copies = copies;
      forced = λ clauses held. rw (literals, reasons) (forced_push ls (copy new starts k) starts clauses k t.literals.items t.reasons.items x held below (copies.same k below) forced.others w.plain.lengths);
      front = ap (take (length t.literals.items)) literals ∙ take_at t.literals.items (x ∷ []) (length t.literals.items) refl;
      levels = levels;
      balance = omega (arith, ap length literals, length_push t.literals.items x, ap (count_by not) values, fewer_false t.values.items x.0 (omega (arith, w.plain.size, lt)) (ap (λ (s : ℕ → Bool). s x.0) w.plain.same ∙ forced.not_true));
    }

-- a literal is forced
pub ahead_forced : (starts : List ℕ) (ls new : List Literal) (ws : List (List Watch)) (t u : Trail) (f i : ℕ) (v : Watch) (x : Literal) → IsLooked starts ls new ws t f i v → IsLast x.0 (copy ls starts v.clause) (copy new starts v.clause) (at t.values.items) → u.literals.items ≡ t.literals.items ++ x ∷ [] → u.reasons.items ≡ t.reasons.items ++ (v.clause + 1) ∷ [] → u.values.items ≡ set t.values.items x.0 true → u.starts.items ≡ t.starts.items → u.done ≡ t.done → IsAhead (list_at ws f) i new starts ws u f (i + 1)
ahead_forced starts ls new ws t u f i v x l last literals reasons values levels done =
    let w : AreWatching new starts ws t = facing_watching starts ls new ws t v.clause l.passing.watching l.long last.facing l.others in
    let forced : IsForced (copy new starts v.clause) x.0 (set_of t.literals.items) = subst (IsForced (copy new starts v.clause) x.0) w.plain.same last.forced in
    let below : v.clause + 1 < length starts = (l.passing.watching.watches.entries f i v l.is).below in
    record {
      passing = record {
        watching = watching_push starts new ws t u v.clause x w below forced literals reasons values levels done;
        next = rw (literals, done) (omega (arith, l.passing.next, length_push t.literals.items x));
        denied = rw (literals, done) (ap opposite (ap (λ (z : Literal). z.0) (get_or_append_left t.literals.items (x ∷ []) (record { 0 = 0 }) t.done l.passing.next)) ∙ l.passing.denied);
        passed = rw literals (passed_next starts ls new ws (t.literals.items ++ x ∷ []) f i v.clause v l.is refl (copies_next starts ls new v.clause last.facing.order l.others) (λ j lt h. sym (watched_next starts ls new v.clause last.facing l.others j f lt) ∙ h) (λ j lt long h. elim (l.passing.passed j lt long h) [ inl named ↦ inl named | inr met ↦ inr (true_push (set_of (copy ls starts j)) t.literals.items x met) ]) (λ lt h. record { literal = x.0; member = forced.others.member; holds = has_push_new t.literals.items x }));
      };
      less = less_next (list_at ws f) i v l.is;
    }

pub grown_forced : (starts : List ℕ) (ls new : List Literal) (ws : List (List Watch)) (t u : Trail) (f i : ℕ) (v : Watch) (x : Literal) → IsLooked starts ls new ws t f i v → IsLast x.0 (copy ls starts v.clause) (copy new starts v.clause) (at t.values.items) → u.literals.items ≡ t.literals.items ++ x ∷ [] → u.reasons.items ≡ t.reasons.items ++ (v.clause + 1) ∷ [] → u.values.items ≡ set t.values.items x.0 true → u.starts.items ≡ t.starts.items → IsGrown ls starts new t u
grown_forced starts ls new ws t u f i v x l last literals reasons values levels =
    let forced : IsForced (copy new starts v.clause) x.0 (set_of t.literals.items) = subst (IsForced (copy new starts v.clause) x.0) l.passing.watching.plain.same last.forced in
    grown_push starts ls new ws t u v.clause x l.passing.watching (copies_next starts ls new v.clause last.facing.order l.others) (l.passing.watching.watches.entries f i v l.is).below forced literals reasons values levels

-- the clause is false
pub stopped : (starts : List ℕ) (ls new : List Literal) (ws : List (List Watch)) (t : Trail) (f i : ℕ) (v : Watch) → IsLooked starts ls new ws t f i v → IsLost (copy ls starts v.clause) (copy new starts v.clause) (at t.values.items) → IsStopped ls starts new ws t (v.clause + 1)
stopped starts ls new ws t f i v l lost = record {
  watching = facing_watching starts ls new ws t v.clause l.passing.watching l.long lost.facing l.others;
  conflict = λ clauses held. conflict_of ls (copy new starts v.clause) starts clauses v.clause (set_of t.literals.items) held (l.passing.watching.watches.entries f i v l.is).below lost.facing.order.same (subst (IsFalse (copy new starts v.clause)) l.passing.watching.plain.same lost.conflict);
}

-- a literal of it is true
pub ahead_met : (starts : List ℕ) (ls new : List Literal) (ws : List (List Watch)) (t : Trail) (f i : ℕ) (v w : Watch) → IsLooked starts ls new ws t f i v → IsMet w.blocker.0 (copy ls starts v.clause) (copy new starts v.clause) (at t.values.items) → w.clause ≡ v.clause → w.start ≡ v.start → w.end ≡ v.end → f < length ws → IsAhead (list_at ws f) i new starts (set ws f (set (list_at ws f) i w)) t f (i + 1)
ahead_met starts ls new ws t f i v w l met number start end lt =
    let next : List (List Watch) = set ws f (set (list_at ws f) i w) in
    let old : AreWatches ls starts ws = l.passing.watching.watches in
    let here : list_at next f ≡ set (list_at ws f) i w = list_same ws f (set (list_at ws f) i w) lt in
    let long : length (list_at next f) ≡ length (list_at ws f) = ap length here ∙ length-set (list_at ws f) i w in
    let same : AreWatching new starts ws t = facing_watching starts ls new ws t v.clause l.passing.watching l.long met.facing l.others in
    let rest : drop (i + 1) (list_at next f) ≡ drop (i + 1) (list_at ws f) = ap (drop (i + 1)) here ∙ drop-set-lt (i + 1) (list_at ws f) i w (omega arith) in
    let names_kept : (j x : ℕ) → names j (list_at next x) ≡ names j (list_at ws x) = λ j x. elim (cases_eq x f) [
      | inl e ↦ ap (λ (y : ℕ). names j (list_at next y)) e ∙ (ap (names j) here ∙ (names_set j (list_at ws f) i v w l.is number ∙ ap (λ (y : ℕ). names j (list_at ws y)) (sym e)))
      | inr away ↦ ap (names j) (list_other ws f x (set (list_at ws f) i w) away)
    ] in
    let entry_kept : IsEntry ls starts w = record { start = start ∙ ((old.entries f i v l.is).start ∙ ap (λ (n : ℕ). get_or starts n 0) (sym number)); end = end ∙ ((old.entries f i v l.is).end ∙ ap (λ (n : ℕ). get_or starts (n + 1) 0) (sym number)); below = subst (λ (n : ℕ). n + 1 < length starts) (sym number) (old.entries f i v l.is).below; long = subst (λ (n : ℕ). 2 ≤ length (copy ls starts n)) (sym number) (old.entries f i v l.is).long; member = subst (λ (n : ℕ). has w.blocker.0 (copy ls starts n) ≡ true) (sym number) (ap (λ (g : ℕ → Bool). g w.blocker.0) (sym met.facing.order.same) ∙ met.member) } in
    record {
      passing = record {
        watching = record {
          watches = watches_next starts ls new ws next v.clause old l.long (length-set ws f (set (list_at ws f) i w)) met.facing.order l.others (λ j x below two h. names_kept j x ∙ same.watches.listed j x below two h) (λ m j u is. elim (cases_eq m f) [
            | inl e ↦ elim (element_set (list_at ws f) i j w u (ap (λ (q : List Watch). slice_get q j) (sym here) ∙ (ap (λ (y : ℕ). slice_get (list_at next y) j) (sym e) ∙ is))) [ inl new_one ↦ subst (IsEntry ls starts) (sym new_one) entry_kept | inr before ↦ old.entries f j u before ]
            | inr away ↦ old.entries m j u (ap (λ (q : List Watch). slice_get q j) (sym (list_other ws f m (set (list_at ws f) i w) away)) ∙ is)
          ]);
          plain = rw (length-set ws f (set (list_at ws f) i w)) same.plain;
          guarded = same.guarded;
        };
        next = l.passing.next;
        denied = l.passing.denied;
        passed = λ j below two h. elim (passed_next starts ls new ws t.literals.items f i v.clause v l.is refl (copies_next starts ls new v.clause met.facing.order l.others) (λ k k_lt g. sym (watched_next starts ls new v.clause met.facing l.others k f k_lt) ∙ g) l.passing.passed (λ k_lt g. record { literal = w.blocker.0; member = met.member; holds = true_at ls starts ws t w.blocker.0 l.passing.watching met.holds }) j below two h) [
          | inl named ↦ inl (ap (names j) rest ∙ named)
          | inr holds ↦ inr holds
        ];
      };
      less = omega (arith, long, less_next (list_at ws f) i v l.is);
    }

-- it is watched at another literal now
pub ahead_moved : (starts : List ℕ) (ls new : List Literal) (ws : List (List Watch)) (t : Trail) (f i to : ℕ) (v w : Watch) → IsLooked starts ls new ws t f i v → IsMoved f to w.blocker.0 (copy ls starts v.clause) (copy new starts v.clause) (at t.values.items) → w.clause ≡ v.clause → w.start ≡ v.start → w.end ≡ v.end → f < length ws → to < length ws → to ≢ f → IsAhead (list_at ws f) i new starts (set (set ws to (list_at ws to ++ w ∷ [])) f (swap_remove (list_at ws f) i w)) t f i
ahead_moved starts ls new ws t f i to v w l moved number start end lt lt_to apart =
    let k : ℕ = v.clause in
    let old : AreWatches ls starts ws = l.passing.watching.watches in
    let mid : List (List Watch) = set ws to (list_at ws to ++ w ∷ []) in
    let next : List (List Watch) = set mid f (swap_remove (list_at ws f) i w) in
    let long_mid : length mid ≡ length ws = length-set ws to (list_at ws to ++ w ∷ []) in
    let long_next : length next ≡ length ws = length-set mid f (swap_remove (list_at ws f) i w) ∙ long_mid in
    let here : list_at next f ≡ swap_remove (list_at ws f) i w = list_same mid f (swap_remove (list_at ws f) i w) (omega (arith, long_mid)) in
    let there : (x : ℕ) → x ≢ f → x ≡ to → list_at next x ≡ list_at ws to ++ w ∷ [] = λ x away e. list_other mid f x (swap_remove (list_at ws f) i w) away ∙ (ap (list_at mid) e ∙ list_same ws to (list_at ws to ++ w ∷ []) lt_to) in
    let elsewhere : (x : ℕ) → x ≢ f → x ≢ to → list_at next x ≡ list_at ws x = λ x away far. list_other mid f x (swap_remove (list_at ws f) i w) away ∙ list_other ws to x (list_at ws to ++ w ∷ []) far in
    let within : i < length (list_at ws f) = slice_get_within (list_at ws f) i v l.is in
    let away_here : watched_at new starts k f ≡ true → ⊥ = λ h. elim (moved.watched f h) [ inl e ↦ apart (sym e) | inr both ↦ both.1 refl ] in
    let copies : AreSameCopies starts ls new = copies_next starts ls new k moved.order l.others in
    let watched_old : (j x : ℕ) → j + 1 < length starts → j ≢ k → watched_at new starts j x ≡ true → watched_at ls starts j x ≡ true = λ j x below other h. ap (λ (c : List Literal). has x (take 2 c)) (sym (l.others j below other)) ∙ h in
    let kept : (j x : ℕ) → x ≢ f → names j (list_at ws x) ≡ true → names j (list_at next x) ≡ true = λ j x away h. elim (cases_eq x to) [
      | inl e ↦ ap (names j) (there x away e) ∙ names_push_old j (list_at ws to) w (ap (λ (y : ℕ). names j (list_at ws y)) (sym e) ∙ h)
      | inr far ↦ ap (names j) (elsewhere x away far) ∙ h
    ] in
    let entry_new : IsEntry ls starts w = record { start = start ∙ ((old.entries f i v l.is).start ∙ ap (λ (n : ℕ). get_or starts n 0) (sym number)); end = end ∙ ((old.entries f i v l.is).end ∙ ap (λ (n : ℕ). get_or starts (n + 1) 0) (sym number)); below = subst (λ (n : ℕ). n + 1 < length starts) (sym number) (old.entries f i v l.is).below; long = subst (λ (n : ℕ). 2 ≤ length (copy ls starts n)) (sym number) (old.entries f i v l.is).long; member = subst (λ (n : ℕ). has w.blocker.0 (copy ls starts n) ≡ true) (sym number) (ap (λ (g : ℕ → Bool). g w.blocker.0) (sym moved.order.same) ∙ moved.second) } in
    record {
      passing = record {
        watching = record {
          watches = watches_next starts ls new ws next k old l.long long_next moved.order l.others (λ j x below two h. elim (cases_eq x f) [
            | inl e ↦
                let other : j ≢ k = λ q. away_here (subst (λ (n : ℕ). watched_at new starts n f ≡ true) q (ap (watched_at new starts j) (sym e) ∙ h)) in
                let named : names j (list_at ws f) ≡ true = old.listed j f below (omega (arith, two, copies.long j below)) (watched_old j f below other (ap (watched_at new starts j) (sym e) ∙ h)) in
                ap (λ (y : ℕ). names j (list_at next y)) e ∙ (ap (names j) here ∙ names_removed j (list_at ws f) 0 i w v (omega arith) l.is (λ q. other (sym q)) named)
            | inr away ↦ elim (cases_eq j k) [
              | inl e ↦ elim (moved.watched x (subst (λ (n : ℕ). watched_at new starts n x ≡ true) e h)) [
                | inl at_to ↦ ap (names j) (there x away at_to) ∙ (ap (λ (n : ℕ). names n (list_at ws to ++ w ∷ [])) (e ∙ sym number) ∙ names_push_new (list_at ws to) w)
                | inr both ↦ kept j x away (old.listed j x below (omega (arith, two, copies.long j below)) (subst (λ (n : ℕ). watched_at ls starts n x ≡ true) (sym e) both.0))
              ]
              | inr other ↦ kept j x away (old.listed j x below (omega (arith, two, copies.long j below)) (watched_old j x below other h))
            ]
          ]) (λ m j u is. elim (cases_eq m f) [
            | inl e ↦ let n : IsIn (list_at ws f) u = element_removed (list_at ws f) i j w u within (ap (λ (q : List Watch). slice_get q j) (sym here) ∙ (ap (λ (y : ℕ). slice_get (list_at next y) j) (sym e) ∙ is)) in old.entries f n.place u n.is
            | inr away ↦ elim (cases_eq m to) [
              | inl e ↦ elim (get_push (list_at ws to) w j u (ap (λ (q : List Watch). slice_get q j) (sym (there m away e)) ∙ is)) [ inl before ↦ old.entries to j u before | inr last ↦ subst (IsEntry ls starts) (sym last.1) entry_new ]
              | inr far ↦ old.entries m j u (ap (λ (q : List Watch). slice_get q j) (sym (elsewhere m away far)) ∙ is)
            ]
          ]);
          plain = rw long_next l.passing.watching.plain;
          guarded = guards_next ls new starts t.literals.items t.starts.items t.done copies (λ j x below h. elim (cases_eq j k) [
            | inl e ↦ elim (moved.watched x (subst (λ (n : ℕ). watched_at new starts n x ≡ true) e h)) [
              | inl at_to ↦ inr (ap (λ (s : ℕ → Bool). s (opposite x)) (sym l.passing.watching.plain.same) ∙ (ap (λ (y : ℕ). at t.values.items (opposite y)) at_to ∙ moved.free))
              | inr both ↦ inl (subst (λ (n : ℕ). watched_at ls starts n x ≡ true) (sym e) both.0)
            ]
            | inr other ↦ inl (watched_old j x below other h)
          ]) l.passing.watching.guarded;
        };
        next = l.passing.next;
        denied = l.passing.denied;
        passed = λ j below two h.
            let other : j ≢ k = λ q. away_here (subst (λ (n : ℕ). watched_at new starts n f ≡ true) q h) in
            elim (l.passing.passed j below (omega (arith, two, copies.long j below)) (watched_old j f below other h)) [
              | inl named ↦ inl (ap (λ (q : List Watch). names j (drop i q)) here ∙ names_removed j (list_at ws f) i i w v (omega arith) l.is (λ q. other (sym q)) named)
              | inr holds ↦ inr (true_set (set_of (copy ls starts j)) (set_of (copy new starts j)) t.literals.items (copies.same j below) holds)
            ];
      };
      less = omega (arith, ap length here, removed_length (list_at ws f) i w, within);
    }

-- the literal of the list is false
pub denied_now : (starts : List ℕ) (ls : List Literal) (ws : List (List Watch)) (t : Trail) (f i : ℕ) → IsPassing ls starts ws t f i → at t.values.items (opposite f) ≡ true
denied_now starts ls ws t f i p =
    let here : opposite f ≡ literal_at t.literals.items t.done = ap opposite (sym p.denied) ∙ opposite_back (literal_at t.literals.items t.done) in
    ap (λ (s : ℕ → Bool). s (opposite f)) p.watching.plain.same ∙ (ap (λ (k : ℕ). has k t.literals.items) here ∙ has_get_or t.literals.items t.done (record { 0 = 0 }) p.next)

pub moved_apart : (starts : List ℕ) (ls : List Literal) (ws : List (List Watch)) (t : Trail) (f i to : ℕ) → IsPassing ls starts ws t f i → at t.values.items (opposite to) ≡ false → to ≢ f
moved_apart starts ls ws t f i to p free e = true≢false (sym (denied_now starts ls ws t f i p) ∙ (ap (λ (k : ℕ). at t.values.items (opposite k)) (sym e) ∙ free))

-- a literal of the copy that was looked at has a list
pub listed_below : (starts : List ℕ) (ls new : List Literal) (ws : List (List Watch)) (t : Trail) (f i l : ℕ) (v : Watch) → IsPassing ls starts ws t f i → slice_get (list_at ws f) i ≡ Some v → IsReordered (copy ls starts v.clause) (copy new starts v.clause) → has l (copy new starts v.clause) ≡ true → l < length ws
listed_below starts ls new ws t f i l v p is order h = p.watching.watches.high v.clause l (p.watching.watches.entries f i v is).below (ap (λ (g : ℕ → Bool). g l) (sym order.same) ∙ h)

-- the copies hold the same clauses
pub held_next : (starts : List ℕ) (ls new : List Literal) (clauses : List (List Literal)) → AreSameCopies starts ls new → AreHeld ls starts clauses → AreHeld new starts clauses
held_next starts ls new clauses copies held = record { count = held.count; same = λ k c is. copies.same k (omega (arith, held.count, slice_get_within clauses k c is)) ∙ held.same k c is }

-- one part of propagation after another
pub grown_more : (starts : List ℕ) (ls mid new : List Literal) (t u v : Trail) → length u.reasons.items ≡ length u.literals.items → IsGrown ls starts mid t u → IsGrown mid starts new u v → IsGrown ls starts new t v
grown_more starts ls mid new t u v lengths a b = record {
  copies = record { same = λ k lt. b.copies.same k lt ∙ a.copies.same k lt; long = λ k lt. b.copies.long k lt ∙ a.copies.long k lt };
  forced = λ clauses held. forced_more clauses t.literals.items u.literals.items v.literals.items t.reasons.items u.reasons.items v.reasons.items lengths (a.forced clauses held) (b.forced clauses (held_next starts ls mid clauses a.copies held));
  front = front_more t.literals.items u.literals.items v.literals.items a.front b.front;
  levels = b.levels ∙ a.levels;
  balance = b.balance ∙ a.balance;
}

pub stopped_more : (starts : List ℕ) (ls mid new : List Literal) (ws : List (List Watch)) (t u v : Trail) (k : ℕ) → IsGrown ls starts mid t u → IsStopped mid starts new ws v k → IsStopped ls starts new ws v k
stopped_more starts ls mid new ws t u v k a s = record { watching = s.watching; conflict = λ clauses held. s.conflict clauses (held_next starts ls mid clauses a.copies held) }

-- at the end of the list
pub through : (starts : List ℕ) (ls : List Literal) (ws : List (List Watch)) (t : Trail) (f i : ℕ) → length (list_at ws f) ≤ i → IsPassing ls starts ws t f i → IsThrough ls starts ws t f
through starts ls ws t f i end p = record {
  watching = p.watching;
  next = p.next;
  denied = p.denied;
  met = λ k lt long h. elim (p.passed k lt long h) [ inl named ↦ absurd (true≢false (sym named ∙ ap (names k) (drop_all i (list_at ws f) end))) | inr met ↦ met ];
}

-- the next literal is propagated
pub next_done : (starts : List ℕ) (ls : List Literal) (ws : List (List Watch)) (t u : Trail) (f : ℕ) → IsThrough ls starts ws t f → u.literals.items ≡ t.literals.items → u.reasons.items ≡ t.reasons.items → u.starts.items ≡ t.starts.items → u.values.items ≡ t.values.items → u.done ≡ t.done + 1 → AreWatching ls starts ws u
next_done starts ls ws t u f p literals reasons levels values done = record {
  watches = p.watching.watches;
  plain = rw (literals, reasons, values, levels, done) (record { size = p.watching.plain.size; same = p.watching.plain.same; apart = p.watching.plain.apart; once = p.watching.plain.once; named = p.watching.plain.named; lengths = p.watching.plain.lengths; inside = p.watching.plain.inside; within = omega (arith, p.next) });
  guarded = rw (literals, levels, done) (record { each = λ k x lt long h. guard_more (set_of (copy ls starts k)) x t.literals.items t.starts.items t.done p.next (λ e. p.met k lt long (subst (λ (y : ℕ). watched_at ls starts k y ≡ true) (e ∙ p.denied) h)) (p.watching.guarded.each k x lt long h) });
}

-- the opposite of a trail's literal has a list
pub opposite_below : (n l : ℕ) → n % 2 ≡ 0 → l < n → opposite l < n
unfolding opposite
opposite_below n l even lt = omega arith

pub next_below : (starts : List ℕ) (ls : List Literal) (ws : List (List Watch)) (t : Trail) → AreWatching ls starts ws t → t.done < length t.literals.items → opposite (literal_at t.literals.items t.done) < length ws
next_below starts ls ws t w lt =
    let holds : at t.values.items (literal_at t.literals.items t.done) ≡ true = ap (λ (s : ℕ → Bool). s (literal_at t.literals.items t.done)) w.plain.same ∙ has_get_or t.literals.items t.done (record { 0 = 0 }) lt in
    opposite_below (length ws) (literal_at t.literals.items t.done) w.watches.even (elim (cases_lt (literal_at t.literals.items t.done) (length ws)) [
      | inl below ↦ below
      | inr past ↦ absurd (true≢false (sym holds ∙ get_or_past t.values.items (literal_at t.literals.items t.done) false (omega (arith, w.plain.size))))
    ])

-- a short clause that is quiet has a true literal
pub short_true : (c t : List Literal) → length c ≤ 1 → IsQuiet c (set_of t) → HasTrue (set_of c) t
short_true [] t short q = absurd (q.not_false (record { each = λ m h. absurd (true≢false (sym h)) }))
short_true (x ∷ []) t short q =
    let here : has x.0 (x ∷ []) ≡ true = or_left (eqb x.0 x.0) false (eq-eqb x.0 x.0 refl) in
    let only : (m : ℕ) → has m (x ∷ []) ≡ true → m ≡ x.0 = λ m h. elim (or_cases (eqb x.0 m) false h) [ inl e ↦ sym (eqb-true x.0 m e) | inr none ↦ absurd (true≢false (sym none)) ] in
    record { literal = x.0; member = here; holds = q.unit x.0 (record { member = here; others = λ m h away. absurd (away (only m h)) }) }
short_true (x ∷ y ∷ c) t short q = absurd (omega arith)

-- one number more
among_push : (k m : ℕ) (xs : List ℕ) → among k (xs ++ m ∷ []) ≡ true → (among k xs ≡ true) ⊎ (m ≡ k)
among_push k m [] h = elim (or_cases (eqb m k) false h) [ inl e ↦ inr (eqb-true m k e) | inr none ↦ absurd (true≢false (sym none)) ]
among_push k m (x ∷ xs) h = elim (or_cases (eqb x k) (among k (xs ++ m ∷ [])) h) [
  | inl here ↦ inl (or_left (eqb x k) (among k xs) here)
  | inr later ↦ elim (among_push k m xs later) [ inl old ↦ inl (or_right (eqb x k) (among k xs) old) | inr e ↦ inr e ]
]

pub true_none : (ls : List Literal) (starts : List ℕ) (t : List Literal) → AreTrue ls starts [] t
true_none ls starts t = record { each = λ k h. absurd (true≢false (sym h)) }

pub true_more : (ls : List Literal) (starts short : List ℕ) (t : List Literal) (i : ℕ) → i < length short → AreTrue ls starts (take i short) t → HasTrue (set_of (copy ls starts (get_or short i 0))) t → AreTrue ls starts (take (i + 1) short) t
true_more ls starts short t i lt old here = record {
  each = λ k h. elim (among_push k (get_or short i 0) (take i short) (ap (among k) (sym (take_more short i 0 lt)) ∙ h)) [
    | inl before ↦ old.each k before
    | inr e ↦ subst (λ (n : ℕ). HasTrue (set_of (copy ls starts n)) t) e here
  ];
}

pub true_grows : (ls : List Literal) (starts short : List ℕ) (t : List Literal) (x : Literal) → AreTrue ls starts short t → AreTrue ls starts short (t ++ x ∷ [])
true_grows ls starts short t x old = record { each = λ k h. true_push (set_of (copy ls starts k)) t x (old.each k h) }
