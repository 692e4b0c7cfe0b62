-- Watches as a whole: what propagation leaves of them and of the trail.
use Rattle.std.proofs.Common.{◌≡◌, ℕ, zero, suc, ◌+◌, ◌<◌, ◌≤◌, ◌⊎◌, Bool, true, not, eqb, List, [], ◌∷◌, ◌++◌, length, take, drop, get_or, Option, None, Some, slice_get, refl, ap, ◌∙◌, sym, subst, inl, inr, arith, true≢false, add-one, length-take}
use Rattle.std.specs.List.{count_by}
use Rattle.std.proofs.lemmas.Bool.{cases_lt, or_cases, eqb-true}
use Rattle.std.proofs.lemmas.Option.{slice_get_within, slice_get-get_or}
use Rattle.std.proofs.lemmas.List.{take_all, take_more, take-take, take-append-drop}
use Rattle.std.proofs.lemmas.List.Folds.{list_any-append}
use Rattle.lemma_checker.specs.declared.literal.Literal.{Literal}
use Rattle.lemma_checker.specs.Clauses.{has, set_of}
use Rattle.lemma_checker.specs.Propagation.{AreOthersFalse, IsInEachClosed}
use Rattle.watch_lists.specs.declared.watch.Watch.{Watch}
use Rattle.watch_lists.specs.declared.trail.Trail.{Trail}
use Rattle.watch_lists.specs.declared.watches.Watches.{Watches}
use Rattle.watch_lists.specs.Trails.{IsSettled, IsTrail}
use Rattle.watch_lists.specs.Scans.{IsTrailOf, ToldIs}
use Rattle.watch_lists.specs.Watching.{copy, lists_of, among, AreShort, AreHeld, AreForced, IsReason, IsPlain}
use Rattle.watch_lists.specs.Visits.{AreWatching, AreSameCopies, IsGrown, AreTrue, AreBrief, RanIs}
use Rattle.watch_lists.specs.Watches.{Holds, Fits}
use Rattle.watch_lists.proofs.Lists.{get_take, has_longer}
use Rattle.watch_lists.proofs.TrailLemmas.{least_push}
use Rattle.watch_lists.proofs.GuardLemmas.{true_set, true_longer, quiet_true, quiet_watched, quiet_set}
use Rattle.watch_lists.proofs.VisitLemmas.{held_next}

-- propagation along all lists has nothing left to do
pub settled_all : (starts : List ℕ) (ls : List Literal) (ws : List (List Watch)) (short : List ℕ) (t : Trail) (clauses : List (List Literal)) → AreWatching ls starts ws t → t.done ≡ length t.literals.items → AreShort ls starts short → AreTrue ls starts short t.literals.items → AreHeld ls starts clauses → IsSettled clauses (set_of t.literals.items)
settled_all starts ls ws short t clauses w all brief met held = record {
  apart = w.plain.apart;
  quiet = λ k c is.
      let lt : k + 1 < length starts = omega (arith, held.count, slice_get_within clauses k c is) in
      quiet_set (copy ls starts k) c (set_of t.literals.items) (sym (held.same k c is)) (elim (cases_lt (length (copy ls starts k)) 2) [
        | inl few ↦ quiet_true (copy ls starts k) t.literals.items w.plain.apart (met.each k (brief.listed k lt (omega arith)))
        | inr long ↦ quiet_watched (copy ls starts k) t.literals.items t.starts.items t.done all (w.watches.two k lt long) w.plain.apart (λ x h. w.guarded.each k x lt long h)
      ]);
}

pub told_of : (o : Option ℕ) (starts : List ℕ) (old ls : List Literal) (ws : List (List Watch)) (short : List ℕ) (t : Trail) (clauses : List (List Literal)) → RanIs o old starts ls ws t → AreShort ls starts short → AreTrue ls starts short t.literals.items → AreSameCopies starts old ls → AreHeld old starts clauses → ToldIs o clauses (set_of t.literals.items)
told_of None starts old ls ws short t clauses ran brief met copies held = settled_all starts ls ws short t clauses ran.watching ran.all brief met (held_next starts old ls clauses copies held)
told_of (Some k) starts old ls ws short t clauses ran brief met copies held = ran.conflict clauses held

-- the watches stay in order, whatever was told
pub watching_of : (o : Option ℕ) (starts : List ℕ) (old ls : List Literal) (ws : List (List Watch)) (t : Trail) → RanIs o old starts ls ws t → AreWatching ls starts ws t
watching_of None starts old ls ws t ran = ran.watching
watching_of (Some k) starts old ls ws t ran = ran.watching

-- short clauses, where copies change their order
pub short_next : (starts : List ℕ) (ls new : List Literal) (short : List ℕ) → AreSameCopies starts ls new → AreShort ls starts short → AreShort new starts short
short_next starts ls new short copies s = record {
  listed = λ k lt few. s.listed k lt (omega (arith, few, copies.long k lt));
  entries = λ j k is. let e : (k + 1 < length starts) × (length (copy ls starts k) ≤ 1) = s.entries j k is in (e.0, omega (arith, e.1, copies.long k e.0));
}

-- the short clauses from a place on
pub brief_from : (starts : List ℕ) (ls : List Literal) (short : List ℕ) (i : ℕ) → AreShort ls starts short → AreBrief ls starts (drop i short)
brief_from starts ls short i s = record { each = λ j k is. s.entries (i + j) k (ap (λ (xs : List ℕ). slice_get xs (i + j)) refl ∙ (drop_get short i j ∙ is)) }
  where
    drop_get : (xs : List ℕ) (i j : ℕ) → slice_get xs (i + j) ≡ slice_get (drop i xs) j
    drop_get xs zero j = let e : zero + j ≡ j = omega arith in ap (slice_get xs) e
    drop_get [] (suc i) j = let e : suc i + j ≡ suc (i + j) = omega arith in ap (slice_get []) e
    drop_get (x ∷ xs) (suc i) j = let e : suc i + j ≡ suc (i + j) = omega arith in ap (slice_get (x ∷ xs)) e ∙ drop_get xs i j

-- those before it and those from it on
pub true_all : (starts : List ℕ) (ls : List Literal) (short : List ℕ) (t : List Literal) (i : ℕ) → AreTrue ls starts (take i short) t → AreTrue ls starts (drop i short) t → AreTrue ls starts short t
true_all starts ls short t i before after = record {
  each = λ k h. elim (or_cases (among k (take i short)) (among k (drop i short)) (sym (list_any-append (λ m. eqb m k) (take i short) (drop i short)) ∙ (ap (among k) (take-append-drop i short) ∙ h))) [ inl b ↦ before.each k b | inr a ↦ after.each k a ];
}

pub true_next : (starts : List ℕ) (ls new : List Literal) (short : List ℕ) (t u : List Literal) → AreSameCopies starts ls new → AreShort ls starts short → take (length t) u ≡ t → AreTrue ls starts short t → AreTrue new starts short u
true_next starts ls new short t u copies s front met = record {
  each = λ k h. true_longer (set_of (copy new starts k)) t u front (true_set (set_of (copy ls starts k)) (set_of (copy new starts k)) t (copies.same k (among_below k short s h)) (met.each k h));
}
  where
    find : (k : ℕ) (xs : List ℕ) → among k xs ≡ true → (j : ℕ) × (slice_get xs j ≡ Some k)
    find k [] h = absurd (true≢false (sym h))
    find k (x ∷ xs) h = elim (or_cases (eqb x k) (among k xs) h) [ inl e ↦ (0, ap (λ (y : ℕ). Some y) (eqb-true x k e)) | inr later ↦ let r : (j : ℕ) × (slice_get xs j ≡ Some k) = find k xs later in (suc r.0, r.1) ]

    among_below : (k : ℕ) (xs : List ℕ) → AreShort ls starts xs → among k xs ≡ true → k + 1 < length starts
    among_below k xs s h = let r : (j : ℕ) × (slice_get xs j ≡ Some k) = find k xs h in (s.entries r.0 k r.1).0

-- the trail with forced literals is a trail
pub trail_forced : (n : ℕ) (cs : List (List Literal)) (t u : List Literal) (rs us ss : List ℕ) (vs ws : List Bool) (d : ℕ) → IsTrail n cs t rs ss vs → AreForced cs t rs u us → IsPlain n u us ss ws d → IsTrail n cs u us ss ws
trail_forced n cs t u rs us ss vs ws d tr f p =
    let shorter : length t ≤ length u = omega (arith, ap length f.front, length-take (length t) u) in
    let early_reason : (q k : ℕ) → q < length t → slice_get us q ≡ Some k → slice_get rs q ≡ Some k = λ q k lt is. ap (λ (z : List ℕ). slice_get z q) (sym f.known) ∙ get_take (length t) us q k lt is in
    let literal : (q : ℕ) → q < length us → slice_get u q ≡ Some (get_or u q (record { 0 = 0 })) = λ q lt. slice_get-get_or u q (record { 0 = 0 }) (omega (arith, p.lengths)) in
    let reason : (q k : ℕ) → length t ≤ q → slice_get us q ≡ Some k → IsReason cs k (get_or u q (record { 0 = 0 })).0 (set_of (take q u)) = λ q k late is. f.each q k (get_or u q (record { 0 = 0 })) late (literal q (slice_get_within us q k is)) is in
    record {
      size = p.size;
      same = p.same;
      apart = p.apart;
      lengths = p.lengths;
      once = p.once;
      named = p.named;
      known = λ q k is. elim (cases_lt q (length t)) [
        | inl early ↦ tr.known q k (early_reason q k early is)
        | inr late ↦ known_of k (reason q k late is)
      ];
      chosen = λ q is. elim (cases_lt q (length t)) [
        | inl early ↦ tr.chosen q (early_reason q 0 early is)
        | inr late ↦ absurd (omega (arith, (reason q 0 late is).some))
      ];
      given = λ q k x c at_q at_reason at_clause. elim (cases_lt q (length t)) [
        | inl early ↦
            let in_t : slice_get t q ≡ Some x = ap (λ (z : List Literal). slice_get z q) (sym f.front) ∙ get_take (length t) u q x early at_q in
            let same : take q t ≡ take q u = ap (take q) (sym f.front) ∙ take-take q (length t) u (omega arith) in
            subst (λ (z : List Literal). AreOthersFalse c x.0 (set_of z)) same (tr.given q k x c in_t (early_reason q k early at_reason) at_clause)
        | inr late ↦ let r : IsReason cs k x.0 (set_of (take q u)) = f.each q k x late at_q at_reason in subst (λ (z : List Literal). AreOthersFalse z x.0 (set_of (take q u))) (same_some r.clause c (sym r.is ∙ at_clause)) r.others
      ];
      inside = λ i a is. omega (arith, tr.inside i a is, shorter);
      rising = tr.rising;
      settled = λ i a is. subst (λ (z : List Literal). IsSettled cs (set_of z)) (ap (take a) (sym f.front) ∙ take-take a (length t) u (omega (arith, tr.inside i a is))) (tr.settled i a is);
    }
  where
    same_some : (x y : List Literal) → Some x ≡ Some y → x ≡ y
    same_some x y e = cc

    known_of : {l : ℕ} {s : ℕ → Bool} (k : ℕ) → IsReason cs k l s → k ≤ length cs
    known_of zero r = omega arith
    known_of (suc k) r = omega (arith, slice_get_within cs k r.clause r.is)

-- the forced literals are in each closed set
pub least_forced : (cs : List (List Literal)) (t u : List Literal) (rs us : List ℕ) → length us ≡ length u → AreForced cs t rs u us → IsInEachClosed cs (set_of t) (set_of u)
least_forced cs t u rs us lengths f = subst (λ (z : List Literal). IsInEachClosed cs (set_of t) (set_of z)) (take_all (length u) u (omega arith)) (upto (length u) (omega arith))
  where
    base : IsInEachClosed cs (set_of t) (set_of (take (length t) u))
    base = record { inside = λ s closed l h. closed.start l (ap (has l) (sym f.front) ∙ h) }

    upto : (n : ℕ) → n ≤ length u → IsInEachClosed cs (set_of t) (set_of (take n u))
    upto zero le = record { inside = λ s closed l h. absurd (true≢false (sym h)) }
    upto (suc n) le = elim (cases_lt n (length t)) [
      | inl early ↦ record { inside = λ s closed l h. closed.start l (ap (has l) (sym f.front) ∙ has_longer (suc n) (length t) u l (omega arith) h) }
      | inr late ↦
          let x : Literal = get_or u n (record { 0 = 0 }) in
          let is : slice_get u n ≡ Some x = slice_get-get_or u n (record { 0 = 0 }) (omega arith) in
          let why : slice_get us n ≡ Some (get_or us n 0) = slice_get-get_or us n 0 (omega (arith, lengths)) in
          let r : IsReason cs (get_or us n 0) x.0 (set_of (take n u)) = f.each n (get_or us n 0) x late is why in
          let more : take (suc n) u ≡ take n u ++ x ∷ [] = ap (λ (k : ℕ). take k u) (sym (add-one n)) ∙ take_more u n (record { 0 = 0 }) (omega arith) in
          subst (λ (z : List Literal). IsInEachClosed cs (set_of t) (set_of z)) (sym more) (least_push cs (set_of t) (take n u) x (get_or us n 0) r.clause (upto n (omega arith)) r.is r.others)
    ]

-- the trail still fits the watches that it fitted, where short clauses gave literals
pub fits_short : (w : Watches) (t u : Trail) → Fits w t → AreWatching w.literals.items w.starts.items (lists_of w.lists.items) u → IsGrown w.literals.items w.starts.items w.literals.items t u → u.done ≡ t.done → Fits w u
fits_short w t u f watching grown done = record {
  watching = watching;
  short = f.short;
  looked = f.looked;
  met = record { each = λ k some h. true_longer (set_of (copy w.literals.items w.starts.items k)) t.literals.items u.literals.items grown.front (f.met.each k (omega (arith, some, done)) h) };
}

-- and where copies changed their order and lists changed
pub fits_next : (w v : Watches) (new : List Literal) (lists : List (List Watch)) (t u : Trail) → v.literals.items ≡ new → lists_of v.lists.items ≡ lists → v.starts.items ≡ w.starts.items → v.short.items ≡ w.short.items → v.looked ≡ length w.short.items → AreShort w.literals.items w.starts.items w.short.items → AreTrue w.literals.items w.starts.items w.short.items t.literals.items → IsGrown w.literals.items w.starts.items new t u → AreWatching new w.starts.items lists u → Fits v u
fits_next w v new lists t u literals at_lists starts short looked brief met grown watching =
    let true_now : AreTrue new w.starts.items w.short.items u.literals.items = true_next w.starts.items w.literals.items new w.short.items t.literals.items u.literals.items grown.copies brief grown.front met in
    let brief_now : AreShort new w.starts.items w.short.items = short_next w.starts.items w.literals.items new w.short.items grown.copies brief in
    record {
      watching = rw (literals, starts, at_lists) watching;
      short = rw (literals, starts, short) brief_now;
      looked = omega (arith, looked, ap length short);
      met = rw (literals, starts, short, looked) (record { each = λ k some h. true_now.each k (ap (among k) (sym (take_all (length w.short.items) w.short.items (omega arith))) ∙ h) });
    }

-- the same clauses stand in the watches
pub holds_next : (w v : Watches) (new : List Literal) (vars : ℕ) (clauses : List (List Literal)) (t u : Trail) → Fits v u → length v.lists.items ≡ length w.lists.items → v.literals.items ≡ new → v.starts.items ≡ w.starts.items → IsGrown w.literals.items w.starts.items new t u → Holds w vars clauses → Holds v vars clauses
holds_next w v new vars clauses t u fits size literals starts grown h = record {
  size = size ∙ h.size;
  sound = record { watches = fits.watching.watches; short = fits.short; looked = fits.looked };
  held = rw (literals, starts) (held_next w.starts.items w.literals.items new clauses grown.copies h.held);
}

pub trail_next : (n : ℕ) (cs : List (List Literal)) (t s : Trail) → IsTrailOf cs t → AreForced cs t.literals.items t.reasons.items s.literals.items s.reasons.items → s.starts.items ≡ t.starts.items → length t.values.items ≡ n → IsPlain n s.literals.items s.reasons.items s.starts.items s.values.items s.done → IsTrailOf cs s
trail_next n cs t s tr f levels size p =
    let same : length t.values.items ≡ length s.values.items = size ∙ sym p.size in
    let tr_s : IsTrail (length s.values.items) cs t.literals.items t.reasons.items s.starts.items t.values.items = subst (λ (ss : List ℕ). IsTrail (length s.values.items) cs t.literals.items t.reasons.items ss t.values.items) (sym levels) (subst (λ (m : ℕ). IsTrail m cs t.literals.items t.reasons.items t.starts.items t.values.items) same tr) in
    let p_s : IsPlain (length s.values.items) s.literals.items s.reasons.items s.starts.items s.values.items s.done = subst (λ (m : ℕ). IsPlain m s.literals.items s.reasons.items s.starts.items s.values.items s.done) (sym p.size) p in
    trail_forced (length s.values.items) cs t.literals.items s.literals.items t.reasons.items s.reasons.items s.starts.items t.values.items s.values.items s.done tr_s f p_s

-- the short clauses are all true, once those were looked at that had to be
pub short_all : (w : Watches) (t s : Trail) (from : ℕ) → Fits w t → IsGrown w.literals.items w.starts.items w.literals.items t s → ((from ≡ 0) ⊎ ((from ≡ w.looked) × (0 < t.done))) → AreTrue w.literals.items w.starts.items (drop from w.short.items) s.literals.items → AreTrue w.literals.items w.starts.items w.short.items s.literals.items
short_all w t s from f grown why met = elim why [
  | inl e ↦ subst (λ (n : ℕ). AreTrue w.literals.items w.starts.items (drop n w.short.items) s.literals.items) e met
  | inr both ↦
      let before : AreTrue w.literals.items w.starts.items (take from w.short.items) s.literals.items = record { each = λ k h. true_longer (set_of (copy w.literals.items w.starts.items k)) t.literals.items s.literals.items grown.front (f.met.each k both.1 (subst (λ (n : ℕ). among k (take n w.short.items) ≡ true) both.0 h)) } in
      true_all w.starts.items w.literals.items w.short.items s.literals.items from before met
]

-- as many values become true as literals are added
pub grown_fewer : (starts : List ℕ) (ls new : List Literal) (t u : Trail) → IsGrown ls starts new t u → count_by not u.values.items ≤ count_by not t.values.items
grown_fewer starts ls new t u g = omega (arith, g.balance, ap length g.front, length-take (length t.literals.items) u.literals.items)
