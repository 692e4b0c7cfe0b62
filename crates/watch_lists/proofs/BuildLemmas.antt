-- Watches with a clause more.
use Rattle.std.proofs.Common.{◌≡◌, ◌≢◌, ℕ, zero, suc, ◌+◌, ◌-◌, ◌*◌, ◌^◌, ◌%◌, ◌<◌, ◌≤◌, ◌⊎◌, Bool, true, false, not, ◌&&◌, ◌||◌, eqb, List, [], ◌∷◌, ◌++◌, length, take, drop, get_or, set, replicate, Some, slice_get, refl, ap, ◌∙◌, sym, subst, inl, inr, arith, true≢false, length-set, length-append, eq-eqb}
use Rattle.std.specs.List.{filter, between}
use Rattle.std.proofs.lemmas.Bool.{cases_eq, cases_lt, or_cases, or_left, or_right, eqb-true, ne_eqb}
use Rattle.std.proofs.lemmas.Option.{slice_get_within, get_or_from_slice_get}
use Rattle.std.proofs.lemmas.List.{take-append-le, take_all, take_more, drop_at, get_or_append_left, get_or_push, length_push, get_or-replicate, length-replicate, get_or_past}
use Rattle.std.proofs.lemmas.Slice.{between_is}
use Rattle.lemma_checker.specs.declared.literal.Literal.{Literal}
use Rattle.lemma_checker.specs.Clauses.{has, set_of, AreDistinct}
use Rattle.lemma_checker.proofs.ListLemmas.{get_push}
use Rattle.watch_lists.specs.declared.watch.Watch.{Watch}
use Rattle.watch_lists.specs.declared.trail.Trail.{Trail}
use Rattle.watch_lists.specs.declared.watches.Watches.{Watches}
use Rattle.watch_lists.specs.Watching.{copy, lists_of, list_at, names, among, AreTwo, IsTable, IsEntry, AreWatches, AreShort, AreHeld, AreGuarded, IsGuarded, IsPlain}
use Rattle.watch_lists.specs.Watches.{AreSound, Holds, Fits, ArePair, ArePairGuarded}
use Rattle.watch_lists.specs.Building.{with_first, with_both}
use Rattle.watch_lists.proofs.LookLemmas.{two_cases}
use Rattle.watch_lists.proofs.NameLemmas.{names_push_old, names_push_new}
use Rattle.watch_lists.proofs.Lists.{get_front, has_at}
use Rattle.watch_lists.proofs.WatchLists.{list_other, list_same, length_lists}
use Rattle.watch_lists.proofs.GuardLemmas.{guard_set, true_set}

-- the literals are the clause's, whichever stand first
pub with_first_has : (c : List Literal) (f s : Literal) → has f.0 c ≡ true → has s.0 c ≡ true → (l : ℕ) → has l (with_first c f s) ≡ has l c
with_first_has c f s f_in s_in l = elim (cases_eq l f.0) [
  | inl e ↦ ap (λ (k : ℕ). has k (with_first c f s)) e ∙ (or_left (eqb f.0 f.0) (has f.0 (s ∷ rest c)) (eq-eqb f.0 f.0 refl) ∙ (sym f_in ∙ ap (λ (k : ℕ). has k c) (sym e)))
  | inr not_f ↦ elim (cases_eq l s.0) [
    | inl e ↦ ap (λ (k : ℕ). has k (with_first c f s)) e ∙ (or_right (eqb f.0 s.0) (has s.0 (s ∷ rest c)) (or_left (eqb s.0 s.0) (has s.0 (rest c)) (eq-eqb s.0 s.0 refl)) ∙ (sym s_in ∙ ap (λ (k : ℕ). has k c) (sym e)))
    | inr not_s ↦ rw (ne_eqb f.0 l (λ q. not_f (sym q)), ne_eqb s.0 l (λ q. not_s (sym q))) (rest_has c not_f not_s)
  ]
]
  where
    rest : List Literal → List Literal
    rest d = filter (λ x. not (eqb x.0 f.0) && not (eqb x.0 s.0)) d

    rest_has : (d : List Literal) → l ≢ f.0 → l ≢ s.0 → has l (filter (λ x. not (eqb x.0 f.0) && not (eqb x.0 s.0)) d) ≡ has l d
    rest_has [] not_f not_s = refl
    rest_has (x ∷ d) not_f not_s = elim (cases_eq x.0 f.0) [
      | inl e ↦ rw (eq-eqb x.0 f.0 e, ne_eqb x.0 l (λ q. not_f (sym q ∙ e))) (rest_has d not_f not_s)
      | inr a ↦ elim (cases_eq x.0 s.0) [
        | inl e ↦ rw (ne_eqb x.0 f.0 a, eq-eqb x.0 s.0 e, ne_eqb x.0 l (λ q. not_s (sym q ∙ e))) (rest_has d not_f not_s)
        | inr b ↦ rw (ne_eqb x.0 f.0 a, ne_eqb x.0 s.0 b) (ap (λ (z : Bool). eqb x.0 l || z) (rest_has d not_f not_s))
      ]
    ]

-- the table with a copy more
pub table_push : (ls c : List Literal) (ss : List ℕ) → IsTable ls ss → length ss + 1 < 2 ^ 32 → IsTable (ls ++ c) (ss ++ length (ls ++ c) ∷ [])
table_push ls c ss t few =
    let long : length (ss ++ length (ls ++ c) ∷ []) ≡ length ss + 1 = length_push ss (length (ls ++ c)) in
    let more : length (ls ++ c) ≡ length ls + length c = length-append ls c in
    let old : (i : ℕ) → i < length ss → get_or (ss ++ length (ls ++ c) ∷ []) i 0 ≡ get_or ss i 0 = λ i lt. get_or_append_left ss (length (ls ++ c) ∷ []) 0 i lt in
    let new : get_or (ss ++ length (ls ++ c) ∷ []) (length ss) 0 ≡ length (ls ++ c) = get_or_push ss (length (ls ++ c)) 0 (length ss) refl in
    record {
      some = omega (arith, long);
      few = omega (arith, long, few);
      rising = λ i j le lt. elim (cases_lt j (length ss)) [
        | inl early ↦ omega (arith, old i (omega arith), old j early, t.rising i j le early)
        | inr late ↦
            let at_j : j ≡ length ss = omega (arith, long) in
            let is_j : get_or (ss ++ length (ls ++ c) ∷ []) j 0 ≡ length (ls ++ c) = ap (λ (n : ℕ). get_or (ss ++ length (ls ++ c) ∷ []) n 0) at_j ∙ new in
            elim (cases_lt i (length ss)) [
              | inl i_early ↦ omega (arith, old i i_early, t.inside i i_early, is_j, more)
              | inr i_late ↦
                  let at_i : i ≡ j = omega (arith, long) in
                  omega (arith, ap (λ (n : ℕ). get_or (ss ++ length (ls ++ c) ∷ []) n 0) at_i)
            ]
      ];
      inside = λ i lt. elim (cases_lt i (length ss)) [
        | inl early ↦ omega (arith, old i early, t.inside i early, more)
        | inr late ↦
            let at_i : i ≡ length ss = omega (arith, long) in
            omega (arith, ap (λ (n : ℕ). get_or (ss ++ length (ls ++ c) ∷ []) n 0) at_i, new)
      ];
      last = let e : length (ss ++ length (ls ++ c) ∷ []) - 1 ≡ length ss = omega (arith, long) in ap (λ (n : ℕ). get_or (ss ++ length (ls ++ c) ∷ []) n 0) e ∙ new;
    }

pub copy_old : (ls c : List Literal) (ss : List ℕ) (e k : ℕ) → IsTable ls ss → k + 1 < length ss → copy (ls ++ c) (ss ++ e ∷ []) k ≡ copy ls ss k
copy_old ls c ss e k t lt =
    let a : get_or (ss ++ e ∷ []) k 0 ≡ get_or ss k 0 = get_or_append_left ss (e ∷ []) 0 k (omega arith) in
    let b : get_or (ss ++ e ∷ []) (k + 1) 0 ≡ get_or ss (k + 1) 0 = get_or_append_left ss (e ∷ []) 0 (k + 1) lt in
    ap (λ (n : ℕ). between n (get_or (ss ++ e ∷ []) (k + 1) 0) (ls ++ c)) a ∙ (ap (λ (n : ℕ). between (get_or ss k 0) n (ls ++ c)) b ∙ (between_is (ls ++ c) (get_or ss k 0) (get_or ss (k + 1) 0) ∙ (ap (drop (get_or ss k 0)) (take-append-le (get_or ss (k + 1) 0) ls c (t.inside (k + 1) lt)) ∙ sym (between_is ls (get_or ss k 0) (get_or ss (k + 1) 0)))))

pub copy_new : (ls c : List Literal) (ss : List ℕ) (n : ℕ) → IsTable ls ss → n + 1 ≡ length ss → copy (ls ++ c) (ss ++ length (ls ++ c) ∷ []) n ≡ c
copy_new ls c ss n t last =
    let e : ℕ = length (ls ++ c) in
    let back : length ss - 1 ≡ n = omega arith in
    let a : get_or (ss ++ e ∷ []) n 0 ≡ length ls = get_or_append_left ss (e ∷ []) 0 n (omega arith) ∙ (ap (λ (m : ℕ). get_or ss m 0) (sym back) ∙ t.last) in
    let b : get_or (ss ++ e ∷ []) (n + 1) 0 ≡ e = get_or_push ss e 0 (n + 1) (sym last) in
    ap (λ (m : ℕ). between m (get_or (ss ++ e ∷ []) (n + 1) 0) (ls ++ c)) a ∙ (ap (λ (m : ℕ). between (length ls) m (ls ++ c)) b ∙ (between_is (ls ++ c) (length ls) e ∙ (ap (drop (length ls)) (take_all e (ls ++ c) (omega arith)) ∙ drop_at ls c (length ls) refl)))

-- a clause of the longer table is an old one or the last
pub record IsLonger (ls new : List Literal) (ss more : List ℕ) (n : ℕ) (c : List Literal) : Type 0 where
  pub long : length more ≡ length ss + 1
  pub count : n + 1 ≡ length ss
  pub table : IsTable new more
  pub old : (k : ℕ) → k + 1 < length ss → copy new more k ≡ copy ls ss k
  pub last : copy new more n ≡ c
  pub same : (k : ℕ) → k < length ss → get_or more k 0 ≡ get_or ss k 0
  pub start : get_or more n 0 ≡ length ls
  pub end : get_or more (n + 1) 0 ≡ length new

pub longer : (ls c : List Literal) (ss : List ℕ) (n : ℕ) → IsTable ls ss → length ss + 1 < 2 ^ 32 → n + 1 ≡ length ss → IsLonger ls (ls ++ c) ss (ss ++ length (ls ++ c) ∷ []) n c
longer ls c ss n t few count = record {
  long = length_push ss (length (ls ++ c));
  count = count;
  table = table_push ls c ss t few;
  old = λ k lt. copy_old ls c ss (length (ls ++ c)) k t lt;
  last = copy_new ls c ss n t count;
  same = λ k lt. get_or_append_left ss (length (ls ++ c) ∷ []) 0 k lt;
  start = let back : length ss - 1 ≡ n = omega arith in get_or_append_left ss (length (ls ++ c) ∷ []) 0 n (omega arith) ∙ (ap (λ (m : ℕ). get_or ss m 0) (sym back) ∙ t.last);
  end = get_or_push ss (length (ls ++ c)) 0 (n + 1) (sym count);
}

cases_clause : (ls new : List Literal) (ss more : List ℕ) (n k : ℕ) (c : List Literal) → IsLonger ls new ss more n c → k + 1 < length more → (k + 1 < length ss) ⊎ (k ≡ n)
cases_clause ls new ss more n k c g lt = elim (cases_lt (k + 1) (length ss)) [ inl early ↦ inl early | inr late ↦ inr (omega (arith, g.long, g.count)) ]

-- the watches with a clause more, in lists that name it where it is watched
pub watches_push : (ls new : List Literal) (ss more : List ℕ) (ws next : List (List Watch)) (n : ℕ) (c : List Literal) → IsLonger ls new ss more n c → AreWatches ls ss ws → length next ≡ length ws → ((l : ℕ) → has l c ≡ true → 2 ≤ l) → ((l : ℕ) → has l c ≡ true → l < length ws) → (2 ≤ length c → AreTwo c) → ((k x : ℕ) → names k (list_at ws x) ≡ true → names k (list_at next x) ≡ true) → ((x : ℕ) → 2 ≤ length c → has x (take 2 c) ≡ true → names n (list_at next x) ≡ true) → ((l j : ℕ) (w : Watch) → slice_get (list_at next l) j ≡ Some w → (IsEntry ls ss w) ⊎ ((w.clause ≡ n) × (2 ≤ length c) × (has w.blocker.0 c ≡ true) × (w.start ≡ length ls) × (w.end ≡ length new))) → AreWatches new more next
watches_push ls new ss more ws next n c g w size low high two kept named entries = record {
  table = g.table;
  even = ap (λ (m : ℕ). m % 2) size ∙ w.even;
  low = λ k l lt h. elim (cases_clause ls new ss more n k c g lt) [
    | inl old ↦ w.low k l old (ap (has l) (sym (g.old k old)) ∙ h)
    | inr e ↦ low l (ap (has l) (sym (ap (copy new more) e ∙ g.last)) ∙ h)
  ];
  high = λ k l lt h. elim (cases_clause ls new ss more n k c g lt) [
    | inl old ↦ omega (arith, size, w.high k l old (ap (has l) (sym (g.old k old)) ∙ h))
    | inr e ↦ omega (arith, size, high l (ap (has l) (sym (ap (copy new more) e ∙ g.last)) ∙ h))
  ];
  two = λ k lt long. elim (cases_clause ls new ss more n k c g lt) [
    | inl old ↦ subst AreTwo (sym (g.old k old)) (w.two k old (omega (arith, long, ap length (g.old k old))))
    | inr e ↦ let same : copy new more k ≡ c = ap (copy new more) e ∙ g.last in subst AreTwo (sym same) (two (omega (arith, long, ap length same)))
  ];
  listed = λ k x lt long h. elim (cases_clause ls new ss more n k c g lt) [
    | inl old ↦ kept k x (w.listed k x old (omega (arith, long, ap length (g.old k old))) (ap (λ (d : List Literal). has x (take 2 d)) (sym (g.old k old)) ∙ h))
    | inr e ↦ let same : copy new more k ≡ c = ap (copy new more) e ∙ g.last in ap (λ (m : ℕ). names m (list_at next x)) e ∙ named x (omega (arith, long, ap length same)) (ap (λ (d : List Literal). has x (take 2 d)) (sym same) ∙ h)
  ];
  entries = λ l j v is. elim (entries l j v is) [
    | inl old ↦ record { start = old.start ∙ sym (g.same v.clause (omega (arith, old.below))); end = old.end ∙ sym (g.same (v.clause + 1) old.below); below = omega (arith, old.below, g.long); long = omega (arith, old.long, ap length (g.old v.clause old.below)); member = ap (has v.blocker.0) (g.old v.clause old.below) ∙ old.member }
    | inr e ↦ let same : copy new more v.clause ≡ c = ap (copy new more) e.0 ∙ g.last in record { start = e.3 ∙ (sym g.start ∙ ap (λ (m : ℕ). get_or more m 0) (sym e.0)); end = e.4 ∙ (sym g.end ∙ ap (λ (m : ℕ). get_or more (m + 1) 0) (sym e.0)); below = omega (arith, e.0, g.count, g.long); long = omega (arith, e.1, ap length same); member = ap (has v.blocker.0) same ∙ e.2 }
  ];
}

-- the list of short clauses, where the clause is not short
pub short_same : (ls new : List Literal) (ss more : List ℕ) (short : List ℕ) (n : ℕ) (c : List Literal) → IsLonger ls new ss more n c → 2 ≤ length c → AreShort ls ss short → AreShort new more short
short_same ls new ss more short n c g long s = record {
  listed = λ k lt few. elim (cases_clause ls new ss more n k c g lt) [
    | inl old ↦ s.listed k old (omega (arith, few, ap length (g.old k old)))
    | inr e ↦ absurd (omega (arith, few, long, ap length (ap (copy new more) e ∙ g.last)))
  ];
  entries = λ j k is. let e : (k + 1 < length ss) × (length (copy ls ss k) ≤ 1) = s.entries j k is in (omega (arith, e.0, g.long), omega (arith, e.1, ap length (g.old k e.0)));
}

among_old : (k n : ℕ) (xs : List ℕ) → among k xs ≡ true → among k (xs ++ n ∷ []) ≡ true
among_old k n [] h = absurd (true≢false (sym h))
among_old k n (x ∷ xs) h = elim (or_cases (eqb x k) (among k xs) h) [ inl here ↦ or_left (eqb x k) (among k (xs ++ n ∷ [])) here | inr later ↦ or_right (eqb x k) (among k (xs ++ n ∷ [])) (among_old k n xs later) ]

among_new : (n : ℕ) (xs : List ℕ) → among n (xs ++ n ∷ []) ≡ true
among_new n [] = or_left (eqb n n) false (eq-eqb n n refl)
among_new n (x ∷ xs) = or_right (eqb x n) (among n (xs ++ n ∷ [])) (among_new n xs)

-- and where it is
pub short_more : (ls new : List Literal) (ss more : List ℕ) (short : List ℕ) (n : ℕ) (c : List Literal) → IsLonger ls new ss more n c → length c ≤ 1 → AreShort ls ss short → AreShort new more (short ++ n ∷ [])
short_more ls new ss more short n c g few s = record {
  listed = λ k lt brief. elim (cases_clause ls new ss more n k c g lt) [
    | inl old ↦ among_old k n short (s.listed k old (omega (arith, brief, ap length (g.old k old))))
    | inr e ↦ ap (λ (m : ℕ). among m (short ++ n ∷ [])) e ∙ among_new n short
  ];
  entries = λ j k is. elim (get_push short n j k is) [
    | inl before ↦ let e : (k + 1 < length ss) × (length (copy ls ss k) ≤ 1) = s.entries j k before in (omega (arith, e.0, g.long), omega (arith, e.1, ap length (g.old k e.0)))
    | inr e ↦ (omega (arith, e.1, g.count, g.long), omega (arith, few, ap length (ap (copy new more) e.1 ∙ g.last)))
  ];
}

-- the clauses that are held
pub held_push : (ls new : List Literal) (ss more : List ℕ) (n : ℕ) (c d : List Literal) (clauses : List (List Literal)) → IsLonger ls new ss more n d → set_of d ≡ set_of c → AreHeld ls ss clauses → AreHeld new more (clauses ++ c ∷ [])
held_push ls new ss more n c d clauses g same h = record {
  count = omega (arith, g.long, h.count, length_push clauses c);
  same = λ k b is. elim (get_push clauses c k b is) [
    | inl old ↦ ap set_of (g.old k (omega (arith, h.count, slice_get_within clauses k b old))) ∙ h.same k b old
    | inr e ↦ let here : k ≡ n = omega (arith, e.0, h.count, g.count) in ap set_of (ap (copy new more) here ∙ g.last) ∙ (same ∙ ap set_of (sym e.1))
  ];
}

-- the guards
pub guards_more : (ls new : List Literal) (ss more : List ℕ) (n : ℕ) (d : List Literal) (t : List Literal) (levels : List ℕ) (done : ℕ) → IsLonger ls new ss more n d → ((x : ℕ) → 2 ≤ length d → has x (take 2 d) ≡ true → IsGuarded (set_of d) x t levels done) → AreGuarded ls ss t levels done → AreGuarded new more t levels done
guards_more ls new ss more n d t levels done g here a = record {
  each = λ k x lt long h. elim (cases_clause ls new ss more n k d g lt) [
    | inl old ↦ subst (λ (e : List Literal). IsGuarded (set_of e) x t levels done) (sym (g.old k old)) (a.each k x old (omega (arith, long, ap length (g.old k old))) (ap (λ (e : List Literal). has x (take 2 e)) (sym (g.old k old)) ∙ h))
    | inr e ↦ let same : copy new more k ≡ d = ap (copy new more) e ∙ g.last in subst (λ (e : List Literal). IsGuarded (set_of e) x t levels done) (sym same) (here x (omega (arith, long, ap length same)) (ap (λ (e : List Literal). has x (take 2 e)) (sym same) ∙ h))
  ];
}

-- lists with a watch more in two of them
both_second : (ws : List (List Watch)) (f s : ℕ) (w v : Watch) → s < length ws → list_at (with_both ws f s w v) s ≡ list_at ws s ++ v ∷ []
both_second ws f s w v lt = list_same (set ws f (list_at ws f ++ w ∷ [])) s (list_at ws s ++ v ∷ []) (omega (arith, length-set ws f (list_at ws f ++ w ∷ [])))

both_first : (ws : List (List Watch)) (f s : ℕ) (w v : Watch) → f < length ws → f ≢ s → list_at (with_both ws f s w v) f ≡ list_at ws f ++ w ∷ []
both_first ws f s w v lt away = list_other (set ws f (list_at ws f ++ w ∷ [])) s f (list_at ws s ++ v ∷ []) away ∙ list_same ws f (list_at ws f ++ w ∷ []) lt

both_other : (ws : List (List Watch)) (f s x : ℕ) (w v : Watch) → x ≢ f → x ≢ s → list_at (with_both ws f s w v) x ≡ list_at ws x
both_other ws f s x w v not_f not_s = list_other (set ws f (list_at ws f ++ w ∷ [])) s x (list_at ws s ++ v ∷ []) not_s ∙ list_other ws f x (list_at ws f ++ w ∷ []) not_f

both_length : (ws : List (List Watch)) (f s : ℕ) (w v : Watch) → length (with_both ws f s w v) ≡ length ws
both_length ws f s w v = length-set (set ws f (list_at ws f ++ w ∷ [])) s (list_at ws s ++ v ∷ []) ∙ length-set ws f (list_at ws f ++ w ∷ [])

-- the watches with a clause more that is watched at two literals
pub watches_long : (ls new : List Literal) (ss more : List ℕ) (ws : List (List Watch)) (n : ℕ) (c : List Literal) (f s : Literal) (w v : Watch) → IsLonger ls new ss more n (with_first c f s) → AreWatches ls ss ws → has f.0 c ≡ true → has s.0 c ≡ true → f.0 ≢ s.0 → ((l : ℕ) → has l c ≡ true → 2 ≤ l) → ((l : ℕ) → has l c ≡ true → l < length ws) → w.clause ≡ n → w.blocker ≡ s → w.start ≡ length ls → w.end ≡ length new → v.clause ≡ n → v.blocker ≡ f → v.start ≡ length ls → v.end ≡ length new → AreWatches new more (with_both ws f.0 s.0 w v)
watches_long ls new ss more ws n c f s w v g old f_in s_in away low high w_clause w_blocker w_start w_end v_clause v_blocker v_start v_end =
    let d : List Literal = with_first c f s in
    let lt_f : f.0 < length ws = high f.0 f_in in
    let lt_s : s.0 < length ws = high s.0 s_in in
    let back : (l : ℕ) → has l d ≡ true → has l c ≡ true = λ l h. sym (with_first_has c f s f_in s_in l) ∙ h in
    let long : 2 ≤ length d = omega arith in
    watches_push ls new ss more ws (with_both ws f.0 s.0 w v) n d g old (both_length ws f.0 s.0 w v) (λ l h. low l (back l h)) (λ l h. high l (back l h)) (λ _. record { long = long; different = away })
    (λ k x h. elim (cases_eq x s.0) [
      | inl e ↦ ap (λ (y : ℕ). names k (list_at (with_both ws f.0 s.0 w v) y)) e ∙ (ap (names k) (both_second ws f.0 s.0 w v lt_s) ∙ names_push_old k (list_at ws s.0) v (ap (λ (y : ℕ). names k (list_at ws y)) (sym e) ∙ h))
      | inr not_s ↦ elim (cases_eq x f.0) [
        | inl e ↦ ap (λ (y : ℕ). names k (list_at (with_both ws f.0 s.0 w v) y)) e ∙ (ap (names k) (both_first ws f.0 s.0 w v lt_f away) ∙ names_push_old k (list_at ws f.0) w (ap (λ (y : ℕ). names k (list_at ws y)) (sym e) ∙ h))
        | inr not_f ↦ ap (names k) (both_other ws f.0 s.0 x w v not_f not_s) ∙ h
      ]
    ])
    (λ x _ h. elim (two_cases d x long h) [
      | inl e ↦ ap (λ (y : ℕ). names n (list_at (with_both ws f.0 s.0 w v) y)) e ∙ (ap (names n) (both_first ws f.0 s.0 w v lt_f away) ∙ (ap (λ (m : ℕ). names m (list_at ws f.0 ++ w ∷ [])) (sym w_clause) ∙ names_push_new (list_at ws f.0) w))
      | inr e ↦ ap (λ (y : ℕ). names n (list_at (with_both ws f.0 s.0 w v) y)) e ∙ (ap (names n) (both_second ws f.0 s.0 w v lt_s) ∙ (ap (λ (m : ℕ). names m (list_at ws s.0 ++ v ∷ [])) (sym v_clause) ∙ names_push_new (list_at ws s.0) v))
    ])
    (λ l j u is. elim (cases_eq l s.0) [
      | inl e ↦ elim (get_push (list_at ws s.0) v j u (ap (λ (q : List Watch). slice_get q j) (sym (both_second ws f.0 s.0 w v lt_s)) ∙ (ap (λ (y : ℕ). slice_get (list_at (with_both ws f.0 s.0 w v) y) j) (sym e) ∙ is))) [
        | inl before ↦ inl (old.entries s.0 j u before)
        | inr last ↦ inr (ap (λ (z : Watch). z.clause) last.1 ∙ v_clause, long, ap (λ (z : Watch). has z.blocker.0 d) last.1 ∙ (ap (λ (z : Literal). has z.0 d) v_blocker ∙ (with_first_has c f s f_in s_in f.0 ∙ f_in)), ap (λ (z : Watch). z.start) last.1 ∙ v_start, ap (λ (z : Watch). z.end) last.1 ∙ v_end)
      ]
      | inr not_s ↦ elim (cases_eq l f.0) [
        | inl e ↦ elim (get_push (list_at ws f.0) w j u (ap (λ (q : List Watch). slice_get q j) (sym (both_first ws f.0 s.0 w v lt_f away)) ∙ (ap (λ (y : ℕ). slice_get (list_at (with_both ws f.0 s.0 w v) y) j) (sym e) ∙ is))) [
          | inl before ↦ inl (old.entries f.0 j u before)
          | inr last ↦ inr (ap (λ (z : Watch). z.clause) last.1 ∙ w_clause, long, ap (λ (z : Watch). has z.blocker.0 d) last.1 ∙ (ap (λ (z : Literal). has z.0 d) w_blocker ∙ (with_first_has c f s f_in s_in s.0 ∙ s_in)), ap (λ (z : Watch). z.start) last.1 ∙ w_start, ap (λ (z : Watch). z.end) last.1 ∙ w_end)
        ]
        | inr not_f ↦ inl (old.entries l j u (ap (λ (q : List Watch). slice_get q j) (sym (both_other ws f.0 s.0 l w v not_f not_s)) ∙ is))
      ]
    ])

-- and with one that is not watched
pub watches_short : (ls new : List Literal) (ss more : List ℕ) (ws : List (List Watch)) (n : ℕ) (c : List Literal) → IsLonger ls new ss more n c → AreWatches ls ss ws → length c ≤ 1 → ((l : ℕ) → has l c ≡ true → 2 ≤ l) → ((l : ℕ) → has l c ≡ true → l < length ws) → AreWatches new more ws
watches_short ls new ss more ws n c g old few low high = watches_push ls new ss more ws ws n c g old refl low high (λ long. absurd (omega arith)) (λ k x h. h) (λ x long h. absurd (omega arith)) (λ l j u is. inl (old.entries l j u is))

-- one clause more in the watches
pub record IsAdded (w v : Watches) (n : ℕ) (c d : List Literal) : Type 0 where
  pub longer : IsLonger w.literals.items v.literals.items w.starts.items v.starts.items n d
  pub same : set_of d ≡ set_of c
  pub sound : AreSound v
  pub size : length v.lists.items ≡ length w.lists.items
  pub looked : v.looked ≡ w.looked
  pub front : take w.looked v.short.items ≡ take w.looked w.short.items

pub added_holds : (w v : Watches) (n : ℕ) (c d : List Literal) (vars : ℕ) (clauses : List (List Literal)) → IsAdded w v n c d → Holds w vars clauses → Holds v vars (clauses ++ c ∷ [])
added_holds w v n c d vars clauses a h = record { size = a.size ∙ h.size; sound = a.sound; held = held_push w.literals.items v.literals.items w.starts.items v.starts.items n c d clauses a.longer a.same h.held }

pub among_place : (k : ℕ) (xs : List ℕ) → among k xs ≡ true → (j : ℕ) × (slice_get xs j ≡ Some k)
among_place k [] h = absurd (true≢false (sym h))
among_place k (x ∷ xs) h = elim (or_cases (eqb x k) (among k xs) h) [ inl e ↦ (0, ap (λ (y : ℕ). Some y) (eqb-true x k e)) | inr later ↦ let r : (j : ℕ) × (slice_get xs j ≡ Some k) = among_place k xs later in (suc r.0, r.1) ]

pub added_fits : (w v : Watches) (n : ℕ) (c d : List Literal) (t : Trail) → IsAdded w v n c d → Fits w t → ((x : ℕ) → 2 ≤ length d → has x (take 2 d) ≡ true → IsGuarded (set_of c) x t.literals.items t.starts.items t.done) → Fits v t
added_fits w v n c d t a f here = record {
  watching = record {
    watches = a.sound.watches;
    plain = let e : length (lists_of w.lists.items) ≡ length (lists_of v.lists.items) = length_lists w.lists.items ∙ (sym a.size ∙ sym (length_lists v.lists.items)) in subst (λ (m : ℕ). IsPlain m t.literals.items t.reasons.items t.starts.items t.values.items t.done) e f.watching.plain;
    guarded = guards_more w.literals.items v.literals.items w.starts.items v.starts.items n d t.literals.items t.starts.items t.done a.longer (λ x long h. guard_set (set_of c) (set_of d) x t.literals.items t.starts.items t.done a.same (here x long h)) f.watching.guarded;
  };
  short = a.sound.short;
  looked = a.sound.looked;
  met = record {
    each = λ k some h.
        let early : among k (take w.looked w.short.items) ≡ true = ap (among k) (sym a.front) ∙ (ap (λ (m : ℕ). among k (take m v.short.items)) (sym a.looked) ∙ h) in
        let r : (j : ℕ) × (slice_get (take w.looked w.short.items) j ≡ Some k) = among_place k (take w.looked w.short.items) early in
        let below : k + 1 < length w.starts.items = (f.short.entries r.0 k (get_front w.looked w.short.items r.0 k r.1).1).0 in
        true_set (set_of (copy w.literals.items w.starts.items k)) (set_of (copy v.literals.items v.starts.items k)) t.literals.items (ap set_of (a.longer.old k below)) (f.met.each k some early);
  };
}

pub pair_guarded : (c : List Literal) (f s : Literal) (t : Trail) (x : ℕ) → ArePairGuarded c f.0 s.0 t → has x (take 2 (with_first c f s)) ≡ true → IsGuarded (set_of c) x t.literals.items t.starts.items t.done
pair_guarded c f s t x p h = elim (two_cases (with_first c f s) x (omega arith) h) [
  | inl e ↦ subst (λ (y : ℕ). IsGuarded (set_of c) y t.literals.items t.starts.items t.done) (sym e) p.first_guarded
  | inr e ↦ subst (λ (y : ℕ). IsGuarded (set_of c) y t.literals.items t.starts.items t.done) (sym e) p.second_guarded
]

-- no clauses yet
pub empty_holds : (w : Watches) (vars : ℕ) → w.literals.items ≡ [] → w.starts.items ≡ 0 ∷ [] → lists_of w.lists.items ≡ replicate (2 * vars + 2) [] → w.short.items ≡ [] → w.looked ≡ 0 → Holds w vars []
empty_holds w vars literals starts lists short looked =
    let one : length w.starts.items ≡ 1 = ap length starts in
    let empty : List Watch = [] in
    let size : length (lists_of w.lists.items) ≡ 2 * vars + 2 = ap length lists ∙ length-replicate (2 * vars + 2) empty in
    let none : (l : ℕ) → list_at (lists_of w.lists.items) l ≡ [] = λ l. ap (λ (q : List (List Watch)). list_at q l) lists ∙ (elim (cases_lt l (2 * vars + 2)) [ inl lt ↦ get_or-replicate (2 * vars + 2) l empty empty lt | inr past ↦ get_or_past (replicate (2 * vars + 2) empty) l empty (omega (arith, length-replicate (2 * vars + 2) empty)) ]) in
    let zero_at : (i : ℕ) → get_or w.starts.items i 0 ≡ 0 = λ i. ap (λ (q : List ℕ). get_or q i 0) starts ∙ zeros i in
    record {
      size = omega (arith, size, length_lists w.lists.items);
      sound = record {
        watches = record {
          table = record {
            some = omega (arith, one);
            few = omega (arith, one);
            rising = λ i j le lt. omega (arith, zero_at i);
            inside = λ i lt. omega (arith, zero_at i);
            last = zero_at (length w.starts.items - 1) ∙ ap length (sym literals);
          };
          even = omega (arith, size);
          low = λ k l lt h. absurd (omega (arith, one));
          high = λ k l lt h. absurd (omega (arith, one));
          two = λ k lt long. absurd (omega (arith, one));
          listed = λ k x lt long h. absurd (omega (arith, one));
          entries = λ l j v is. absurd (none_some j v (ap (λ (q : List Watch). slice_get q j) (sym (none l)) ∙ is));
        };
        short = record { listed = λ k lt few. absurd (omega (arith, one)); entries = λ j k is. absurd (none_number j k (ap (λ (q : List ℕ). slice_get q j) (sym short) ∙ is)) };
        looked = omega (arith, looked);
      };
      held = record { count = one; same = λ k c is. absurd (cc) };
    }
  where
    zeros : (i : ℕ) → ◌≡◌ {A = ℕ} (get_or (0 ∷ []) i 0) 0
    zeros zero = refl
    zeros (suc i) = refl

    none_some : (j : ℕ) (v : Watch) → slice_get [] j ≡ Some v → ⊥
    none_some zero v e = cc
    none_some (suc j) v e = cc

    none_number : (j k : ℕ) → slice_get [] j ≡ Some k → ⊥
    none_number zero k e = cc
    none_number (suc j) k e = cc

-- the first two literals of a clause differ
pub pair_of : (c : List Literal) (f s : Literal) → AreDistinct c → slice_get c 0 ≡ Some f → slice_get c 1 ≡ Some s → ArePair c f.0 s.0
pair_of c f s d at_first at_second =
    let f_in : has f.0 c ≡ true = has_at c 0 f at_first in
    let s_in : has s.0 c ≡ true = has_at c 1 s at_second in
    record {
      first_in = f_in;
      second_in = s_in;
      different = λ e. true≢false (sym (first_of c at_first) ∙ (ap (λ (k : ℕ). has k (take 1 c)) e ∙ d.once 1 s at_second));
    }
  where
    first_of : (xs : List Literal) → slice_get xs 0 ≡ Some f → has f.0 (take 1 xs) ≡ true
    first_of [] is = absurd (cc)
    first_of (x ∷ xs) is = let e : x ≡ f = cc in or_left (eqb x.0 f.0) false (eq-eqb x.0 f.0 (ap (λ (z : Literal). z.0) e))

-- one clause more of the formula
pub take_clause : (clauses : List (List Literal)) (i : ℕ) (c : List Literal) → slice_get clauses i ≡ Some c → take (i + 1) clauses ≡ take i clauses ++ c ∷ []
take_clause clauses i c is = take_more clauses i c (slice_get_within clauses i c is) ∙ ap (λ (d : List Literal). take i clauses ++ d ∷ []) (get_or_from_slice_get clauses i c c is)
