-- How a trail may change.
use Rattle.std.proofs.Common.{◌≡◌, ℕ, zero, suc, ◌+◌, ◌-◌, ◌<◌, ◌≤◌, ◌⊎◌, Bool, true, false, not, cond, List, [], ◌∷◌, ◌++◌, length, take, get_or, set, Some, None, slice_get, ap, ◌∙◌, sym, subst, inl, inr, arith, true≢false, length-set}
use Rattle.std.proofs.Math.Path.{fun_ext}
use Rattle.std.specs.List.{count_by, sum_by}
use Rattle.std.proofs.lemmas.Option.{slice_get_within, get_or_from_slice_get}
use Rattle.std.proofs.lemmas.List.Sums.{sum_by-set}
use Rattle.std.proofs.lemmas.Bool.{cases_eq, cases_order}
use Rattle.std.proofs.lemmas.List.{take-append-le, take_at, take-take, get_or-set_same, get_or-set_other, length-take-le, length_push, take_more}
use Rattle.lemma_checker.specs.declared.literal.Literal.{Literal}
use Rattle.lemma_checker.specs.Clauses.{opposite, has, set_of, at}
use Rattle.lemma_checker.specs.Chains.{numbered}
use Rattle.lemma_checker.specs.Propagation.{AreOthersFalse, AreApart, IsInEachClosed}
use Rattle.lemma_checker.proofs.ListLemmas.{get_push, get_kept, get_last}
use Rattle.lemma_checker.proofs.LawProofs.{opposite_back, opposite_other}
use Rattle.lemma_checker.proofs.CollectLemmas.{has_push_new, has_push_other, distinct_push}
use Rattle.watch_lists.specs.Trails.{IsQuiet, IsSettled, HasTwoOpen, HasStart, IsTrail}
use Rattle.watch_lists.specs.Scans.{IsForced, AreQuiet, AreWithin, IsUnitNumber}
use Rattle.watch_lists.proofs.Lists.{get_front, get_take, has_front, lacks_front, push_cases, lacks_push}

-- the values after a literal was added
pub values_push : (vs : List Bool) (t : List Literal) (x : Literal) → x.0 < length vs → at vs ≡ set_of t → at (set vs x.0 true) ≡ set_of (t ++ x ∷ [])
values_push vs t x lt same = fun_ext (λ l. elim (cases_eq l x.0) [
  | inl e ↦ ap (at (set vs x.0 true)) e ∙ (get_or-set_same vs x.0 true false lt ∙ (sym (has_push_new t x) ∙ ap (λ (k : ℕ). has k (t ++ x ∷ [])) (sym e)))
  | inr away ↦ get_or-set_other vs x.0 l true false away ∙ (ap (λ (f : ℕ → Bool). f l) same ∙ sym (has_push_other l t x away))
])

-- no literal with its opposite, after a push
pub apart_push : (t : List Literal) (x : Literal) → AreApart (set_of t) → has (opposite x.0) t ≡ false → AreApart (set_of (t ++ x ∷ []))
apart_push t x a free = record {
  apart = λ l h. elim (push_cases l t x h) [
    | inl old ↦ lacks_push (opposite l) t x (a.apart l old) (λ e. true≢false (sym old ∙ (ap (λ (k : ℕ). has k t) (sym (ap opposite (sym e) ∙ opposite_back l)) ∙ free)))
    | inr e ↦ lacks_push (opposite l) t x (ap (λ (k : ℕ). has (opposite k) t) e ∙ free) (λ f. opposite_other l (f ∙ sym e))
  ];
}

-- a start of the levels after a literal was added: an old one, or the end
pub record Starts (clauses : List (List Literal)) (t : List Literal) (before after : List ℕ) : Type 0 where
  pub from : (i a : ℕ) → slice_get after i ≡ Some a → (slice_get before i ≡ Some a) ⊎ ((i ≡ length before) × (a ≡ length t) × IsSettled clauses (set_of t))
  pub kept : (i a : ℕ) → slice_get before i ≡ Some a → slice_get after i ≡ Some a

pub same_starts : (clauses : List (List Literal)) (t : List Literal) (ss : List ℕ) → Starts clauses t ss ss
same_starts clauses t ss = record { from = λ i a is. inl is; kept = λ i a is. is }

pub new_start : (clauses : List (List Literal)) (t : List Literal) (ss : List ℕ) → IsSettled clauses (set_of t) → Starts clauses t ss (ss ++ length t ∷ [])
new_start clauses t ss s = record {
  from = λ i a is. elim (get_push ss (length t) i a is) [ inl old ↦ inl old | inr e ↦ inr (e.0, e.1, s) ];
  kept = λ i a is. get_kept ss (length t ∷ []) i a is;
}

pub before_push : (t : List Literal) (x : Literal) (p : ℕ) → p ≤ length t → take p (t ++ x ∷ []) ≡ take p t
before_push t x p le = take-append-le p t (x ∷ []) le

-- the front at a start is as it was
settled_start : (clauses : List (List Literal)) (t : List Literal) (x : Literal) (a : ℕ) → a ≤ length t → IsSettled clauses (set_of (take a t)) → IsSettled clauses (set_of (take a (t ++ x ∷ [])))
settled_start clauses t x a le s = subst (λ (u : List Literal). IsSettled clauses (set_of u)) (sym (before_push t x a le)) s

pub trail_grow : (n : ℕ) (cs : List (List Literal)) (t : List Literal) (rs ss after : List ℕ) (vs : List Bool) (x : Literal) (id : ℕ) → IsTrail n cs t rs ss vs → Starts cs t ss after → x.0 < n → 2 ≤ x.0 → has x.0 t ≡ false → has (opposite x.0) t ≡ false → id ≤ length cs → (id ≡ 0 → HasStart after (length t)) → ((c : List Literal) → numbered cs id ≡ Some c → AreOthersFalse c x.0 (set_of t)) → IsTrail n cs (t ++ x ∷ []) (rs ++ id ∷ []) after (set vs x.0 true)
trail_grow n cs t rs ss after vs x id tr st lt low absent free few chosen forced =
    let more : length (t ++ x ∷ []) ≡ length t + 1 = length_push t x in
    record {
      size = length-set vs x.0 true ∙ tr.size;
      same = values_push vs t x (omega (arith, tr.size)) tr.same;
      apart = apart_push t x tr.apart free;
      lengths = omega (arith, tr.lengths, more, length_push rs id);
      once = distinct_push t x tr.once absent;
      named = λ l h. elim (push_cases l t x h) [ inl old ↦ tr.named l old | inr e ↦ omega (arith, e) ];
      known = λ p k is. elim (get_push rs id p k is) [ inl old ↦ tr.known p k old | inr e ↦ omega (arith, e.1) ];
      chosen = λ p is. elim (get_push rs id p 0 is) [
        | inl old ↦ let h : HasStart ss p = tr.chosen p old in record { level = h.level; is = st.kept h.level p h.is }
        | inr e ↦ let at_end : p ≡ length t = omega (arith, e.0, tr.lengths) in subst (HasStart after) (sym at_end) (chosen (sym e.1))
      ];
      given = λ p k y c at_literal at_reason at_clause. elim (get_push rs id p k at_reason) [
        | inl old ↦
            let early : p < length t = omega (arith, tr.lengths, slice_get_within rs p k old) in
            elim (get_push t x p y at_literal) [
              | inl old_literal ↦ subst (λ (u : List Literal). AreOthersFalse c y.0 (set_of u)) (sym (before_push t x p (omega arith))) (tr.given p k y c old_literal old at_clause)
              | inr e ↦ absurd (omega (arith, e.0))
            ]
        | inr e ↦
            let late : p ≡ length t = omega (arith, e.0, tr.lengths) in
            elim (get_push t x p y at_literal) [
              | inl old_literal ↦ absurd (omega (arith, late, slice_get_within t p y old_literal))
              | inr f ↦
                  let all : take p (t ++ x ∷ []) ≡ t = take_at t (x ∷ []) p (sym late) in
                  subst (λ (u : List Literal). AreOthersFalse c y.0 (set_of u)) (sym all) (subst (λ (z : Literal). AreOthersFalse c z.0 (set_of t)) (sym f.1) (forced c (ap (numbered cs) (sym e.1) ∙ at_clause)))
            ]
      ];
      inside = λ i a is. elim (st.from i a is) [ inl old ↦ omega (arith, more, tr.inside i a old) | inr e ↦ omega (arith, more, e.1) ];
      rising = λ i j a b lower at_i at_j. elim (st.from i a at_i) [
        | inl old_i ↦ elim (st.from j b at_j) [
          | inl old_j ↦ tr.rising i j a b lower old_i old_j
          | inr e ↦ omega (arith, tr.inside i a old_i, e.1)
        ]
        | inr e ↦ elim (st.from j b at_j) [
          | inl old_j ↦ absurd (omega (arith, slice_get_within ss j b old_j, e.0))
          | inr f ↦ absurd (omega (arith, e.0, f.0))
        ]
      ];
      settled = λ i a is. elim (st.from i a is) [
        | inl old ↦ settled_start cs t x a (omega (arith, tr.inside i a old)) (tr.settled i a old)
        | inr e ↦ subst (λ (u : List Literal). IsSettled cs (set_of u)) (sym (take_at t (x ∷ []) a (sym e.1))) e.2
      ];
    }

-- a forced literal is added
pub trail_push : (n : ℕ) (cs : List (List Literal)) (t : List Literal) (rs ss : List ℕ) (vs : List Bool) (x : Literal) (id : ℕ) (c : List Literal) → IsTrail n cs t rs ss vs → numbered cs id ≡ Some c → IsForced c x.0 (set_of t) → x.0 < n → 2 ≤ x.0 → id ≤ length cs → IsTrail n cs (t ++ x ∷ []) (rs ++ id ∷ []) ss (set vs x.0 true)
trail_push n cs t rs ss vs x id c tr is f lt low few = trail_grow n cs t rs ss ss vs x id tr (same_starts cs t ss) lt low f.not_true f.not_false few
    (λ e. absurd (none_at_zero (sym (ap (numbered cs) e) ∙ is)))
    (λ d at_d. let same : c ≡ d = same_some (sym is ∙ at_d) in subst (λ (z : List Literal). AreOthersFalse z x.0 (set_of t)) same f.others)
  where
    none_at_zero : None ≡ Some c → ⊥
    none_at_zero e = cc

    same_some : {y z : List Literal} → Some y ≡ Some z → y ≡ z
    same_some e = cc

-- a level begins
pub trail_choose : (n : ℕ) (cs : List (List Literal)) (t : List Literal) (rs ss : List ℕ) (vs : List Bool) (x : Literal) → IsTrail n cs t rs ss vs → IsSettled cs (set_of t) → x.0 < n → 2 ≤ x.0 → has x.0 t ≡ false → has (opposite x.0) t ≡ false → IsTrail n cs (t ++ x ∷ []) (rs ++ 0 ∷ []) (ss ++ length t ∷ []) (set vs x.0 true)
trail_choose n cs t rs ss vs x tr s lt low absent free = trail_grow n cs t rs ss (ss ++ length t ∷ []) vs x 0 tr (new_start cs t ss s) lt low absent free (omega arith)
    (λ _. record { level = length ss; is = get_last ss (length t) })
    (λ d at_d. absurd (cc))

-- the trail goes back to a level's start
pub trail_cut : (n : ℕ) (cs : List (List Literal)) (t : List Literal) (rs ss : List ℕ) (vs ws : List Bool) (k a : ℕ) → IsTrail n cs t rs ss vs → slice_get ss k ≡ Some a → length ws ≡ n → at ws ≡ set_of (take a t) → IsTrail n cs (take a t) (take a rs) (take k ss) ws
trail_cut n cs t rs ss vs ws k a tr is size same =
    let within : a < length t = tr.inside k a is in
    let long : length (take a t) ≡ a = length-take-le a t (omega arith) in
    let long_reasons : length (take a rs) ≡ a = length-take-le a rs (omega (arith, tr.lengths)) in
    record {
      size = size;
      same = same;
      apart = record { apart = λ l h. lacks_front a t (opposite l) (tr.apart.apart l (has_front a t l h)) };
      lengths = long_reasons ∙ sym long;
      once = record {
        once = λ p x at_p.
            let f : (p < a) × (slice_get t p ≡ Some x) = get_front a t p x at_p in
            ap (has x.0) (take-take p a t (omega (arith, f.0))) ∙ tr.once.once p x f.1;
      };
      named = λ l h. tr.named l (has_front a t l h);
      known = λ p q at_p. tr.known p q (get_front a rs p q at_p).1;
      chosen = λ p at_p.
          let f : (p < a) × (slice_get rs p ≡ Some 0) = get_front a rs p 0 at_p in
          let h : HasStart ss p = tr.chosen p f.1 in
          elim (cases_order h.level k) [
            | inl e ↦ absurd (omega (arith, f.0, same_place (sym h.is ∙ (ap (slice_get ss) e ∙ is))))
            | inr other ↦ elim other [
              | inl lower ↦ record { level = h.level; is = get_take k ss h.level p lower h.is }
              | inr higher ↦ absurd (omega (arith, f.0, tr.rising k h.level a p higher is h.is))
            ]
          ];
      given = λ p q x c at_p at_reason at_clause.
          let f : (p < a) × (slice_get t p ≡ Some x) = get_front a t p x at_p in
          subst (λ (u : List Literal). AreOthersFalse c x.0 (set_of u)) (sym (take-take p a t (omega (arith, f.0)))) (tr.given p q x c f.1 (get_front a rs p q at_reason).1 at_clause);
      inside = λ i b at_i.
          let f : (i < k) × (slice_get ss i ≡ Some b) = get_front k ss i b at_i in
          omega (arith, long, tr.rising i k b a f.0 f.1 is);
      rising = λ i j b d lower at_i at_j. tr.rising i j b d lower (get_front k ss i b at_i).1 (get_front k ss j d at_j).1;
      settled = λ i b at_i.
          let f : (i < k) × (slice_get ss i ≡ Some b) = get_front k ss i b at_i in
          subst (λ (u : List Literal). IsSettled cs (set_of u)) (sym (take-take b a t (omega (arith, tr.rising i k b a f.0 f.1 is)))) (tr.settled i b f.1);
    }
  where
    same_place : {y z : ℕ} → Some y ≡ Some z → y ≡ z
    same_place e = cc

-- a clause with two open literals is quiet
pub quiet_open : (c : List Literal) (s : ℕ → Bool) → HasTwoOpen c s → IsQuiet c s
quiet_open c s o = record {
  not_false = λ f. true≢false (sym (f.each o.first o.first_in) ∙ o.first_open);
  unit = λ l others. elim (cases_eq o.first l) [
    | inl e ↦ absurd (true≢false (sym (others.others o.second o.second_in (λ f. o.different (e ∙ sym f))) ∙ o.second_open))
    | inr away ↦ absurd (true≢false (sym (others.others o.first o.first_in away) ∙ o.first_open))
  ];
}

-- a clause with a true literal is quiet
pub quiet_met : (c : List Literal) (s : ℕ → Bool) (l : ℕ) → AreApart s → has l c ≡ true → s l ≡ true → IsQuiet c s
quiet_met c s l a member holds = record {
  not_false = λ f. true≢false (sym (f.each l member) ∙ a.apart l holds);
  unit = λ m others. elim (cases_eq l m) [
    | inl e ↦ ap s (sym e) ∙ holds
    | inr away ↦ absurd (true≢false (sym (others.others l member away) ∙ a.apart l holds))
  ];
}

pub settled_push : (cs : List (List Literal)) (c : List Literal) (s : ℕ → Bool) → IsSettled cs s → HasTwoOpen c s → IsSettled (cs ++ c ∷ []) s
settled_push cs c s st o = record { apart = st.apart; quiet = λ i d is. elim (get_push cs c i d is) [ inl old ↦ st.quiet i d old | inr e ↦ subst (λ (z : List Literal). IsQuiet z s) (sym e.1) (quiet_open c s o) ] }

numbered_old : (cs : List (List Literal)) (c : List Literal) (k : ℕ) (d : List Literal) → k ≤ length cs → numbered (cs ++ c ∷ []) k ≡ Some d → numbered cs k ≡ Some d
numbered_old cs c zero d le is = is
numbered_old cs c (suc i) d le is = elim (get_push cs c i d is) [ inl old ↦ old | inr e ↦ absurd (omega (arith, e.0)) ]

-- a clause is added that has two open literals at each level's start
pub trail_add : (n : ℕ) (cs : List (List Literal)) (t : List Literal) (rs ss : List ℕ) (vs : List Bool) (c : List Literal) → IsTrail n cs t rs ss vs → ((j a : ℕ) → slice_get ss j ≡ Some a → HasTwoOpen c (set_of (take a t))) → IsTrail n (cs ++ c ∷ []) t rs ss vs
trail_add n cs t rs ss vs c tr two = record {
  size = tr.size;
  same = tr.same;
  apart = tr.apart;
  lengths = tr.lengths;
  once = tr.once;
  named = tr.named;
  known = λ p k is. omega (arith, length_push cs c, tr.known p k is);
  chosen = tr.chosen;
  given = λ p k x d at_p at_reason at_clause. tr.given p k x d at_p at_reason (numbered_old cs c k d (tr.known p k at_reason) at_clause);
  inside = tr.inside;
  rising = tr.rising;
  settled = λ i a is. settled_push cs c (set_of (take a t)) (tr.settled i a is) (two i a is);
}

-- one clause more is quiet
pub quiet_more : (cs : List (List Literal)) (s : ℕ → Bool) (i : ℕ) (d : List Literal) → i < length cs → AreQuiet (take i cs) s → IsQuiet (get_or cs i d) s → AreQuiet (take (i + 1) cs) s
quiet_more cs s i d lt q here = subst (λ (z : List (List Literal)). AreQuiet z s) (sym (take_more cs i d lt)) (record { each = λ j c is. elim (get_push (take i cs) (get_or cs i d) j c is) [ inl old ↦ q.each j c old | inr e ↦ subst (λ (z : List Literal). IsQuiet z s) (sym e.1) here ] })

-- the literal that a clause forces is in each closed set
pub least_push : (cs : List (List Literal)) (from : ℕ → Bool) (t : List Literal) (x : Literal) (i : ℕ) (c : List Literal) → IsInEachClosed cs from (set_of t) → numbered cs i ≡ Some c → AreOthersFalse c x.0 (set_of t) → IsInEachClosed cs from (set_of (t ++ x ∷ []))
least_push cs from t x zero c least is others = absurd (cc)
least_push cs from t x (suc i) c least is others = record {
  inside = λ s closed l h. elim (push_cases l t x h) [
    | inl old ↦ least.inside s closed l old
    | inr e ↦ ap s e ∙ closed.unit i c x.0 is (record { member = others.member; others = λ m there away. least.inside s closed (opposite m) (others.others m there away) })
  ];
}

-- the numbers of a numbered clause's literals
pub within_numbered : (n : ℕ) (cs : List (List Literal)) (k : ℕ) (c : List Literal) (l : ℕ) → AreWithin n cs → numbered cs k ≡ Some c → has l c ≡ true → (2 ≤ l) × (l < n)
within_numbered n cs zero c l w is h = absurd (cc)
within_numbered n cs (suc i) c l w is h = (w.low i c l is h, w.high i c l is h)

-- a step of propagation
pub unit_step : (n : ℕ) (cs : List (List Literal)) (t : List Literal) (rs ss : List ℕ) (vs : List Bool) (x : Literal) (k : ℕ) → IsTrail n cs t rs ss vs → AreWithin n cs → IsUnitNumber cs k x.0 (at vs) → IsTrail n cs (t ++ x ∷ []) (rs ++ k ∷ []) ss (set vs x.0 true)
unit_step n cs t rs ss vs x k tr w u =
    let f : IsForced u.clause x.0 (set_of t) = subst (IsForced u.clause x.0) tr.same u.forced in
    let r : (2 ≤ x.0) × (x.0 < n) = within_numbered n cs k u.clause x.0 w u.is f.others.member in
    trail_push n cs t rs ss vs x k u.clause tr u.is f r.1 r.0 u.few

pub unit_least : (n : ℕ) (cs : List (List Literal)) (from : ℕ → Bool) (t : List Literal) (rs ss : List ℕ) (vs : List Bool) (x : Literal) (k : ℕ) → IsTrail n cs t rs ss vs → IsUnitNumber cs k x.0 (at vs) → IsInEachClosed cs from (set_of t) → IsInEachClosed cs from (set_of (t ++ x ∷ []))
unit_least n cs from t rs ss vs x k tr u least =
    let f : IsForced u.clause x.0 (set_of t) = subst (IsForced u.clause x.0) tr.same u.forced in
    least_push cs from t x k u.clause least u.is f.others

-- one value more is true
pub fewer_false : (vs : List Bool) (i : ℕ) → i < length vs → at vs i ≡ false → count_by not (set vs i true) + 1 ≡ count_by not vs
fewer_false vs i lt unset =
    let count : Bool → ℕ = λ b. cond (not b) 1 0 in
    let sum : sum_by count (set vs i true) + count (get_or vs i false) ≡ sum_by count vs + 0 = sum_by-set count vs i true false lt in
    let one : count (get_or vs i false) ≡ 1 = ap count unset in
    omega (arith, sum, one)

pub unit_fewer : (cs : List (List Literal)) (vs : List Bool) (x : Literal) (k : ℕ) → AreWithin (length vs) cs → IsUnitNumber cs k x.0 (at vs) → count_by not (set vs x.0 true) + 1 ≡ count_by not vs
unit_fewer cs vs x k w u = fewer_false vs x.0 (within_numbered (length vs) cs k u.clause x.0 w u.is u.forced.others.member).1 u.forced.not_true

-- the clause of the next number is quiet too
pub quiet_next : (cs : List (List Literal)) (s : ℕ → Bool) (k : ℕ) (c : List Literal) → numbered cs k ≡ Some c → AreQuiet (take (k - 1) cs) s → IsQuiet c s → AreQuiet (take (k + 1 - 1) cs) s
quiet_next cs s zero c is q here = absurd (cc)
quiet_next cs s (suc i) c is q here =
    let lt : i < length cs = slice_get_within cs i c is in
    let before : suc i - 1 ≡ i = omega arith in
    let after : suc i + 1 - 1 ≡ i + 1 = omega arith in
    let c_is : get_or cs i c ≡ c = get_or_from_slice_get cs i c c is in
    subst (λ (n : ℕ). AreQuiet (take n cs) s) (sym after)
    (quiet_more cs s i c lt (subst (λ (n : ℕ). AreQuiet (take n cs) s) before q) (subst (λ (z : List Literal). IsQuiet z s) (sym c_is) here))
