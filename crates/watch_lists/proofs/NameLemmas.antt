-- Which clauses a list of watches names, and what its changes leave.
use Rattle.std.proofs.Common.{◌≡◌, ◌≢◌, ℕ, zero, suc, ◌+◌, ◌-◌, ◌<◌, ◌≤◌, ◌⊎◌, Bool, true, false, eqb, ◌||◌, List, [], ◌∷◌, ◌++◌, length, drop, get_or, set, Some, slice_get, refl, ap, ◌∙◌, sym, inl, inr, arith, true≢false, eq-eqb, length-set}
use Rattle.std.specs.List.{swap_remove}
use Rattle.std.proofs.lemmas.Option.{slice_get_within, slice_get-get_or, get_or_from_slice_get}
use Rattle.std.proofs.lemmas.Bool.{cases_eq, cases_lt, or_cases, or_left, or_right, eqb-true}
use Rattle.std.proofs.lemmas.List.{get_or-set_same, get_or-set_other, get_or-take, length-take-le}
use Rattle.watch_lists.specs.declared.watch.Watch.{Watch}
use Rattle.watch_lists.specs.Watching.{names}

-- where a list names the clause
pub record IsNamed (k : ℕ) (ws : List Watch) (from : ℕ) : Type 0 where
  pub place : ℕ
  pub watch : Watch
  pub late : from ≤ place
  pub is : slice_get ws place ≡ Some watch
  pub number : watch.clause ≡ k

pub named_place : (k : ℕ) (ws : List Watch) (from : ℕ) → names k (drop from ws) ≡ true → IsNamed k ws from
named_place k [] zero h = absurd (true≢false (sym h))
named_place k [] (suc i) h = absurd (true≢false (sym h))
named_place k (w ∷ ws) zero h = elim (or_cases (eqb w.clause k) (names k ws) h) [
  | inl here ↦ record { place = 0; watch = w; late = omega arith; is = refl; number = eqb-true w.clause k here }
  | inr later ↦ let n : IsNamed k ws 0 = named_place k ws 0 later in record { place = suc n.place; watch = n.watch; late = omega arith; is = n.is; number = n.number }
]
named_place k (w ∷ ws) (suc i) h = let n : IsNamed k ws i = named_place k ws i h in record { place = suc n.place; watch = n.watch; late = omega (arith, n.late); is = n.is; number = n.number }

pub names_at : (k : ℕ) (ws : List Watch) (from p : ℕ) (w : Watch) → from ≤ p → slice_get ws p ≡ Some w → w.clause ≡ k → names k (drop from ws) ≡ true
names_at k [] zero p w le is e = absurd (cc)
names_at k [] (suc from) p w le is e = absurd (cc)
names_at k (v ∷ ws) zero zero w le is e = let same : v ≡ w = cc in or_left (eqb v.clause k) (names k ws) (eq-eqb v.clause k (ap (λ (z : Watch). z.clause) same ∙ e))
names_at k (v ∷ ws) zero (suc p) w le is e = or_right (eqb v.clause k) (names k ws) (names_at k ws 0 p w (omega arith) is e)
names_at k (v ∷ ws) (suc from) zero w le is e = absurd (omega arith)
names_at k (v ∷ ws) (suc from) (suc p) w le is e = names_at k ws from p w (omega arith) is e

-- one step along the list
pub names_step : (k : ℕ) (ws : List Watch) (i : ℕ) (w : Watch) → slice_get ws i ≡ Some w → names k (drop i ws) ≡ true → (w.clause ≡ k) ⊎ (names k (drop (i + 1) ws) ≡ true)
names_step k ws i w is h =
    let n : IsNamed k ws i = named_place k ws i h in
    elim (cases_eq n.place i) [
      | inl e ↦ let same : w ≡ n.watch = same_some w n.watch (sym is ∙ (ap (slice_get ws) (sym e) ∙ n.is)) in inl (ap (λ (z : Watch). z.clause) same ∙ n.number)
      | inr away ↦ inr (names_at k ws (i + 1) n.place n.watch (omega (arith, n.late)) n.is n.number)
    ]
  where
    same_some : (x y : Watch) → Some x ≡ Some y → x ≡ y
    same_some x y e = cc

-- a watch of the same clause is put in place
pub names_set : (k : ℕ) (ws : List Watch) (i : ℕ) (v w : Watch) → slice_get ws i ≡ Some v → w.clause ≡ v.clause → names k (set ws i w) ≡ names k ws
names_set k [] i v w is e = refl
names_set k (x ∷ ws) zero v w is e = let same : x ≡ v = cc in ap (λ (n : ℕ). names k (record { clause = n; blocker = w.blocker; start = w.start; end = w.end } ∷ ws)) (e ∙ ap (λ (z : Watch). z.clause) (sym same))
names_set k (x ∷ ws) (suc i) v w is e = ap (λ (b : Bool). eqb x.clause k || b) (names_set k ws i v w is e)

pub element_set : (ws : List Watch) (i j : ℕ) (v w : Watch) → slice_get (set ws i v) j ≡ Some w → (w ≡ v) ⊎ (slice_get ws j ≡ Some w)
element_set [] i j v w is = absurd (cc)
element_set (x ∷ ws) zero zero v w is = inl cc
element_set (x ∷ ws) zero (suc j) v w is = inr is
element_set (x ∷ ws) (suc i) zero v w is = inr is
element_set (x ∷ ws) (suc i) (suc j) v w is = element_set ws i j v w is

-- the last watch takes the place of another
pub removed_length : (ws : List Watch) (i : ℕ) (d : Watch) → length (swap_remove ws i d) ≡ length ws - 1
removed_length ws i d = length-take-le (length ws - 1) (set ws i (get_or ws (length ws - 1) d)) (omega (arith, length-set ws i (get_or ws (length ws - 1) d)))

removed_other : (ws : List Watch) (i j : ℕ) (d : Watch) → j + 1 < length ws → j ≢ i → get_or (swap_remove ws i d) j d ≡ get_or ws j d
removed_other ws i j d lt away = get_or-take (length ws - 1) (set ws i (get_or ws (length ws - 1) d)) j d (omega arith) ∙ get_or-set_other ws i j (get_or ws (length ws - 1) d) d away

removed_here : (ws : List Watch) (i : ℕ) (d : Watch) → i + 1 < length ws → get_or (swap_remove ws i d) i d ≡ get_or ws (length ws - 1) d
removed_here ws i d lt = get_or-take (length ws - 1) (set ws i (get_or ws (length ws - 1) d)) i d (omega arith) ∙ get_or-set_same ws i (get_or ws (length ws - 1) d) d (omega arith)

-- each other clause stays named, at the place or past it
pub names_removed : (k : ℕ) (ws : List Watch) (from i : ℕ) (d w : Watch) → from ≤ i → slice_get ws i ≡ Some w → w.clause ≢ k → names k (drop from ws) ≡ true → names k (drop from (swap_remove ws i d)) ≡ true
names_removed k ws from i d w le is away h =
    let n : IsNamed k ws from = named_place k ws from h in
    let lt : n.place < length ws = slice_get_within ws n.place n.watch n.is in
    let here : get_or ws n.place d ≡ n.watch = get_or_from_slice_get ws n.place n.watch d n.is in
    let long : length (swap_remove ws i d) ≡ length ws - 1 = removed_length ws i d in
    elim (cases_eq n.place i) [
      | inl e ↦ absurd (away (ap (λ (z : Watch). z.clause) (same_some w n.watch (sym is ∙ (ap (slice_get ws) (sym e) ∙ n.is))) ∙ n.number))
      | inr other ↦ elim (cases_lt (n.place + 1) (length ws)) [
        | inl early ↦ names_at k (swap_remove ws i d) from n.place n.watch n.late (slice_get-get_or (swap_remove ws i d) n.place d (omega (arith, long)) ∙ ap (λ (z : Watch). Some z) (removed_other ws i n.place d early other ∙ here)) n.number
        | inr end ↦
            let i_lt : i < length ws = slice_get_within ws i w is in
            let last : length ws - 1 ≡ n.place = omega arith in
            names_at k (swap_remove ws i d) from i n.watch le (slice_get-get_or (swap_remove ws i d) i d (omega (arith, long)) ∙ ap (λ (z : Watch). Some z) (removed_here ws i d (omega arith) ∙ (ap (λ (p : ℕ). get_or ws p d) last ∙ here))) n.number
      ]
    ]
  where
    same_some : (x y : Watch) → Some x ≡ Some y → x ≡ y
    same_some x y e = cc

-- an element of what is left is one of the list
pub record IsIn (ws : List Watch) (w : Watch) : Type 0 where
  pub place : ℕ
  pub is : slice_get ws place ≡ Some w

pub element_removed : (ws : List Watch) (i j : ℕ) (d w : Watch) → i < length ws → slice_get (swap_remove ws i d) j ≡ Some w → IsIn ws w
element_removed ws i j d w i_lt is =
    let lt : j < length (swap_remove ws i d) = slice_get_within (swap_remove ws i d) j w is in
    let long : length (swap_remove ws i d) ≡ length ws - 1 = removed_length ws i d in
    let here : get_or (swap_remove ws i d) j d ≡ w = get_or_from_slice_get (swap_remove ws i d) j w d is in
    elim (cases_eq j i) [
      | inl e ↦
          let at_i : get_or (swap_remove ws i d) i d ≡ w = ap (λ (p : ℕ). get_or (swap_remove ws i d) p d) (sym e) ∙ here in
          record { place = length ws - 1; is = slice_get-get_or ws (length ws - 1) d (omega arith) ∙ ap (λ (z : Watch). Some z) (sym (removed_here ws i d (omega (arith, e))) ∙ at_i) }
      | inr away ↦ record { place = j; is = slice_get-get_or ws j d (omega arith) ∙ ap (λ (z : Watch). Some z) (sym (removed_other ws i j d (omega arith) away) ∙ here) }
    ]

-- a watch at the end of the list
pub names_push_old : (k : ℕ) (ws : List Watch) (w : Watch) → names k ws ≡ true → names k (ws ++ w ∷ []) ≡ true
names_push_old k [] w h = absurd (true≢false (sym h))
names_push_old k (x ∷ ws) w h = elim (or_cases (eqb x.clause k) (names k ws) h) [ inl here ↦ or_left (eqb x.clause k) (names k (ws ++ w ∷ [])) here | inr later ↦ or_right (eqb x.clause k) (names k (ws ++ w ∷ [])) (names_push_old k ws w later) ]

pub names_push_new : (ws : List Watch) (w : Watch) → names w.clause (ws ++ w ∷ []) ≡ true
names_push_new [] w = or_left (eqb w.clause w.clause) false (eq-eqb w.clause w.clause refl)
names_push_new (x ∷ ws) w = or_right (eqb x.clause w.clause) (names w.clause (ws ++ w ∷ [])) (names_push_new ws w)
