-- Steps of the way back along the trail.
use Rattle.std.proofs.Common.{◌≡◌, ◌≢◌, ℕ, ◌+◌, ◌-◌, ◌*◌, ◌/◌, ◌<◌, ◌≤◌, ◌⊎◌, Bool, true, false, not, ◌||◌, eqb, List, [], ◌∷◌, ◌++◌, length, take, get_or, Some, slice_get, refl, ap, ◌∙◌, sym, inl, inr, arith, true≢false, eq-eqb}
use Rattle.std.proofs.lemmas.Option.{slice_get_within, get_or_from_slice_get, option_and_then_some}
use Rattle.std.proofs.lemmas.Bool.{or_cases, and_parts, false_from_ne_true, cases_Bool, cases_eq, ne_eqb}
use Rattle.std.proofs.lemmas.List.{take_more}
use Rattle.lemma_checker.specs.declared.literal.Literal.{Literal}
use Rattle.lemma_checker.specs.Clauses.{opposite, has, set_of, at, AreDistinct}
use Rattle.lemma_checker.specs.Chains.{clash, clashes, resolved, resolve_with, numbered, chain_from, chain_result}
use Rattle.lemma_checker.specs.Checker.{Lists}
use Rattle.lemma_checker.specs.Propagation.{AreOthersFalse, AreApart}
use Rattle.lemma_checker.proofs.LawProofs.{opposite_back, opposite_other, opposite_half, opposite_plain, opposite_negated}
use Rattle.lemma_checker.proofs.Semantics.{of_variable}
use Rattle.watch_lists.proofs.Lists.{has_front, lacks_front, has_longer, has_at, push_cases, get_take}
use Rattle.clause_solver.specs.Walks.{IsFound, IsWalk, IsStop, IsClearing, AreRising}

-- a literal of the first i + 1 that is not the last is of the first i
pub front_less : (t : List Literal) (i : ℕ) (x : Literal) (l : ℕ) → slice_get t i ≡ Some x → l ≢ x.0 → has l (take (i + 1) t) ≡ true → has l (take i t) ≡ true
front_less t i x l is away h =
    let lt : i < length t = slice_get_within t i x is in
    let x_is : get_or t i x ≡ x = get_or_from_slice_get t i x x is in
    elim (push_cases l (take i t) (get_or t i x) (sym (ap (has l) (take_more t i x lt)) ∙ h)) [
      | inl old ↦ old
      | inr e ↦ absurd (away (e ∙ ap (λ (z : Literal). z.0) x_is))
    ]

-- the end goes one down
pub end_less : (f : ℕ → Bool) (t : List Literal) (i low : ℕ) (x : Literal) → slice_get t low ≡ Some x → f (opposite x.0) ≡ false → ((l : ℕ) → f l ≡ true → has (opposite l) (take i t) ≡ true → has (opposite l) (take (low + 1) t) ≡ true) → (l : ℕ) → f l ≡ true → has (opposite l) (take i t) ≡ true → has (opposite l) (take low t) ≡ true
end_less f t i low x is clear before l member h = front_less t low x (opposite l) is (λ e. true≢false (sym member ∙ (ap f (sym (opposite_back l) ∙ ap opposite e) ∙ clear))) (before l member h)

-- a chain with one step more
from_push : (cs : List (List Literal)) (e : ℕ → Bool) (ids pivots : List ℕ) (f : ℕ → Bool) (id p : ℕ) (c : List Literal) → chain_from cs e ids pivots ≡ Some f → numbered cs id ≡ Some c → clashes p f (set_of c) ≡ true → chain_from cs e (ids ++ id ∷ []) (pivots ++ p ∷ []) ≡ Some (resolved p f (set_of c))
unfolding resolve_with
from_push cs e [] [] f id p c is at_c clash = let same : e ≡ f = cc in rw (same, at_c, clash) refl
from_push cs e [] (q ∷ qs) f id p c is at_c clash = absurd (cc)
from_push cs e (j ∷ js) [] f id p c is at_c clash = absurd (cc)
from_push cs e (j ∷ js) (q ∷ qs) f id p c is at_c clash =
    option_and_then_some (λ (g : ℕ → Bool). chain_from cs g js qs) (resolve_with q e (numbered cs j)) f is
    (λ g first later. rw first (from_push cs g js qs f id p c later at_c clash))

pub result_push : (cs : List (List Literal)) (ids pivots : List ℕ) (f : ℕ → Bool) (id p : ℕ) (c : List Literal) → chain_result cs ids pivots ≡ Some f → numbered cs id ≡ Some c → clashes p f (set_of c) ≡ true → chain_result cs (ids ++ id ∷ []) (pivots ++ p ∷ []) ≡ Some (resolved p f (set_of c))
result_push cs [] pivots f id p c is at_c clash = absurd (cc)
result_push cs (i ∷ is) pivots f id p c whole at_c clash =
    option_and_then_some (λ (d : List Literal). chain_from cs (set_of d) is pivots) (numbered cs i) f whole
    (λ d first later. rw first (from_push cs (set_of d) is pivots f id p c later at_c clash))

-- two sets, of which the first has the opposite of a literal and not it, and the second the other way round
clash_values : (b c d e : Bool) → b ≡ true → c ≡ false → d ≡ false → e ≡ true → clash b c d e ≡ true
clash_values b c d e p q r s = rw (p, q, r, s) refl

pub clash_at : (x : ℕ) (f g : ℕ → Bool) → f (opposite x) ≡ true → f x ≡ false → g x ≡ true → g (opposite x) ≡ false → clashes (x / 2) f g ≡ true
unfolding clashes
clash_at x f g a b c d = elim (of_variable x (x / 2) refl) [
  | inl plain ↦
      let other : opposite x ≡ 2 * (x / 2) + 1 = ap opposite plain ∙ opposite_plain (x / 2) in
      swapped (f (2 * (x / 2))) (f (2 * (x / 2) + 1)) (g (2 * (x / 2))) (g (2 * (x / 2) + 1)) (ap f (sym plain) ∙ b) (ap f (sym other) ∙ a) (ap g (sym plain) ∙ c) (ap g (sym other) ∙ d)
  | inr negated ↦
      let other : opposite x ≡ 2 * (x / 2) = ap opposite negated ∙ opposite_negated (x / 2) in
      clash_values (f (2 * (x / 2))) (f (2 * (x / 2) + 1)) (g (2 * (x / 2))) (g (2 * (x / 2) + 1)) (ap f (sym other) ∙ a) (ap f (sym negated) ∙ b) (ap g (sym other) ∙ d) (ap g (sym negated) ∙ c)
]
  where
    swapped : (b c d e : Bool) → b ≡ false → c ≡ true → d ≡ true → e ≡ false → clash b c d e ≡ true
    swapped b c d e p q r s = rw (p, q, r, s) refl

-- the literal at the place is not marked: the walk goes on
pub walk_skip : (n : ℕ) (cs : List (List Literal)) (t : List Literal) (i : ℕ) (seen : List Bool) (touched : List Literal) (ids pivots : List ℕ) (x : Literal) → IsWalk n cs t (i + 1) seen touched ids pivots → slice_get t i ≡ Some x → at seen (opposite x.0) ≡ false → IsWalk n cs t i seen touched ids pivots
walk_skip n cs t i seen touched ids pivots x w is clear = record {
  size = w.size;
  lists = w.lists;
  chain = w.chain;
  below = λ l h. front_less t i x (opposite l) is (λ e. true≢false (sym h ∙ (ap (at seen) (sym (opposite_back l) ∙ ap opposite e) ∙ clear))) (w.below l h);
}

-- the reason's clause can be resolved with the set
pub walk_clash : (n : ℕ) (cs : List (List Literal)) (t : List Literal) (i : ℕ) (seen : List Bool) (touched : List Literal) (ids pivots : List ℕ) (x : Literal) (c : List Literal) → AreApart (set_of t) → AreDistinct t → IsWalk n cs t (i + 1) seen touched ids pivots → slice_get t i ≡ Some x → at seen (opposite x.0) ≡ true → AreOthersFalse c x.0 (set_of (take i t)) → clashes (x.0 / 2) (at seen) (set_of c) ≡ true
walk_clash n cs t i seen touched ids pivots x c a once w is yes_marked others = clash_at x.0 (at seen) (set_of c) yes_marked
    (false_from_ne_true (at seen x.0) (λ h. true≢false (sym (has_front (i + 1) t (opposite x.0) (w.below x.0 h)) ∙ a.apart x.0 (has_at t i x is))))
    others.member
    (false_from_ne_true (has (opposite x.0) c) (λ h. true≢false (sym (ap (λ (k : ℕ). has k (take i t)) (sym (opposite_back x.0)) ∙ others.others (opposite x.0) h (opposite_other x.0)) ∙ once.once i x is)))

-- the set is resolved with the reason's clause
pub walk_step : (n : ℕ) (cs : List (List Literal)) (t : List Literal) (i : ℕ) (seen after : List Bool) (touched more : List Literal) (ids pivots : List ℕ) (x : Literal) (id : ℕ) (c : List Literal) → IsWalk n cs t (i + 1) seen touched ids pivots → slice_get t i ≡ Some x → numbered cs id ≡ Some c → clashes (x.0 / 2) (at seen) (set_of c) ≡ true → AreOthersFalse c x.0 (set_of (take i t)) → length after ≡ length seen → Lists after more → at after ≡ resolved (x.0 / 2) (at seen) (set_of c) → IsWalk n cs t i after more (ids ++ id ∷ []) (pivots ++ (x.0 / 2) ∷ [])
unfolding resolved
walk_step n cs t i seen after touched more ids pivots x id c w is at_c clash others long lists same = record {
  size = long ∙ w.size;
  lists = lists;
  chain = result_push cs ids pivots (at seen) id (x.0 / 2) c w.chain at_c clash ∙ ap Some (sym same);
  below = λ l h.
      let parts : (not (eqb (l / 2) (x.0 / 2)) ≡ true) × ((at seen l || has l c) ≡ true) = and_parts _ _ (sym (ap (λ (f : ℕ → Bool). f l) same) ∙ h) in
      let away : l / 2 ≢ x.0 / 2 = λ e. true≢false (sym parts.0 ∙ ap not (eq-eqb (l / 2) (x.0 / 2) e)) in
      elim (or_cases (at seen l) (has l c) parts.1) [
        | inl marked ↦ front_less t i x (opposite l) is (λ e. away (sym (opposite_half l) ∙ ap (λ (k : ℕ). k / 2) e)) (w.below l marked)
        | inr member ↦ others.others l member (λ e. away (ap (λ (k : ℕ). k / 2) e))
      ];
}

-- the set that is kept, before anything is resolved away
pub clear_start : (n : ℕ) (cs : List (List Literal)) (t : List Literal) (i bottom : ℕ) (seen : List Bool) (touched : List Literal) (ids pivots : List ℕ) → IsWalk n cs t i seen touched ids pivots → IsClearing n cs t bottom bottom (at seen) seen touched ids pivots
clear_start n cs t i bottom seen touched ids pivots w = record {
  size = w.size;
  lists = w.lists;
  chain = w.chain;
  inside = λ l h. has_front i t (opposite l) (w.below l h);
  cases = λ l h. elim (cases_Bool (has (opposite l) (take bottom t))) [ inl low ↦ inl low | inr high ↦ inr (h, high) ];
  kept = λ l h high. h;
}

pub clear_skip : (n : ℕ) (cs : List (List Literal)) (t : List Literal) (bottom p : ℕ) (first : ℕ → Bool) (seen : List Bool) (touched : List Literal) (ids pivots : List ℕ) (x : Literal) → IsClearing n cs t bottom (p + 1) first seen touched ids pivots → slice_get t p ≡ Some x → at seen (opposite x.0) ≡ false → IsClearing n cs t bottom p first seen touched ids pivots
clear_skip n cs t bottom p first seen touched ids pivots x w is clear = record {
  size = w.size;
  lists = w.lists;
  chain = w.chain;
  inside = w.inside;
  cases = λ l h. elim (w.cases l h) [
    | inl low ↦ inl (front_less t p x (opposite l) is (λ e. true≢false (sym h ∙ (ap (at seen) (sym (opposite_back l) ∙ ap opposite e) ∙ clear))) low)
    | inr high ↦ inr high
  ];
  kept = w.kept;
}

-- the reason's clause can be resolved with the set
pub clear_clash : (t : List Literal) (p : ℕ) (seen : List Bool) (x : Literal) (c : List Literal) → AreApart (set_of t) → AreDistinct t → ((l : ℕ) → at seen l ≡ true → has (opposite l) t ≡ true) → slice_get t p ≡ Some x → at seen (opposite x.0) ≡ true → AreOthersFalse c x.0 (set_of (take p t)) → clashes (x.0 / 2) (at seen) (set_of c) ≡ true
clear_clash t p seen x c a once inside is yes_marked others = clash_at x.0 (at seen) (set_of c) yes_marked
    (false_from_ne_true (at seen x.0) (λ h. true≢false (sym (inside x.0 h) ∙ a.apart x.0 (has_at t p x is))))
    others.member
    (false_from_ne_true (has (opposite x.0) c) (λ h. true≢false (sym (ap (λ (k : ℕ). has k (take p t)) (sym (opposite_back x.0)) ∙ others.others (opposite x.0) h (opposite_other x.0)) ∙ once.once p x is)))

-- two literals of one variable
pub same_half : (l k : ℕ) → l / 2 ≡ k / 2 → (l ≡ k) ⊎ (opposite l ≡ k)
same_half l k e = elim (of_variable l (k / 2) e) [
  | inl plain ↦ elim (of_variable k (k / 2) refl) [
    | inl same ↦ inl (plain ∙ sym same)
    | inr other ↦ inr (ap opposite plain ∙ (opposite_plain (k / 2) ∙ sym other))
  ]
  | inr negated ↦ elim (of_variable k (k / 2) refl) [
    | inl other ↦ inr (ap opposite negated ∙ (opposite_negated (k / 2) ∙ sym other))
    | inr same ↦ inl (negated ∙ sym same)
  ]
]

pub clear_step : (n : ℕ) (cs : List (List Literal)) (t : List Literal) (bottom p : ℕ) (first : ℕ → Bool) (seen after : List Bool) (touched more : List Literal) (ids pivots : List ℕ) (x : Literal) (id : ℕ) (c : List Literal) → AreApart (set_of t) → p < bottom → IsClearing n cs t bottom (p + 1) first seen touched ids pivots → slice_get t p ≡ Some x → numbered cs id ≡ Some c → clashes (x.0 / 2) (at seen) (set_of c) ≡ true → AreOthersFalse c x.0 (set_of (take p t)) → length after ≡ length seen → Lists after more → at after ≡ resolved (x.0 / 2) (at seen) (set_of c) → IsClearing n cs t bottom p first after more (ids ++ id ∷ []) (pivots ++ (x.0 / 2) ∷ [])
unfolding resolved
clear_step n cs t bottom p first seen after touched more ids pivots x id c a lt w is at_c clash others long lists same =
    let parts : (l : ℕ) → at after l ≡ true → (not (eqb (l / 2) (x.0 / 2)) ≡ true) × ((at seen l || has l c) ≡ true) = λ l h. and_parts _ _ (sym (ap (λ (f : ℕ → Bool). f l) same) ∙ h) in
    let apart : (l : ℕ) → at after l ≡ true → l / 2 ≢ x.0 / 2 = λ l h e. true≢false (sym (parts l h).0 ∙ ap not (eq-eqb (l / 2) (x.0 / 2) e)) in
    record {
      size = long ∙ w.size;
      lists = lists;
      chain = result_push cs ids pivots (at seen) id (x.0 / 2) c w.chain at_c clash ∙ ap Some (sym same);
      inside = λ l h. elim (or_cases (at seen l) (has l c) (parts l h).1) [
        | inl old ↦ w.inside l old
        | inr member ↦ has_front p t (opposite l) (others.others l member (λ e. apart l h (ap (λ (k : ℕ). k / 2) e)))
      ];
      cases = λ l h. elim (or_cases (at seen l) (has l c) (parts l h).1) [
        | inl old ↦ elim (w.cases l old) [
          | inl low ↦ inl (front_less t p x (opposite l) is (λ e. apart l h (sym (opposite_half l) ∙ ap (λ (k : ℕ). k / 2) e)) low)
          | inr high ↦ inr high
        ]
        | inr member ↦ inl (others.others l member (λ e. apart l h (ap (λ (k : ℕ). k / 2) e)))
      ];
      kept = λ l h high.
          let old : at seen l ≡ true = w.kept l h high in
          let not_x : l ≢ x.0 = λ e. true≢false (sym (ap (λ (k : ℕ). has (opposite k) t) (sym e) ∙ w.inside l old) ∙ a.apart x.0 (has_at t p x is)) in
          let not_opposite : opposite l ≢ x.0 = λ e. true≢false (sym (has_at (take bottom t) p x (get_take bottom t p x lt is)) ∙ (ap (λ (k : ℕ). has k (take bottom t)) (sym e) ∙ high)) in
          let other : l / 2 ≢ x.0 / 2 = λ e. elim (same_half l x.0 e) [ inl q ↦ not_x q | inr q ↦ not_opposite q ] in
          ap (λ (f : ℕ → Bool). f l) same ∙ rw (ne_eqb (l / 2) (x.0 / 2) other, old) refl;
    }

lacks_earlier : (t : List Literal) (m i l : ℕ) → m ≤ i → has l (take i t) ≡ false → has l (take m t) ≡ false
lacks_earlier t m i l le h = false_from_ne_true (has l (take m t)) (λ e. true≢false (sym (has_longer m i t l le e) ∙ h))

-- what is left of a set after its literals that are denied before the first level were resolved away
pub record IsCleared (t : List Literal) (bottom : ℕ) (first f : ℕ → Bool) : Type 0 where
  pub only : (l : ℕ) → f l ≡ true → (first l ≡ true) × (has (opposite l) (take bottom t) ≡ false)
  pub kept : (l : ℕ) → first l ≡ true → has (opposite l) (take bottom t) ≡ false → f l ≡ true

pub cleared : (n : ℕ) (cs : List (List Literal)) (t : List Literal) (bottom p : ℕ) (first : ℕ → Bool) (seen : List Bool) (touched : List Literal) (ids pivots : List ℕ) → p ≡ 0 → IsClearing n cs t bottom p first seen touched ids pivots → IsCleared t bottom first (at seen)
cleared n cs t bottom p first seen touched ids pivots e w = record {
  only = λ l h. elim (w.cases l h) [ inl low ↦ absurd (true≢false (sym low ∙ ap (λ (k : ℕ). has (opposite l) (take k t)) e)) | inr high ↦ high ];
  kept = w.kept;
}

-- the parts of a stop that the second literal does not touch
pub record IsHalt (t : List Literal) (ss : List ℕ) (f : ℕ → Bool) (l k bottom : ℕ) : Type 0 where
  pub place : ℕ
  pub is : slice_get ss k ≡ Some place
  pub above : bottom ≤ place
  pub member : f l ≡ true
  pub others : (x : ℕ) → f x ≡ true → x ≢ l → has (opposite x) (take place t) ≡ true
  pub absent : has l (take place t) ≡ false
  pub free : has (opposite l) (take place t) ≡ false

pub bottom_first : (ss : List ℕ) (bottom j a : ℕ) → AreRising ss → slice_get ss 0 ≡ Some bottom → slice_get ss j ≡ Some a → bottom ≤ a
bottom_first ss bottom j a rising low is = elim (cases_eq j 0) [
  | inl e ↦ omega (arith, same_number (sym low ∙ (ap (slice_get ss) (sym e) ∙ is)))
  | inr later ↦ omega (arith, rising.each 0 j bottom a (omega arith) low is)
]
  where
    same_number : {y z : ℕ} → Some y ≡ Some z → y ≡ z
    same_number e = cc

halt : (n : ℕ) (cs : List (List Literal)) (t : List Literal) (ss : List ℕ) (i : ℕ) (seen : List Bool) (touched : List Literal) (ids pivots : List ℕ) (x : Literal) (k low bottom : ℕ) (f : ℕ → Bool) → AreApart (set_of t) → AreDistinct t → AreRising ss → slice_get ss 0 ≡ Some bottom → IsWalk n cs t (i + 1) seen touched ids pivots → slice_get t i ≡ Some x → at seen (opposite x.0) ≡ true → IsFound (at seen) t ss i k low → IsCleared t bottom (at seen) f → IsHalt t ss f (opposite x.0) k bottom
halt n cs t ss i seen touched ids pivots x k low bottom f a once rising low_is w is marked found c =
    let above : bottom ≤ found.between.place = bottom_first ss bottom k found.between.place rising low_is found.between.is in
    let back : (m : ℕ) → m ≤ i → has (opposite (opposite x.0)) (take m t) ≡ false = λ m le. ap (λ (l : ℕ). has l (take m t)) (opposite_back x.0) ∙ lacks_earlier t m i x.0 le (once.once i x is) in
    record {
      place = found.between.place;
      is = found.between.is;
      above = above;
      member = c.kept (opposite x.0) marked (back bottom (omega (arith, above, found.between.until)));
      others = λ m h away.
          let not_x : opposite m ≢ x.0 = λ e. away (sym (opposite_back m) ∙ ap opposite e) in
          has_longer low found.between.place t (opposite m) found.between.from (found.end.before m (c.only m h).0 (front_less t i x (opposite m) is not_x (w.below m (c.only m h).0)));
      absent = lacks_front found.between.place t (opposite x.0) (a.apart x.0 (has_at t i x is));
      free = back found.between.place found.between.until;
    }

-- the walk stopped, and a literal that is denied after the start of the first level is left beside the first
pub stop_second : (n : ℕ) (cs : List (List Literal)) (t : List Literal) (ss : List ℕ) (i : ℕ) (seen : List Bool) (touched : List Literal) (ids pivots : List ℕ) (x y : Literal) (k low bottom : ℕ) (f : ℕ → Bool) → AreApart (set_of t) → AreDistinct t → AreRising ss → slice_get ss 0 ≡ Some bottom → IsWalk n cs t (i + 1) seen touched ids pivots → slice_get t i ≡ Some x → at seen (opposite x.0) ≡ true → IsFound (at seen) t ss i k low → IsCleared t bottom (at seen) f → bottom < low → slice_get t (low - 1) ≡ Some y → IsStop t ss f (opposite x.0) (opposite y.0) k
stop_second n cs t ss i seen touched ids pivots x y k low bottom f a once rising low_is w is marked found c above y_is =
    let h : IsHalt t ss f (opposite x.0) k bottom = halt n cs t ss i seen touched ids pivots x k low bottom f a once rising low_is w is marked found c in
    let before_i : low - 1 < i = omega (arith, found.end.within) in
    let away : (m : ℕ) → m < low → has (opposite (opposite y.0)) (take m t) ≡ false = λ m le. ap (λ (l : ℕ). has l (take m t)) (opposite_back y.0) ∙ lacks_earlier t m (low - 1) y.0 (omega arith) (once.once (low - 1) y y_is) in
    let different : opposite y.0 ≢ opposite x.0 = λ e.
    let same : y.0 ≡ x.0 = sym (opposite_back y.0) ∙ (ap opposite e ∙ opposite_back x.0) in
    true≢false (sym (ap (λ (l : ℕ). has l (take i t)) (sym same) ∙ has_at (take i t) (low - 1) y (get_take i t (low - 1) y before_i y_is)) ∙ once.once i x is) in
    record {
      place = h.place;
      is = h.is;
      member = h.member;
      others = h.others;
      absent = h.absent;
      free = h.free;
      second = c.kept (opposite y.0) (found.end.last (low - 1) y (omega arith) y_is) (away bottom above);
      lower = λ j b under at_j. (different, away b (found.between.lower j b under at_j));
      alone = λ e. absurd (different e);
    }

-- or no other literal is left
pub stop_alone : (n : ℕ) (cs : List (List Literal)) (t : List Literal) (ss : List ℕ) (i : ℕ) (seen : List Bool) (touched : List Literal) (ids pivots : List ℕ) (x : Literal) (k low bottom : ℕ) (f : ℕ → Bool) → AreApart (set_of t) → AreDistinct t → AreRising ss → slice_get ss 0 ≡ Some bottom → IsWalk n cs t (i + 1) seen touched ids pivots → slice_get t i ≡ Some x → at seen (opposite x.0) ≡ true → IsFound (at seen) t ss i k low → IsCleared t bottom (at seen) f → low ≤ bottom → IsStop t ss f (opposite x.0) (opposite x.0) k
stop_alone n cs t ss i seen touched ids pivots x k low bottom f a once rising low_is w is marked found c under =
    let h : IsHalt t ss f (opposite x.0) k bottom = halt n cs t ss i seen touched ids pivots x k low bottom f a once rising low_is w is marked found c in
    record {
      place = h.place;
      is = h.is;
      member = h.member;
      others = h.others;
      absent = h.absent;
      free = h.free;
      second = h.member;
      lower = λ j b less at_j. absurd (omega (arith, found.between.lower j b less at_j, bottom_first ss bottom j b rising low_is at_j, under));
      alone = λ _ m member. elim (cases_eq m (opposite x.0)) [
        | inl e ↦ e
        | inr away ↦
            let not_x : opposite m ≢ x.0 = λ e. away (sym (opposite_back m) ∙ ap opposite e) in
            let early : has (opposite m) (take bottom t) ≡ true = has_longer low bottom t (opposite m) under (found.end.before m (c.only m member).0 (front_less t i x (opposite m) is not_x (w.below m (c.only m member).0))) in
            absurd (true≢false (sym early ∙ (c.only m member).1))
      ];
    }
