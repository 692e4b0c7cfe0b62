-- New clauses are few: each has a number of its own below 3^n, and not 0.
use Rattle.std.proofs.Common.{◌≡◌, ℕ, zero, suc, ◌+◌, ◌*◌, ◌/◌, ◌^◌, ◌<◌, ◌≤◌, Bool, true, false, eqb, List, [], ◌∷◌, ◌++◌, length, take, map, get_or, Some, slice_get, refl, ap, ◌∙◌, sym, subst, inl, inr, arith, true≢false, add-one}
use Rattle.std.specs.List.{list_any, IsDistinct}
use Rattle.std.proofs.lemmas.Option.{slice_get-get_or}
use Rattle.std.proofs.lemmas.Bool.{cases_eq, or_cases, eqb-true, false_from_ne_true}
use Rattle.std.proofs.lemmas.List.{take_all, take_more, map_push, length-map}
use Rattle.std.proofs.lemmas.Map.Steps.{length-le_from_distinct_below}
use Rattle.std.proofs.lemmas.Map.Keys.{IsDistinct-push}
use Rattle.std.proofs.lemmas.Cmp.{nat_eq_equiv}
use Rattle.lemma_checker.specs.declared.literal.Literal.{Literal}
use Rattle.lemma_checker.specs.Clauses.{has, IsOver, AreOver}
use Rattle.lemma_checker.specs.Propagation.{IsNew, AreNew}
use Rattle.lemma_checker.proofs.ListLemmas.{get_right}
use Rattle.lemma_checker.proofs.LawProofs.{new_contains_none, new_has_no_variable_twice}
use Rattle.lemma_checker.proofs.Semantics.{of_variable}
use Rattle.watch_lists.proofs.Lists.{get_front}

pub digit : Bool → Bool → ℕ
digit true b = 1
digit false true = 2
digit false false = 0

digit_low : (a b : Bool) → digit a b ≤ 2
unfolding digit
digit_low true b = omega arith
digit_low false true = omega arith
digit_low false false = omega arith

-- the clause's number: a digit for each variable
pub code : ℕ → List Literal → ℕ
code zero c = 0
code (suc v) c = digit (has (2 * suc v) c) (has (2 * suc v + 1) c) * 3 ^ v + code v c

three_more : (v : ℕ) → 3 ^ suc v ≡ 3 * 3 ^ v
three_more v = grind arith

step_below : (d p r : ℕ) → d ≤ 2 → r < p → d * p + r < 3 * p
step_below zero p r le lt = omega arith
step_below (suc zero) p r le lt = omega arith
step_below (suc (suc zero)) p r le lt = omega arith
step_below (suc (suc (suc d))) p r le lt = absurd (omega arith)

code_below : (v : ℕ) (c : List Literal) → code v c < 3 ^ v
unfolding code
code_below zero c = omega arith
code_below (suc v) c = subst (λ (n : ℕ). digit (has (2 * suc v) c) (has (2 * suc v + 1) c) * 3 ^ v + code v c < n) (sym (three_more v)) (step_below _ (3 ^ v) (code v c) (digit_low _ _) (code_below v c))

-- equal sums have equal digits and rests
digit_step : (d e p r s : ℕ) → d ≤ 2 → e ≤ 2 → r < p → s < p → d * p + r ≡ e * p + s → (d ≡ e) × (r ≡ s)
digit_step zero zero p r s a b x y q = (refl, omega arith)
digit_step zero (suc zero) p r s a b x y q = absurd (omega arith)
digit_step zero (suc (suc zero)) p r s a b x y q = absurd (omega arith)
digit_step zero (suc (suc (suc e))) p r s a b x y q = absurd (omega (arith, b))
digit_step (suc zero) zero p r s a b x y q = absurd (omega arith)
digit_step (suc zero) (suc zero) p r s a b x y q = (refl, omega arith)
digit_step (suc zero) (suc (suc zero)) p r s a b x y q = absurd (omega arith)
digit_step (suc zero) (suc (suc (suc e))) p r s a b x y q = absurd (omega (arith, b))
digit_step (suc (suc zero)) zero p r s a b x y q = absurd (omega arith)
digit_step (suc (suc zero)) (suc zero) p r s a b x y q = absurd (omega arith)
digit_step (suc (suc zero)) (suc (suc zero)) p r s a b x y q = (refl, omega arith)
digit_step (suc (suc zero)) (suc (suc (suc e))) p r s a b x y q = absurd (omega (arith, b))
digit_step (suc (suc (suc d))) e p r s a b x y q = absurd (omega (arith, a))

-- clauses with the same number have the same digits
same_digits : (v : ℕ) (c d : List Literal) → code v c ≡ code v d → (w : ℕ) → 1 ≤ w → w ≤ v → digit (has (2 * w) c) (has (2 * w + 1) c) ≡ digit (has (2 * w) d) (has (2 * w + 1) d)
unfolding code
same_digits zero c d e w low high = absurd (omega arith)
same_digits (suc v) c d e w low high =
    let parts : (digit (has (2 * suc v) c) (has (2 * suc v + 1) c) ≡ digit (has (2 * suc v) d) (has (2 * suc v + 1) d)) × (code v c ≡ code v d) = digit_step _ _ (3 ^ v) (code v c) (code v d) (digit_low _ _) (digit_low _ _) (code_below v c) (code_below v d) e in
    elim (cases_eq w (suc v)) [
      | inl here ↦ subst (λ (z : ℕ). digit (has (2 * z) c) (has (2 * z + 1) c) ≡ digit (has (2 * z) d) (has (2 * z + 1) d)) (sym here) parts.0
      | inr away ↦ same_digits v c d parts.1 w low (omega arith)
    ]

digit_plain : (a b x y : Bool) → digit a b ≡ digit x y → a ≡ true → x ≡ true
unfolding digit
digit_plain a b true y e h = refl
digit_plain true b false true e h = absurd (omega (arith, e))
digit_plain true b false false e h = absurd (omega (arith, e))
digit_plain false b false y e h = h

digit_negated : (a b x y : Bool) → digit a b ≡ digit x y → (a ≡ true → b ≡ true → ⊥) → b ≡ true → y ≡ true
unfolding digit
digit_negated a b x true e apart h = refl
digit_negated true b x false e apart h = absurd (apart refl h)
digit_negated false true true false e apart h = absurd (omega (arith, e))
digit_negated false true false false e apart h = absurd (omega (arith, e))
digit_negated false false x false e apart h = h

-- a clause with no variable twice lies in one of the same number
pub same_code_inside : (vars : ℕ) (c d : List Literal) → IsOver vars c → ((v : ℕ) → has (2 * v) c ≡ true → has (2 * v + 1) c ≡ true → ⊥) → code vars c ≡ code vars d → (l : ℕ) → has l c ≡ true → has l d ≡ true
same_code_inside vars c d o apart e l h =
    let low : 2 ≤ l = o.low l h in
    let high : l < 2 * vars + 2 = o.high l h in
    let w : ℕ = l / 2 in
    let same : digit (has (2 * w) c) (has (2 * w + 1) c) ≡ digit (has (2 * w) d) (has (2 * w + 1) d) = same_digits vars c d e w (omega arith) (omega arith) in
    elim (of_variable l w refl) [
      | inl plain ↦ ap (λ (k : ℕ). has k d) plain ∙ digit_plain _ _ _ _ same (ap (λ (k : ℕ). has k c) (sym plain) ∙ h)
      | inr negated ↦ ap (λ (k : ℕ). has k d) negated ∙ digit_negated _ _ _ _ same (apart w) (ap (λ (k : ℕ). has k c) (sym negated) ∙ h)
    ]

-- the number of a clause with a literal is not 0
code_none : (vars : ℕ) → code vars [] ≡ 0
unfolding code digit
code_none zero = refl
code_none (suc v) = omega (arith, code_none v)

-- a member of a list stands somewhere in it
member_place : (xs : List ℕ) (q : ℕ) → list_any (eqb q) xs ≡ true → (i : ℕ) × (slice_get xs i ≡ Some q)
member_place [] q h = absurd (true≢false (sym h))
member_place (x ∷ xs) q h = elim (or_cases (eqb q x) (list_any (eqb q) xs) h) [
  | inl here ↦ (0, ap Some (sym (eqb-true q x here)))
  | inr later ↦ let r : (i : ℕ) × (slice_get xs i ≡ Some q) = member_place xs q later in (suc r.0, r.1)
]

-- the numbers of the first n new clauses, and 0
codes : ℕ → List (List Literal) → List ℕ
codes vars added = 0 ∷ map (code vars) added

map_get : {X Y : Type 0} (f : X → Y) (xs : List X) (i : ℕ) (y : Y) → slice_get (map f xs) i ≡ Some y → (x : X) × (slice_get xs i ≡ Some x) × (f x ≡ y)
map_get f [] i y is = absurd (cc)
map_get f (x ∷ xs) zero y is = let e : f x ≡ y = cc in (x, refl, e)
map_get f (x ∷ xs) (suc i) y is = map_get f xs i y is

-- one clause's number is not among those of the clauses before it
fresh_code : (vars : ℕ) (cs added : List (List Literal)) (n : ℕ) (c : List Literal) → AreNew cs added → AreOver vars added → slice_get added n ≡ Some c → list_any (eqb (code vars c)) (codes vars (take n added)) ≡ false
unfolding codes
fresh_code vars cs added n c news o is = false_from_ne_true _ (λ h.
    let new : IsNew (cs ++ take n added) c = news.each n c is in
    let over : IsOver vars c = o.each n c is in
    let apart : (v : ℕ) → has (2 * v) c ≡ true → has (2 * v + 1) c ≡ true → ⊥ = new_has_no_variable_twice (cs ++ take n added) c new in
    elim (or_cases (eqb (code vars c) 0) (list_any (eqb (code vars c)) (map (code vars) (take n added))) h) [
      | inl zero_code ↦
          let e : code vars c ≡ code vars [] = eqb-true _ _ zero_code ∙ sym (code_none vars) in
          true≢false (sym (same_code_inside vars c [] over apart e new.literal new.member))
      | inr among ↦
          let p : (i : ℕ) × (slice_get (map (code vars) (take n added)) i ≡ Some (code vars c)) = member_place _ _ among in
          let q : (d : List Literal) × (slice_get (take n added) p.0 ≡ Some d) × (code vars d ≡ code vars c) = map_get (code vars) (take n added) p.0 (code vars c) p.1 in
          let front : (p.0 < n) × (slice_get added p.0 ≡ Some q.0) = get_front n added p.0 q.0 q.1 in
          let earlier : IsNew (cs ++ take p.0 added) q.0 = news.each p.0 q.0 front.1 in
          new_contains_none (cs ++ take n added) c new (length cs + p.0) q.0 (get_right cs (take n added) p.0 ∙ q.1)
          (same_code_inside vars q.0 c (o.each p.0 q.0 front.1) (new_has_no_variable_twice (cs ++ take p.0 added) q.0 earlier) q.2)
    ])

distinct_codes : (vars : ℕ) (cs added : List (List Literal)) (n : ℕ) → AreNew cs added → AreOver vars added → n ≤ length added → IsDistinct eqb (codes vars (take n added))
unfolding codes IsDistinct
distinct_codes vars cs added zero news o le = (tt, tt)
distinct_codes vars cs added (suc n) news o le =
    let lt : n < length added = omega arith in
    let c : List Literal = get_or added n [] in
    let is : slice_get added n ≡ Some c = slice_get-get_or added n [] lt in
    let before : IsDistinct eqb (codes vars (take n added)) = distinct_codes vars cs added n news o (omega arith) in
    let pushed : IsDistinct eqb (codes vars (take n added) ++ code vars c ∷ []) = IsDistinct-push nat_eq_equiv (codes vars (take n added)) (code vars c) before (fresh_code vars cs added n c news o is) in
    let more : codes vars (take (suc n) added) ≡ codes vars (take n added) ++ code vars c ∷ [] =
    ap (λ (z : List (List Literal)). codes vars z) (ap (λ (k : ℕ). take k added) (sym (add-one n)) ∙ take_more added n [] lt) ∙ ap (λ (z : List ℕ). 0 ∷ z) (map_push (code vars) (take n added) c) in
    subst (IsDistinct eqb) (sym more) pushed

-- fewer than 3^n clauses can each be new to those before
pub few_new : (vars : ℕ) (cs added : List (List Literal)) → AreNew cs added → AreOver vars added → length added < 3 ^ vars
unfolding codes
few_new vars cs added news o =
    let all : take (length added) added ≡ added = take_all (length added) added (omega arith) in
    let distinct : IsDistinct eqb (codes vars added) = subst (λ (z : List (List Literal)). IsDistinct eqb (codes vars z)) all (distinct_codes vars cs added (length added) news o (omega arith)) in
    let bound : length (codes vars added) ≤ 3 ^ vars = length-le_from_distinct_below (codes vars added) (3 ^ vars) distinct (below_all vars added) in
    omega (arith, bound, length-map added (code vars))
  where
    below_all : (vars : ℕ) (added : List (List Literal)) (q : ℕ) → list_any (eqb q) (codes vars added) ≡ true → q < 3 ^ vars
    below_all vars added q h = elim (or_cases (eqb q 0) (list_any (eqb q) (map (code vars) added)) h) [
      | inl zero_q ↦ omega (arith, eqb-true q 0 zero_q, code_below vars [])
      | inr among ↦
          let p : (i : ℕ) × (slice_get (map (code vars) added) i ≡ Some q) = member_place _ _ among in
          let d : (c : List Literal) × (slice_get added p.0 ≡ Some c) × (code vars c ≡ q) = map_get (code vars) added p.0 q p.1 in
          omega (arith, code_below vars d.0, d.2)
    ]
