-- Resolution is sound: what a chain gives follows, and a formula in which chains reach the empty clause has no solution.
use Rattle.std.proofs.Common.{◌≡◌, ◌≢◌, ℕ, zero, suc, ◌+◌, ◌*◌, ◌/◌, ◌%◌, ◌<◌, ◌≤◌, ◌⊎◌, Bool, true, false, not, ◌||◌, ◌==◌, eqb, List, [], ◌∷◌, ◌++◌, length, take, get_or, Some, slice_get, refl, ap, ◌∙◌, sym, subst, inl, inr, arith, true≢false, eq-eqb, add-one, append_assoc}
use Rattle.std.specs.List.{list_all}
use Rattle.std.proofs.lemmas.Option.{slice_get-get_or}
use Rattle.std.proofs.lemmas.Grind.{not_there}
use Rattle.std.proofs.lemmas.Bool.{or_cases, and_parts, and_from, or_left, or_right, cases_eq, ne_eqb, eqb-true}
use Rattle.std.proofs.lemmas.List.{take_more, take_all, append-nil}
use Rattle.lemma_checker.specs.declared.literal.Literal.{Literal}
use Rattle.lemma_checker.specs.Clauses.{has, set_of, literal_true, clause_true, Solves, Follows, HasNoSolution}
use Rattle.lemma_checker.specs.Chains.{clash, clashes, resolved, chain_result, AreDerived, has_empty, ReachesEmpty}
use Rattle.lemma_checker.proofs.ListLemmas.{get_push}
use Rattle.lemma_checker.proofs.ChainLemmas.{IsKept, chain_keeps}

-- the set has a literal that the assignment makes true
pub record HasTrue (v : ℕ → Bool) (f : ℕ → Bool) : Type 0 where
  pub literal : ℕ
  pub member : f literal ≡ true
  pub holds : literal_true v literal ≡ true

-- a true clause has a true literal
pub true_literal : (v : ℕ → Bool) (c : List Literal) → clause_true v c ≡ true → HasTrue v (set_of c)
true_literal v [] h = absurd (true≢false (sym h))
true_literal v (x ∷ xs) h = elim (or_cases (literal_true v x.0) (clause_true v xs) h) [
  | inl here ↦ record { literal = x.0; member = or_left (eqb x.0 x.0) (has x.0 xs) (eq-eqb x.0 x.0 refl); holds = here }
  | inr later ↦ let t : HasTrue v (set_of xs) = true_literal v xs later in record { literal = t.literal; member = or_right (eqb x.0 t.literal) (has t.literal xs) t.member; holds = t.holds }
]

-- a clause with a true literal is true
pub literal_makes_true : (v : ℕ → Bool) (c : List Literal) (l : ℕ) → has l c ≡ true → literal_true v l ≡ true → clause_true v c ≡ true
literal_makes_true v [] l h t = absurd (true≢false (sym h))
literal_makes_true v (x ∷ xs) l h t = elim (or_cases (eqb x.0 l) (has l xs) h) [
  | inl here ↦ or_left (literal_true v x.0) (clause_true v xs) (ap (literal_true v) (eqb-true x.0 l here) ∙ t)
  | inr later ↦ or_right (literal_true v x.0) (clause_true v xs) (literal_makes_true v xs l later t)
]

pub plain_true : (v : ℕ → Bool) (p : ℕ) → literal_true v (2 * p) ≡ v p
unfolding literal_true
plain_true v p =
    let even : (2 * p) % 2 ≡ 0 = omega arith in
    let half : (2 * p) / 2 ≡ p = omega arith in
    rw (even, half) refl

pub negated_true : (v : ℕ → Bool) (p : ℕ) → literal_true v (2 * p + 1) ≡ not (v p)
unfolding literal_true
negated_true v p =
    let odd : (2 * p + 1) % 2 ≡ 1 = omega arith in
    let half : (2 * p + 1) / 2 ≡ p = omega arith in
    rw (odd, half) refl

-- a literal of the variable is the plain one or the negated one
pub of_variable : (l p : ℕ) → l / 2 ≡ p → (l ≡ 2 * p) ⊎ (l ≡ 2 * p + 1)
of_variable l p e = elim (cases_eq l (2 * p)) [ inl even ↦ inl even | inr other ↦ inr (omega arith) ]

-- what a pair of clashing sets lacks
pub record Clash (p : ℕ) (f g : ℕ → Bool) : Type 0 where
  pub plain : f (2 * p) ≡ not (f (2 * p + 1))
  pub other_plain : g (2 * p) ≡ f (2 * p + 1)
  pub other_negated : g (2 * p + 1) ≡ f (2 * p)

clash_parts : (a b c d : Bool) → clash a b c d ≡ true → (a ≡ not b) × (c ≡ b) × (d ≡ a)
clash_parts true true c d h = absurd (true≢false (sym h))
clash_parts true false true true h = absurd (true≢false (sym h))
clash_parts true false true false h = absurd (true≢false (sym h))
clash_parts true false false true h = (refl, refl, refl)
clash_parts true false false false h = absurd (true≢false (sym h))
clash_parts false true true true h = absurd (true≢false (sym h))
clash_parts false true true false h = (refl, refl, refl)
clash_parts false true false true h = absurd (true≢false (sym h))
clash_parts false true false false h = absurd (true≢false (sym h))
clash_parts false false c d h = absurd (true≢false (sym h))

pub clash_from : (p : ℕ) (f g : ℕ → Bool) → clashes p f g ≡ true → Clash p f g
unfolding clashes
clash_from p f g h =
    let parts : (f (2 * p) ≡ not (f (2 * p + 1))) × (g (2 * p) ≡ f (2 * p + 1)) × (g (2 * p + 1) ≡ f (2 * p)) = clash_parts _ _ _ _ h in
    record { plain = parts.0; other_plain = parts.1; other_negated = parts.2 }

-- a true literal of another variable stays in the resolvent
stays : (v : ℕ → Bool) (p : ℕ) (f g : ℕ → Bool) (l : ℕ) → (l / 2 ≢ p) → (f l || g l) ≡ true → literal_true v l ≡ true → HasTrue v (resolved p f g)
unfolding resolved
stays v p f g l away member holds = record { literal = l; member = rw (ne_eqb (l / 2) p away) member; holds = holds }

-- the two true literals are of the variable: then one of the sets has both signs
both_signs : (v : ℕ → Bool) (p : ℕ) (f g : ℕ → Bool) (l m : ℕ) → Clash p f g → f l ≡ true → g m ≡ true → literal_true v l ≡ true → literal_true v m ≡ true → l / 2 ≡ p → m / 2 ≡ p → ⊥
both_signs v p f g l m c fl gm tl tm el em = elim (of_variable l p el) [
  | inl l_plain ↦
      let has_plain : f (2 * p) ≡ true = ap f (sym l_plain) ∙ fl in
      let value : v p ≡ true = sym (plain_true v p) ∙ (ap (literal_true v) (sym l_plain) ∙ tl) in
      elim (of_variable m p em) [
        | inl m_plain ↦
            let other : f (2 * p + 1) ≡ true = sym c.other_plain ∙ (ap g (sym m_plain) ∙ gm) in
            true≢false (sym has_plain ∙ (c.plain ∙ ap not other))
        | inr m_negated ↦
            let no : not (v p) ≡ true = sym (negated_true v p) ∙ (ap (literal_true v) (sym m_negated) ∙ tm) in
            true≢false (sym no ∙ ap not value)
      ]
  | inr l_negated ↦
      let has_negated : f (2 * p + 1) ≡ true = ap f (sym l_negated) ∙ fl in
      let no : not (v p) ≡ true = sym (negated_true v p) ∙ (ap (literal_true v) (sym l_negated) ∙ tl) in
      elim (of_variable m p em) [
        | inl m_plain ↦
            let value : v p ≡ true = sym (plain_true v p) ∙ (ap (literal_true v) (sym m_plain) ∙ tm) in
            true≢false (sym no ∙ ap not value)
        | inr m_negated ↦
            let other : f (2 * p) ≡ true = sym c.other_negated ∙ (ap g (sym m_negated) ∙ gm) in
            true≢false (sym other ∙ (c.plain ∙ ap not has_negated))
      ]
]

-- a resolvent of two sets with true literals has one
pub resolvent_true : (v : ℕ → Bool) (p : ℕ) (f g : ℕ → Bool) → clashes p f g ≡ true → HasTrue v f → HasTrue v g → HasTrue v (resolved p f g)
resolvent_true v p f g h a b = elim (cases_eq (a.literal / 2) p) [
  | inr away ↦ stays v p f g a.literal away (or_left (f a.literal) (g a.literal) a.member) a.holds
  | inl a_of ↦ elim (cases_eq (b.literal / 2) p) [
    | inr away ↦ stays v p f g b.literal away (or_right (f b.literal) (g b.literal) b.member) b.holds
    | inl b_of ↦ absurd (both_signs v p f g a.literal b.literal (clash_from p f g h) a.member b.member a.holds b.holds a_of b_of)
  ]
]

pub true_kept : (v : ℕ → Bool) (clauses : List (List Literal)) → Solves v clauses → IsKept clauses (HasTrue v)
true_kept v clauses s = record {
  clause = λ i c is. true_literal v c (s.each i c is);
  step = λ p f g. resolvent_true v p f g;
}

-- what a chain gives follows from the clauses
pub chain_follows : (clauses : List (List Literal)) (ids pivots : List ℕ) (c : List Literal) → chain_result clauses ids pivots ≡ Some (set_of c) → Follows clauses c
chain_follows clauses ids pivots c is v s =
    let t : HasTrue v (set_of c) = chain_keeps clauses (HasTrue v) (true_kept v clauses s) ids pivots (set_of c) is in
    literal_makes_true v c t.literal t.member t.holds

pub solves_none : (v : ℕ → Bool) → Solves v []
solves_none v = record { each = λ i c is. absurd (cc) }

pub solves_push : (v : ℕ → Bool) (clauses : List (List Literal)) (c : List Literal) → Solves v clauses → clause_true v c ≡ true → Solves v (clauses ++ c ∷ [])
solves_push v clauses c s t = record { each = λ i d is. elim (get_push clauses c i d is) [ inl old ↦ s.each i d old | inr e ↦ ap (clause_true v) e.1 ∙ t ] }

-- after the first n added clauses
solves_first : (v : ℕ → Bool) (clauses added : List (List Literal)) (chains : List (List ℕ × List ℕ)) (n : ℕ) → AreDerived clauses added chains → Solves v clauses → n ≤ length added → Solves v (clauses ++ take n added)
solves_first v clauses added chains zero d s le = subst (Solves v) (sym (append-nil clauses)) s
solves_first v clauses added chains (suc n) d s le =
    let lt : n < length added = omega arith in
    let before : Solves v (clauses ++ take n added) = solves_first v clauses added chains n d s (omega arith) in
    let c : List Literal = get_or added n [] in
    let link : List ℕ × List ℕ = get_or chains n ([], []) in
    let within : n < length chains = omega (arith, d.lengths) in
    let gives : chain_result (clauses ++ take n added) link.0 link.1 ≡ Some (set_of c) = d.each n c link.0 link.1 (slice_get-get_or added n [] lt) (slice_get-get_or chains n ([], []) within) in
    let more : take (suc n) added ≡ take n added ++ c ∷ [] = ap (λ (k : ℕ). take k added) (sym (add-one n)) ∙ take_more added n [] lt in
    let pushed : Solves v ((clauses ++ take n added) ++ c ∷ []) = solves_push v (clauses ++ take n added) c before (chain_follows _ _ _ c gives v before) in
    subst (Solves v) (append_assoc clauses (take n added) (c ∷ []) ∙ ap (λ (z : List (List Literal)). clauses ++ z) (sym more)) pushed

-- all that chains add follows
pub solves_all : (v : ℕ → Bool) (clauses added : List (List Literal)) (chains : List (List ℕ × List ℕ)) → AreDerived clauses added chains → Solves v clauses → Solves v (clauses ++ added)
solves_all v clauses added chains d s = subst (λ (z : List (List Literal)). Solves v (clauses ++ z)) (take_all (length added) added (omega arith)) (solves_first v clauses added chains (length added) d s (omega arith))

-- the empty clause is never true
pub empty_is_false : (v : ℕ → Bool) (clauses : List (List Literal)) → has_empty clauses ≡ true → Solves v clauses → ⊥
empty_is_false v [] h s = true≢false (sym h)
empty_is_false v ([] ∷ cs) h s = true≢false (sym (s.each 0 [] refl))
empty_is_false v ((x ∷ c) ∷ cs) h s = elim (or_cases (length (x ∷ c) == 0) (has_empty cs) h) [
  | inl zero_long ↦ absurd (omega (arith, eqb-true (length (x ∷ c)) 0 zero_long))
  | inr later ↦ empty_is_false v cs later (record { each = λ i d is. s.each (suc i) d is })
]

pub none_solves : (clauses : List (List Literal)) (chains : List (List ℕ × List ℕ)) → ReachesEmpty clauses chains → HasNoSolution clauses
none_solves clauses chains r v s = not_there r (λ e. empty_is_false v (clauses ++ e.added) e.empty (solves_all v clauses e.added chains e.derived s))

-- the test of all clauses
pub solves_from_all : (v : ℕ → Bool) (clauses : List (List Literal)) → list_all (clause_true v) clauses ≡ true → Solves v clauses
solves_from_all v [] h = record { each = λ i c is. absurd (cc) }
solves_from_all v (c ∷ cs) h =
    let parts : (clause_true v c ≡ true) × (list_all (clause_true v) cs ≡ true) = and_parts (clause_true v c) (list_all (clause_true v) cs) h in
    let rest : Solves v cs = solves_from_all v cs parts.1 in
    record { each = each_of v c cs parts.0 rest }
  where
    each_of : (v : ℕ → Bool) (c : List Literal) (cs : List (List Literal)) → clause_true v c ≡ true → Solves v cs → (i : ℕ) (d : List Literal) → slice_get (c ∷ cs) i ≡ Some d → clause_true v d ≡ true
    each_of v c cs t s zero d is = let e : c ≡ d = cc in ap (clause_true v) (sym e) ∙ t
    each_of v c cs t s (suc i) d is = s.each i d is

pub all_from_solves : (v : ℕ → Bool) (clauses : List (List Literal)) → Solves v clauses → list_all (clause_true v) clauses ≡ true
all_from_solves v [] s = refl
all_from_solves v (c ∷ cs) s = and_from (clause_true v c) (list_all (clause_true v) cs) (s.each 0 c refl) (all_from_solves v cs (record { each = λ i d is. s.each (suc i) d is }))
