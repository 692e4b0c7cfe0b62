-- The proofs of the laws.
use Rattle.std.proofs.Common.{◌≡◌, ◌≢◌, ℕ, ◌+◌, ◌*◌, ◌/◌, Bool, true, false, not, ◌||◌, eqb, List, length, Some, slice_get, refl, ap, ◌∙◌, sym, subst, inl, inr, arith, true≢false}
use Rattle.std.proofs.lemmas.Bool.{or_cases, and_parts, and_from, or_left, or_right, cases_eq, ne_eqb, cases_Bool, false_from_ne_true}
use Rattle.lemma_checker.specs.declared.literal.Literal.{Literal}
use Rattle.lemma_checker.specs.Clauses.{opposite, has, set_of}
use Rattle.lemma_checker.specs.Chains.{resolved}
use Rattle.lemma_checker.specs.Propagation.{IsConflictFree, IsNew}
use Rattle.lemma_checker.specs.Laws.{ResolventFollows, AddedFollow, PropagationGrows, LeastDoesNotConflict, NewIsNotGiven, NewContainsNone, NewHasNoVariableTwice, ResolventIsNotNew}
use Rattle.lemma_checker.proofs.ListLemmas.{get_right}
use Rattle.lemma_checker.proofs.Semantics.{HasTrue, true_literal, literal_makes_true, resolvent_true, solves_all, Clash, clash_from}

pub opposite_back : (l : ℕ) → opposite (opposite l) ≡ l
unfolding opposite
opposite_back l = omega arith

pub opposite_other : (l : ℕ) → opposite l ≢ l
unfolding opposite
opposite_other l e = omega (arith, e)

pub opposite_plain : (v : ℕ) → opposite (2 * v) ≡ 2 * v + 1
unfolding opposite
opposite_plain v = omega arith

pub opposite_negated : (v : ℕ) → opposite (2 * v + 1) ≡ 2 * v
unfolding opposite
opposite_negated v = omega arith

pub opposite_half : (l : ℕ) → opposite l / 2 ≡ l / 2
unfolding opposite
opposite_half l = omega arith

-- the opposites of the other literals are in the set of a new clause
pub others_in : (clauses : List (List Literal)) (c : List Literal) (n : IsNew clauses c) (m : ℕ) → has m c ≡ true → m ≢ n.literal → n.set (opposite m) ≡ true
others_in clauses c n m h away = n.closed.start (opposite m) (and_from (has (opposite (opposite m)) c) (not (eqb (opposite (opposite m)) n.literal)) (ap (λ (k : ℕ). has k c) (opposite_back m) ∙ h) (rw (opposite_back m, ne_eqb m n.literal away) refl))

pub resolvent_follows : ResolventFollows
resolvent_follows clauses i j p a b c at_a at_b h same v s =
    let ta : HasTrue v (set_of a) = true_literal v a (s.each i a at_a) in
    let tb : HasTrue v (set_of b) = true_literal v b (s.each j b at_b) in
    let t : HasTrue v (set_of c) = subst (HasTrue v) (sym same) (resolvent_true v p (set_of a) (set_of b) h ta tb) in
    literal_makes_true v c t.literal t.member t.holds

pub added_follow : AddedFollow
added_follow clauses added chains d i c is v s = (solves_all v clauses added chains d s).each (length clauses + i) c (get_right clauses added i ∙ is)

pub propagation_grows : PropagationGrows
propagation_grows few many from more s t among grows p q l h = p.least.inside t (record {
  start = λ m f. q.closed.start m (grows m f);
  unit = λ i c m is o. let found : (j : ℕ) × (slice_get many j ≡ Some c) = among.each i c is in q.closed.unit found.0 c m found.1 o;
}) l h

-- a smaller set has no conflict either
pub smaller_is_free : (clauses : List (List Literal)) (s t : ℕ → Bool) → ((l : ℕ) → s l ≡ true → t l ≡ true) → IsConflictFree clauses t → IsConflictFree clauses s
smaller_is_free clauses s t within f = record {
  apart = record { apart = λ l h. false_from_ne_true (s (opposite l)) (λ o. true≢false (sym (within (opposite l) o) ∙ f.apart.apart l (within l h))) };
  clause = λ i c is n. f.clause i c is (record { each = λ m h. within (opposite m) (n.each m h) });
}

pub least_does_not_conflict : LeastDoesNotConflict
least_does_not_conflict clauses from s d p = smaller_is_free clauses s d.set (λ l h. p.least.inside d.set d.closed l h) d.free

pub new_is_not_given : NewIsNotGiven
new_is_not_given clauses c n s p = (
  smaller_is_free clauses s n.set (λ l h. p.least.inside n.set n.closed l h) n.free,
  false_from_ne_true (s n.literal) (λ h. true≢false (sym (p.least.inside n.set n.closed n.literal h) ∙ n.absent)),
)

pub new_contains_none : NewContainsNone
new_contains_none clauses c n i d is within = elim (cases_Bool (has n.literal d)) [
  | inl there ↦ true≢false (sym (n.closed.unit i d n.literal is (record { member = there; others = λ m h away. others_in clauses c n m (within m h) away })) ∙ n.absent)
  | inr not_there ↦ n.free.clause i d is (record { each = λ m h. others_in clauses c n m (within m h) (λ e. true≢false (sym h ∙ (ap (λ (k : ℕ). has k d) e ∙ not_there))) })
]

-- both signs of a variable in a new clause
both_in_new : (clauses : List (List Literal)) (c : List Literal) (n : IsNew clauses c) (m : ℕ) → has m c ≡ true → has (opposite m) c ≡ true → m ≢ n.literal → ⊥
both_in_new clauses c n m h o away = elim (cases_eq (opposite m) n.literal) [
  | inl e ↦ true≢false (sym (ap n.set (sym e) ∙ others_in clauses c n m h away) ∙ n.absent)
  | inr far ↦
      let first : n.set (opposite m) ≡ true = others_in clauses c n m h away in
      let second : n.set (opposite (opposite m)) ≡ true = others_in clauses c n (opposite m) o far in
      true≢false (sym second ∙ n.free.apart.apart (opposite m) first)
]

pub new_has_no_variable_twice : NewHasNoVariableTwice
new_has_no_variable_twice clauses c n v plain negated = elim (cases_eq (2 * v) n.literal) [
  | inr far ↦ both_in_new clauses c n (2 * v) plain (ap (λ (k : ℕ). has k c) (opposite_plain v) ∙ negated) far
  | inl e ↦ both_in_new clauses c n (2 * v + 1) negated (ap (λ (k : ℕ). has k c) (opposite_negated v) ∙ plain) (λ f. absurd (omega (arith, e, f)))
]

-- the literal of the pivot that the second set has, whose opposite the first has
record Pivot (p : ℕ) (f g : ℕ → Bool) : Type 0 where
  literal : ℕ
  of : literal / 2 ≡ p
  in_second : g literal ≡ true
  not_in_second : g (opposite literal) ≡ false
  in_first : f (opposite literal) ≡ true
  not_in_first : f literal ≡ false

pivot_of : (p : ℕ) (f g : ℕ → Bool) → Clash p f g → Pivot p f g
pivot_of p f g k = elim (cases_Bool (f (2 * p))) [
  | inl plain ↦
      let lacks : f (2 * p + 1) ≡ false = elim (cases_Bool (f (2 * p + 1))) [ inr lacks ↦ lacks | inl has_it ↦ absurd (true≢false (sym plain ∙ (k.plain ∙ ap not has_it))) ] in
      record {
        literal = 2 * p + 1;
        of = omega arith;
        in_second = k.other_negated ∙ plain;
        not_in_second = ap g (opposite_negated p) ∙ (k.other_plain ∙ lacks);
        in_first = ap f (opposite_negated p) ∙ plain;
        not_in_first = lacks;
      }
  | inr lacks ↦
      let negated : f (2 * p + 1) ≡ true = elim (cases_Bool (f (2 * p + 1))) [ inl has_it ↦ has_it | inr not_there ↦ absurd (true≢false (sym (k.plain ∙ ap not not_there) ∙ lacks)) ] in
      record {
        literal = 2 * p;
        of = omega arith;
        in_second = k.other_plain ∙ negated;
        not_in_second = ap g (opposite_plain p) ∙ (k.other_negated ∙ lacks);
        in_first = ap f (opposite_plain p) ∙ negated;
        not_in_first = lacks;
      }
]

pivot_swap : (p : ℕ) (f g : ℕ → Bool) → Pivot p f g → Pivot p g f
pivot_swap p f g k = record {
  literal = opposite k.literal;
  of = opposite_half k.literal ∙ k.of;
  in_second = k.in_first;
  not_in_second = ap f (opposite_back k.literal) ∙ k.not_in_first;
  in_first = ap g (opposite_back k.literal) ∙ k.in_second;
  not_in_first = k.not_in_second;
}

same_variable : (m q p : ℕ) → m / 2 ≡ p → q / 2 ≡ p → m ≢ q → m ≡ opposite q
unfolding opposite
same_variable m q p a b away = omega arith

-- a new clause's literal is not in the first of two clauses whose resolvent it is
not_in_first_part : (clauses : List (List Literal)) (i j p : ℕ) (a b c : List Literal) (n : IsNew clauses c) → slice_get clauses i ≡ Some a → slice_get clauses j ≡ Some b → Pivot p (set_of a) (set_of b) → ((m : ℕ) → m / 2 ≢ p → (has m a || has m b) ≡ true → has m c ≡ true) → ((l : ℕ) → has l a ≡ true → has l b ≡ true → ⊥) → has n.literal a ≡ true → ⊥
not_in_first_part clauses i j p a b c n at_a at_b k inside apart member =
    let given : n.set k.literal ≡ true = n.closed.unit j b k.literal at_b (record {
      member = k.in_second;
      others = λ m h away. others_in clauses c n m
          (inside m (λ e. true≢false (sym (sym (ap (λ (z : ℕ). has z b) (same_variable m k.literal p e k.of away)) ∙ h) ∙ k.not_in_second)) (or_right (has m a) (has m b) h))
          (λ e. apart n.literal member (ap (λ (z : ℕ). has z b) (sym e) ∙ h));
    }) in
    let all : n.set n.literal ≡ true = n.closed.unit i a n.literal at_a (record {
      member = member;
      others = λ m h away. elim (cases_eq (m / 2) p) [
        | inl of_pivot ↦
            let is : m ≡ opposite k.literal = same_variable m k.literal p of_pivot k.of (λ e. true≢false (sym (ap (λ (z : ℕ). has z a) (sym e) ∙ h) ∙ k.not_in_first)) in
            ap n.set (ap opposite is ∙ opposite_back k.literal) ∙ given
        | inr other ↦ others_in clauses c n m (inside m other (or_left (has m a) (has m b) h)) away
      ];
    }) in
    true≢false (sym all ∙ n.absent)

swap_or : (x y : Bool) → (x || y) ≡ true → (y || x) ≡ true
swap_or x y h = elim (or_cases x y h) [ inl l ↦ or_right y x l | inr r ↦ or_left y x r ]

pub resolvent_is_not_new : ResolventIsNotNew
unfolding resolved
resolvent_is_not_new clauses i j p a b c at_a at_b h same apart n =
    let k : Pivot p (set_of a) (set_of b) = pivot_of p (set_of a) (set_of b) (clash_from p (set_of a) (set_of b) h) in
    let inside : (m : ℕ) → m / 2 ≢ p → (has m a || has m b) ≡ true → has m c ≡ true = λ m away there. ap (λ (f : ℕ → Bool). f m) same ∙ and_from (not (eqb (m / 2) p)) (has m a || has m b) (rw (ne_eqb (m / 2) p away) refl) there in
    let parts : (not (eqb (n.literal / 2) p) ≡ true) × ((has n.literal a || has n.literal b) ≡ true) = and_parts _ _ (sym (ap (λ (f : ℕ → Bool). f n.literal) same) ∙ n.member) in
    elim (or_cases (has n.literal a) (has n.literal b) parts.1) [
      | inl in_a ↦ not_in_first_part clauses i j p a b c n at_a at_b k inside apart in_a
      | inr in_b ↦ not_in_first_part clauses j i p b a c n at_b at_a (pivot_swap p (set_of a) (set_of b) k) (λ m away there. inside m away (swap_or (has m b) (has m a) there)) (λ l x y. apart l y x) in_b
    ]
