-- Collecting the marked literals of a list.
use Rattle.std.proofs.Common.{◌≡◌, ◌≢◌, ℕ, ◌+◌, ◌<◌, Bool, true, false, ◌||◌, eqb, List, [], ◌∷◌, ◌++◌, length, take, drop, get_or, refl, ap, ◌∙◌, sym, subst, inl, inr, arith, true≢false, eq-eqb}
use Rattle.std.proofs.lemmas.Bool.{cases_eq, or_cases, or_left, or_right, ne_eqb, eqb-true, false_from_ne_true}
use Rattle.std.proofs.lemmas.List.{drop_more, take-append-le, take_at}
use Rattle.std.proofs.lemmas.List.Folds.{list_any-append}
use Rattle.std.proofs.lemmas.Option.{slice_get_within}
use Rattle.lemma_checker.specs.declared.literal.Literal.{Literal}
use Rattle.lemma_checker.specs.Clauses.{has, AreDistinct}
use Rattle.lemma_checker.proofs.ListLemmas.{get_push}

-- a clause with one literal more
pub has_push : (k : ℕ) (c : List Literal) (x : Literal) → has k (c ++ x ∷ []) ≡ (has k c || (eqb x.0 k || false))
has_push k c x = list_any-append (λ y. eqb y.0 k) c (x ∷ [])

pub has_push_old : (k : ℕ) (c : List Literal) (x : Literal) → has k c ≡ true → has k (c ++ x ∷ []) ≡ true
has_push_old k c x h = has_push k c x ∙ or_left (has k c) _ h

pub has_push_new : (c : List Literal) (x : Literal) → has x.0 (c ++ x ∷ []) ≡ true
has_push_new c x = has_push x.0 c x ∙ or_right (has x.0 c) _ (or_left (eqb x.0 x.0) false (eq-eqb x.0 x.0 refl))

pub has_push_other : (k : ℕ) (c : List Literal) (x : Literal) → k ≢ x.0 → has k (c ++ x ∷ []) ≡ has k c
has_push_other k c x away = has_push k c x ∙ (rw (ne_eqb x.0 k (λ e. away (sym e))) (or_false (has k c)))
  where
    or_false : (b : Bool) → (b || false) ≡ b
    or_false true = refl
    or_false false = refl

-- a literal that is not there may be pushed
pub distinct_push : (c : List Literal) (x : Literal) → AreDistinct c → has x.0 c ≡ false → AreDistinct (c ++ x ∷ [])
distinct_push c x d absent = record {
  once = λ i y is. elim (get_push c x i y is) [
    | inl old ↦
        let lt : i < length c = slice_get_within c i y old in
        let before : take i (c ++ x ∷ []) ≡ take i c = take-append-le i c (x ∷ []) (omega arith) in
        ap (has y.0) before ∙ d.once i y old
    | inr e ↦
        let all : take i (c ++ x ∷ []) ≡ c = take_at c (x ∷ []) i (sym e.0) in
        ap (has y.0) all ∙ (ap (λ (z : Literal). has z.0 c) e.1 ∙ absent)
  ];
}

-- the marked literals of the first i of a list are in the clause, the others are still marked
pub record Collects (touched : List Literal) (i : ℕ) (start marks : ℕ → Bool) (c : List Literal) : Type 0 where
  pub rest : (k : ℕ) → marks k ≡ true → has k (drop i touched) ≡ true
  pub split : (k : ℕ) → (has k c || marks k) ≡ start k
  pub apart : (k : ℕ) → has k c ≡ true → marks k ≡ false
  pub distinct : AreDistinct c

has_rest : (touched : List Literal) (i : ℕ) (d : Literal) (k : ℕ) → i < length touched → k ≢ (get_or touched i d).0 → has k (drop i touched) ≡ true → has k (drop (i + 1) touched) ≡ true
has_rest touched i d k lt away h =
    let both : (eqb (get_or touched i d).0 k || has k (drop (i + 1) touched)) ≡ true = sym (ap (has k) (drop_more touched i d lt)) ∙ h in
    elim (or_cases _ _ both) [ inl same ↦ absurd (away (sym (eqb-true _ _ same))) | inr later ↦ later ]

pub collect_take : (touched : List Literal) (i : ℕ) (d : Literal) (start m n : ℕ → Bool) (c : List Literal) → i < length touched → m (get_or touched i d).0 ≡ true → n (get_or touched i d).0 ≡ false → ((k : ℕ) → k ≢ (get_or touched i d).0 → n k ≡ m k) → Collects touched i start m c → Collects touched (i + 1) start n (c ++ get_or touched i d ∷ [])
collect_take touched i d start m n c lt marked cleared same s =
    let x : Literal = get_or touched i d in
    record {
      rest = λ k h. elim (cases_eq k x.0) [
        | inl e ↦ absurd (true≢false (sym h ∙ (ap n e ∙ cleared)))
        | inr away ↦ has_rest touched i d k lt away (s.rest k (sym (same k away) ∙ h))
      ];
      split = λ k. elim (cases_eq k x.0) [
        | inl e ↦ subst (λ (j : ℕ). (has j (c ++ x ∷ []) || n j) ≡ start j) (sym e) (or_left _ _ (has_push_new c x) ∙ sym (sym (s.split x.0) ∙ or_right (has x.0 c) _ marked))
        | inr away ↦ rw (has_push_other k c x away, same k away) (s.split k)
      ];
      apart = λ k h. elim (cases_eq k x.0) [
        | inl e ↦ ap n e ∙ cleared
        | inr away ↦ same k away ∙ s.apart k (sym (has_push_other k c x away) ∙ h)
      ];
      distinct = distinct_push c x s.distinct (false_from_ne_true _ (λ h. true≢false (sym marked ∙ s.apart x.0 h)));
    }

pub collect_skip : (touched : List Literal) (i : ℕ) (d : Literal) (start m : ℕ → Bool) (c : List Literal) → i < length touched → m (get_or touched i d).0 ≡ false → Collects touched i start m c → Collects touched (i + 1) start m c
collect_skip touched i d start m c lt absent s = record {
  rest = λ k h. has_rest touched i d k lt (λ e. true≢false (sym h ∙ (ap m e ∙ absent))) (s.rest k h);
  split = s.split;
  apart = s.apart;
  distinct = s.distinct;
}
