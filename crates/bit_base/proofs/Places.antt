-- The order of places.
use Rattle.std.proofs.Common.{◌≡◌, ℕ, true, false, List, Some, slice_get, arith, inl, inr, ◌<◌, ◌≤◌, ◌+◌, ap, sym, ◌∙◌, subst, Contains, if◌then◌else◌, length}
use Rattle.std.proofs.lemmas.Bool.{cases_Bool, cases_eq, true≢false}
use Rattle.std.proofs.lemmas.Option.{same_Some, slice_get_within, get_or_from_slice_get}
use Rattle.std.proofs.lemmas.Bool.Decides.{nat_tests}
use Rattle.bit_base.specs.declared.place.Place.{Place}
use Rattle.bit_base.specs.Places.{is_before, earlier, IsFirst, NotBeforeItself, BeforeGoesOn, OneIsBefore}

pub not_before_itself : NotBeforeItself
not_before_itself p = grind (arith, nat_tests)

pub before_goes_on : BeforeGoesOn
before_goes_on p q r one two = grind (arith, nat_tests)

pub one_is_before : OneIsBefore
one_is_before p q one two = grind (arith, nat_tests)

-- one of the places, and none of so many stands before it
abbrev pub IsFirstAmong : List Place → ℕ → Place → Type 0
IsFirstAmong places n p = Contains places p × ((k : ℕ) (q : Place) → k < n → slice_get places k ≡ Some q → is_before q p ≡ false)

not_both : (p q r : Place) → is_before r p ≡ false → is_before q p ≡ true → is_before r q ≡ false
not_both p q r out on =
    elim (cases_Bool (is_before r q)) [
      | inl before ↦ absurd (true≢false (sym (before_goes_on r q p before on) ∙ out))
      | inr after ↦ after
    ]

contains_at : (places : List Place) (n : ℕ) (q : Place) → slice_get places n ≡ Some q → Contains places q
contains_at places n q here = (n, slice_get_within places n q here, get_or_from_slice_get places n q q here)

-- the first of all places is one of them
pub first_start : (places : List Place) (n : ℕ) (q : Place) → slice_get places n ≡ Some q → IsFirstAmong places 0 q
first_start places n q here = (contains_at places n q here, λ k r below at_k. absurd (omega arith))

pub first_end : (places : List Place) (n : ℕ) (p : Place) → length places ≤ n → IsFirstAmong places n p → IsFirst p places
first_end places n p all first = record {
  among = first.0;
  before = λ k q at_k. let within = slice_get_within places k q at_k in first.1 k q (omega arith) at_k;
}

-- the one of the two that stands before the other is the first among one place more
pub first_step : (places : List Place) (n : ℕ) (p q : Place) → slice_get places n ≡ Some q → IsFirstAmong places n p → IsFirstAmong places (n + 1) (earlier p q)
first_step places n p q here first =
    elim (cases_Bool (is_before q p)) [
      | inl on ↦ subst (IsFirstAmong places (n + 1)) (sym (ap (λ b. if b then q else p) on)) (
        contains_at places n q here,
        λ k r below at_k.
            elim (cases_eq k n) [
              | inl same ↦ subst (λ x. is_before x q ≡ false) (same_Some _ _ (sym here ∙ sym (ap (slice_get places) same) ∙ at_k)) (not_before_itself q)
              | inr other ↦ not_both p q r (first.1 k r (omega arith) at_k) on
            ],
      )
      | inr out ↦ subst (IsFirstAmong places (n + 1)) (sym (ap (λ b. if b then q else p) out)) (
        first.0,
        λ k r below at_k.
            elim (cases_eq k n) [
              | inl same ↦ subst (λ x. is_before x p ≡ false) (same_Some _ _ (sym here ∙ sym (ap (slice_get places) same) ∙ at_k)) out
              | inr other ↦ first.1 k r (omega arith) at_k
            ],
      )
    ]
