-- The register before which none stands.
use Rattle.std.proofs.Common.{◌≡◌, ℕ, ◌+◌, ◌<◌, ◌≤◌, Bool, true, false, List, length, Some, slice_get, if◌then◌else◌, arith, inl, inr, ap, sym, ◌∙◌, subst}
use Rattle.std.proofs.lemmas.Bool.{cases_Bool, cases_eq, true≢false}
use Rattle.std.proofs.lemmas.Option.{same_Some, slice_get_within}
use Rattle.bit_base.specs.declared.place.Place.{Place}
use Rattle.bit_base.specs.Places.{is_before}
use Rattle.bit_base.proofs.Places.{before_goes_on, not_before_itself}
use Rattle.rdl_layout.specs.declared.register.Register.{Register}
use Rattle.rdl_elab.specs.Unlike.{IsFirstRegister, earlier_register}

-- a register of the list, and none of so many stands before it
pub record IsFirstSoFar (rs : List Register) (n : ℕ) (r : Register) : Type 0 where
  pub at : ℕ
  pub among : slice_get rs at ≡ Some r
  pub before : (k : ℕ) (s : Register) → k < n → slice_get rs k ≡ Some s → is_before s.place r.place ≡ false

pub starts : (rs : List Register) (n : ℕ) (r : Register) → slice_get rs n ≡ Some r → IsFirstSoFar rs 0 r
starts rs n r here = record { at = n; among = here; before = λ k s below at_k. absurd (omega (arith, below)) }

pub ends : (rs : List Register) (n : ℕ) (r : Register) → length rs ≤ n → IsFirstSoFar rs n r → IsFirstRegister r rs
ends rs n r all f = record {
  at = f.at;
  among = f.among;
  before = λ k s at_k. let within : k < length rs = slice_get_within rs k s at_k in f.before k s (omega (arith, within, all)) at_k;
}

not_both : (p q r : Place) → is_before r p ≡ false → is_before q p ≡ true → is_before r q ≡ false
not_both p q r out on =
    elim (cases_Bool (is_before r q)) [
      | inl before ↦ absurd (true≢false (sym (before_goes_on r q p before on) ∙ out))
      | inr after ↦ after
    ]

pub goes_on : (rs : List Register) (n : ℕ) (r s : Register) → slice_get rs n ≡ Some s → IsFirstSoFar rs n r → IsFirstSoFar rs (n + 1) (earlier_register r s)
goes_on rs n r s here f =
    elim (cases_Bool (is_before s.place r.place)) [
      | inl on ↦ subst (IsFirstSoFar rs (n + 1)) (sym (ap (λ (b : Bool). if b then s else r) on)) (record {
        at = n;
        among = here;
        before = λ k t below at_k.
            elim (cases_eq k n) [
              | inl same ↦ subst (λ (x : Register). is_before x.place s.place ≡ false) (same_Some _ _ (sym here ∙ sym (ap (slice_get rs) same) ∙ at_k)) (not_before_itself s.place)
              | inr other ↦ not_both r.place s.place t.place (f.before k t (omega (arith, below, other)) at_k) on
            ];
      })
      | inr out ↦ subst (IsFirstSoFar rs (n + 1)) (sym (ap (λ (b : Bool). if b then s else r) out)) (record {
        at = f.at;
        among = f.among;
        before = λ k t below at_k.
            elim (cases_eq k n) [
              | inl same ↦ subst (λ (x : Register). is_before x.place r.place ≡ false) (same_Some _ _ (sym here ∙ sym (ap (slice_get rs) same) ∙ at_k)) out
              | inr other ↦ f.before k t (omega (arith, below, other)) at_k
            ];
      })
    ]
