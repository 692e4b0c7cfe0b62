-- Lemmas on clauses as sets of numbers.
use Rattle.std.proofs.Common.{◌≡◌, ◌≢◌, ℕ, ◌+◌, ◌*◌, ◌/◌, ◌<◌, Bool, true, false, List, length, get_or, eq-eqb, refl, ap, ◌∙◌, arith, inl, inr}
use Rattle.std.proofs.Math.Path.{fun_ext}
use Rattle.std.proofs.lemmas.Bool.{ne_eqb, cases_eq}
use Rattle.std.proofs.lemmas.List.Folds.{list_any_at}
use Rattle.lemma_checker.specs.declared.literal.Literal.{Literal}
use Rattle.lemma_checker.specs.Clauses.{has}
use Rattle.lemma_checker.specs.Chains.{resolved}
use Rattle.lemma_checker.specs.Checker.{joined}

-- an element of a clause is in its set
pub has_get_or : (c : List Literal) (i : ℕ) (d : Literal) → i < length c → has (get_or c i d).0 c ≡ true
has_get_or c i d lt = list_any_at _ c i d lt (eq-eqb _ _ refl)

-- after the clause is merged and both numbers of the variable are cleared, the marks are the resolvent
pub resolved_marks : (p : ℕ) (f g m0 m1 m2 : ℕ → Bool) → ((l : ℕ) → m0 l ≡ joined f g l) → m1 (2 * p) ≡ false → ((l : ℕ) → l ≢ 2 * p → m1 l ≡ m0 l) → m2 (2 * p + 1) ≡ false → ((l : ℕ) → l ≢ 2 * p + 1 → m2 l ≡ m1 l) → m2 ≡ resolved p f g
unfolding resolved
resolved_marks p f g m0 m1 m2 both first rest second rest2 = fun_ext (λ l. elim (cases_eq (l / 2) p) [
  | inl same ↦ rw (eq-eqb (l / 2) p same) (elim (cases_eq l (2 * p + 1)) [
    | inl odd ↦ rw odd second
    | inr other ↦
        let even : l ≡ 2 * p = omega arith in
        rest2 l other ∙ (ap m1 even ∙ first)
  ])
  | inr away ↦
      let not_odd : l ≢ 2 * p + 1 = λ e. away (omega arith) in
      let not_even : l ≢ 2 * p = λ e. away (omega arith) in
      rw (ne_eqb (l / 2) p away) (rest2 l not_odd ∙ (rest l not_even ∙ both l))
])
