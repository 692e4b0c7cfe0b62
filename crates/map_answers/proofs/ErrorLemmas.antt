-- The words that an event is at.
use Rattle.std.proofs.Common.{◌≡◌, ℕ, zero, suc, ◌+◌, ◌<◌, Bool, true, false, not, ◌&&◌, ◌||◌, ◌==◌, if◌then◌else◌, List, [], ◌∷◌, ◌++◌, length, take, get_or, refl, sym, ap, ◌∙◌, inl, inr, eq-eqb, ne_eqb}
use Rattle.std.proofs.lemmas.Bool.{cases_Bool, eqb-true, eqb-false}
use Rattle.std.specs.List.{list_any}
use Rattle.std.proofs.lemmas.List.{take_more}
use Rattle.std.proofs.lemmas.List.Folds.{list_any-append}
use Rattle.apb_rules.specs.declared.event.BusEvent.{BusEvent}
use Rattle.apb_rules.specs.declared.event.BusEvent.TheVariants.{Nothing, Read, Write}
use Rattle.reg_machine.specs.Machines.{is_unmapped}
use Rattle.map_answers.specs.Errors.{is_at}

or_false : (b : Bool) → (b || false) ≡ b
or_false true = refl
or_false false = refl

pub any_more : (f : ℕ → Bool) (words : List ℕ) (n d : ℕ) → n < length words → list_any f (take (n + 1) words) ≡ (list_any f (take n words) || f (get_or words n d))
any_more f words n d lt = ap (list_any f) (take_more words n d lt) ∙ (list_any-append f (take n words) (get_or words n d ∷ []) ∙ ap (λ b. list_any f (take n words) || b) (or_false (f (get_or words n d))))

same_number : (m n : ℕ) → (m == n) ≡ (n == m)
same_number m n = elim (cases_Bool (m == n)) [
  | inl t ↦ let e : m ≡ n = eqb-true m n t in t ∙ sym (eq-eqb n m (sym e))
  | inr u ↦ let d : m ≡ n → ⊥ = eqb-false m n u in u ∙ sym (ne_eqb n m (λ e. d (sym e)))
]

any_same : (f g : ℕ → Bool) (words : List ℕ) → ((a : ℕ) → f a ≡ g a) → list_any f words ≡ list_any g words
any_same f g [] same = refl
any_same f g (a ∷ words) same = rw (same a, any_same f g words same) refl

none : (words : List ℕ) → list_any (λ a. false) words ≡ false
none [] = refl
none (a ∷ words) = none words

pub unmapped_is : (read write : Bool) (a p s : ℕ) (words : List ℕ)
    → ((read || write) && not (list_any (is_at (if read then Read a else (if write then Write a p s else Nothing))) words)) ≡ is_unmapped (if read then Read a else (if write then Write a p s else Nothing)) words
unmapped_is true write a p s words = ap not (any_same (is_at (Read a)) (λ w. w == a) words (λ w. or_false (a == w) ∙ same_number a w))
unmapped_is false true a p s words = ap not (any_same (is_at (Write a p s)) (λ w. w == a) words (λ w. same_number a w))
unmapped_is false false a p s words = refl
