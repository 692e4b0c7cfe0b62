-- Lists cut at the elements that pass a test.
use Rattle.std.proofs.Common.{◌≡◌, ℕ, ◌+◌, ◌-◌, ◌<◌, nat_lt, Bool, false, Option, Some, None, List, [], ◌∷◌, length, take, drop, sym, ◌∙◌, arith, inl, inr}
use Rattle.std.specs.List.{position, position_or_len, slice_split}
use Rattle.std.proofs.lemmas.Bool.{cases_Bool, cond-true, cond-false, ltb-true, ltb-false}
use Rattle.std.proofs.lemmas.List.Splits.{slice_split_first, slice_split_none, length-slice_split}
use Rattle.std.proofs.lemmas.List.{take_rest}
use Rattle.std.proofs.lemmas.List.Sums.{fails_before_first}
use Rattle.std.proofs.lemmas.List.Elements.{All-from_get_or}

some_is : {A Q : Type 0} (x y : A) → ◌≡◌ {A = Option A} (Some x) (Some y) → (x ≡ y → Q) → Q
some_is x y same go = let e : x ≡ y = cc in go e

none_some : {A : Type 0} (x : A) (Q : Type 0) → ◌≡◌ {A = Option A} None (Some x) → Q
none_some x Q h = cc

pub pieces-some : (test : ℕ → Bool) (text : List ℕ) → 0 < length (slice_split test text)
pieces-some test text = omega (arith, length-slice_split test text)

-- the first piece, where an element passes
next-some : (test : ℕ → Bool) (text : List ℕ) (place : ℕ) → position test text ≡ Some place → slice_split test text ≡ take place text ∷ slice_split test (drop (place + 1) text)
next-some test text place found = elim (cases_Bool (nat_lt (position_or_len test text) (length text))) [
  | inl inside ↦ some_is (position_or_len test text) place (sym (cond-true _ (Some (position_or_len test text)) None inside) ∙ found)
      (λ same. rw (sym same) (slice_split_first test text 0 (ltb-true _ _ inside)))
  | inr past ↦ none_some place _ (sym (cond-false _ (Some (position_or_len test text)) None past) ∙ found)
]

pub next-taken : (test : ℕ → Bool) (text : List ℕ) (place : ℕ) → position test text ≡ Some place → slice_split test text ≡ take place text ∷ slice_split test (take (length text - (place + 1)) (drop (place + 1) text))
next-taken test text place found = rw (take_rest text (place + 1)) (next-some test text place found)

-- the only piece, where none does
pub next-none : (test : ℕ → Bool) (text : List ℕ) → position test text ≡ None → slice_split test text ≡ text ∷ []
next-none test text found = elim (cases_Bool (nat_lt (position_or_len test text) (length text))) [
  | inl inside ↦ none_some (position_or_len test text) _ (sym found ∙ cond-true _ (Some (position_or_len test text)) None inside)
  | inr past ↦ slice_split_none test text
      (All-from_get_or (λ x. test x ≡ false) text 0 (λ k below.
      let here : k < position_or_len test text = omega (arith, ltb-false _ _ past) in
      fails_before_first test text k 0 here))
]
