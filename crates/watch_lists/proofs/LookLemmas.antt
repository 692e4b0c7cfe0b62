-- The first two literals of a clause, and what a look at the others finds.
use Rattle.std.proofs.Common.{◌≡◌, ◌≢◌, ℕ, ◌<◌, ◌≤◌, ◌⊎◌, Bool, true, false, eqb, List, [], ◌∷◌, length, take, get_or, refl, ap, ◌∙◌, sym, inl, inr, arith, true≢false, eq-eqb}
use Rattle.std.proofs.Math.Path.{fun_ext}
use Rattle.std.specs.List.{swap}
use Rattle.std.specs.List.Sorted.{IsPermutation}
use Rattle.std.proofs.lemmas.List.Sorted.{list_any-IsPermutation}
use Rattle.std.proofs.lemmas.List.Edits.{Swapped, swapped_from_swap, length-swap}
use Rattle.std.proofs.lemmas.Option.{get_or_from_slice_get, slice_get_within}
use Rattle.std.proofs.lemmas.Bool.{cases_eq, or_cases, or_left, or_right, eqb-true}
use Rattle.lemma_checker.specs.declared.literal.Literal.{Literal}
use Rattle.lemma_checker.specs.Clauses.{opposite, has, set_of}
use Rattle.lemma_checker.proofs.ClauseLemmas.{has_get_or}
use Rattle.watch_lists.specs.Watching.{literal_at}
use Rattle.watch_lists.specs.Looks.{IsFacing, IsOther, IsMoved, IsLast, IsLost}
use Rattle.watch_lists.proofs.Lists.{Stands, place_of}

-- the watches are the literals at the first two places
pub two_cases : (c : List Literal) (x : ℕ) → 2 ≤ length c → has x (take 2 c) ≡ true → (x ≡ literal_at c 0) ⊎ (x ≡ literal_at c 1)
two_cases [] x long h = absurd (omega arith)
two_cases (a ∷ []) x long h = absurd (omega arith)
two_cases (a ∷ b ∷ c) x long h = elim (or_cases (eqb a.0 x) (has x (b ∷ [])) h) [
  | inl e ↦ inl (sym (eqb-true a.0 x e))
  | inr later ↦ elim (or_cases (eqb b.0 x) false later) [ inl e ↦ inr (sym (eqb-true b.0 x e)) | inr none ↦ absurd (true≢false (sym none)) ]
]

pub first_watched : (c : List Literal) → 2 ≤ length c → has (literal_at c 0) (take 2 c) ≡ true
first_watched [] long = absurd (omega arith)
first_watched (a ∷ []) long = absurd (omega arith)
first_watched (a ∷ b ∷ c) long = or_left (eqb a.0 a.0) (has a.0 (b ∷ [])) (eq-eqb a.0 a.0 refl)

pub second_watched : (c : List Literal) → 2 ≤ length c → has (literal_at c 1) (take 2 c) ≡ true
second_watched [] long = absurd (omega arith)
second_watched (a ∷ []) long = absurd (omega arith)
second_watched (a ∷ b ∷ c) long = or_right (eqb a.0 b.0) (has b.0 (b ∷ [])) (or_left (eqb b.0 b.0) false (eq-eqb b.0 b.0 refl))

pub has_place : (c : List Literal) (p : ℕ) → p < length c → has (literal_at c p) c ≡ true
has_place c p lt = has_get_or c p (record { 0 = 0 }) lt

-- where the second literal is false and no other past it is open, all but the first are false
pub rest_false : (c : List Literal) (s : ℕ → Bool) (f : ℕ) → literal_at c 1 ≡ f → s (opposite f) ≡ true → ((p : ℕ) → 2 ≤ p → p < length c → literal_at c p ≢ literal_at c 0 → s (opposite (literal_at c p)) ≡ true) → (m : ℕ) → has m c ≡ true → m ≢ literal_at c 0 → s (opposite m) ≡ true
rest_false c s f second denied none m h away =
    let st : Stands c m = place_of c m h in
    let here : literal_at c st.place ≡ m = ap (λ (z : Literal). z.0) (get_or_from_slice_get c st.place st.literal (record { 0 = 0 }) st.is) ∙ st.number in
    let back : (p : ℕ) → p ≡ st.place → literal_at c p ≡ m = λ p e. ap (literal_at c) e ∙ here in
    elim (cases_eq st.place 0) [
      | inl e ↦ absurd (away (sym (back 0 (sym e))))
      | inr some ↦ elim (cases_eq st.place 1) [
        | inl e ↦ ap (λ (k : ℕ). s (opposite k)) (sym (back 1 (sym e)) ∙ second) ∙ denied
        | inr more ↦ ap (λ (k : ℕ). s (opposite k)) (sym here) ∙ none st.place (omega arith) (within st) (λ q. away (sym here ∙ q))
      ]
    ]
  where
    within : (st : Stands c m) → st.place < length c
    within st = slice_get_within c st.place st.literal st.is

pub lost : (old c : List Literal) (s : ℕ → Bool) (f : ℕ) → IsFacing old c → literal_at c 1 ≡ f → s (opposite f) ≡ true → s (opposite (literal_at c 0)) ≡ true → ((p : ℕ) → 2 ≤ p → p < length c → literal_at c p ≢ literal_at c 0 → s (opposite (literal_at c p)) ≡ true) → IsLost old c s
lost old c s f facing second denied first none = record {
  facing = facing;
  conflict = record { each = λ m h. elim (cases_eq m (literal_at c 0)) [ inl e ↦ ap (λ (k : ℕ). s (opposite k)) e ∙ first | inr away ↦ rest_false c s f second denied none m h away ] };
}

pub last : (old c : List Literal) (s : ℕ → Bool) (f : ℕ) → IsFacing old c → literal_at c 1 ≡ f → s (opposite f) ≡ true → s (literal_at c 0) ≡ false → s (opposite (literal_at c 0)) ≡ false → ((p : ℕ) → 2 ≤ p → p < length c → literal_at c p ≢ literal_at c 0 → s (opposite (literal_at c p)) ≡ true) → IsLast (literal_at c 0) old c s
last old c s f facing second denied not_true not_false none = record {
  facing = facing;
  forced = record {
    others = record { member = has_place c 0 (omega (arith, facing.order.two.long)); others = λ m h away. rest_false c s f second denied none m h away };
    not_true = not_true;
    not_false = not_false;
  };
}

-- the second literal changes places with one past the first two
pub moved : (old c new : List Literal) (s : ℕ → Bool) (f p : ℕ) → IsFacing old c → literal_at c 1 ≡ f → IsOther c s p → new ≡ swap c 1 p → IsPermutation c new → IsMoved f (literal_at c p) (literal_at c 0) old new s
moved old c new s f p facing second other swapped permuted =
    let two = facing.order.two in
    let w : Swapped (λ i. get_or c i (record { 0 = 0 })) (λ i. get_or new i (record { 0 = 0 })) 1 p = swapped_from_swap c new 1 p (record { 0 = 0 }) (omega (arith, two.long)) other.below swapped in
    let at_first : literal_at new 0 ≡ literal_at c 0 = ap (λ (z : Literal). z.0) (w.2 0 (λ e. absurd (omega arith)) (λ e. absurd (omega (arith, other.past)))) in
    let at_second : literal_at new 1 ≡ literal_at c p = ap (λ (z : Literal). z.0) w.0 in
    let sets : set_of new ≡ set_of c = fun_ext (λ l. sym (list_any-IsPermutation (λ x. eqb x.0 l) c new permuted)) in
    let long : length new ≡ length c = ap length swapped ∙ length-swap c 1 p in
    record {
      order = record { same = sets ∙ facing.order.same; length = long ∙ facing.order.length; two = record { long = omega (arith, long, two.long); different = λ e. other.different (sym at_second ∙ (sym e ∙ at_first)) } };
      watched = λ x h. elim (two_cases new x (omega (arith, long, two.long)) h) [
        | inl e ↦ let at_c : x ≡ literal_at c 0 = e ∙ at_first in inr (sym (facing.watched x) ∙ (ap (λ (k : ℕ). has k (take 2 c)) at_c ∙ first_watched c two.long), λ q. two.different (sym at_c ∙ (q ∙ sym second)))
        | inr e ↦ inl (e ∙ at_second)
      ];
      member = ap (λ (f : ℕ → Bool). f (literal_at c p)) sets ∙ has_place c p other.below;
      second = ap (λ (f : ℕ → Bool). f (literal_at c 0)) sets ∙ has_place c 0 (omega (arith, two.long));
      free = other.free;
    }
