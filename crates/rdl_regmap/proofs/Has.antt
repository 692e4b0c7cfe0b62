-- What is in a list, by the list.
use Rattle.std.proofs.Common.{◌≡◌, ◌⊎◌, inl, inr, ℕ, zero, suc, List, [], ◌∷◌, ◌++◌, Contains, Option, Some, None, slice_get, refl, sym, ◌∙◌, ap, subst, arith}
use Rattle.std.specs.List.{All, AllByRecursion, flat_map}
use Rattle.std.specs.List.Sorted.{IsPermutation}
use Rattle.std.proofs.lemmas.List.Elements.{All-nil, All-cons, recursion_from_All}
use Rattle.std.proofs.lemmas.List.Sorted.{All-permutation}

-- ---- what an option is

pub data OptionCase {A : Type 0} (o : Option A) : Type 0 where
  IsNone : o ≡ None → OptionCase o
  IsSome : (x : A) → o ≡ Some x → OptionCase o

pub option_case : {A : Type 0} (o : Option A) → OptionCase o
option_case None = OptionCase.IsNone refl
option_case (Some x) = OptionCase.IsSome x refl

-- ---- membership

abbrev pub Has : {A : Type 0} → A → List A → Type 0
Has x [] = ⊥
Has x (y ∷ ys) = (x ≡ y) ⊎ Has x ys

pub has_left : {A : Type 0} (x : A) (xs ys : List A) → Has x xs → Has x (xs ++ ys)
has_left x [] ys h = absurd h
has_left x (y ∷ xs) ys h = elim h [ inl e ↦ inl e | inr r ↦ inr (has_left x xs ys r) ]

pub has_right : {A : Type 0} (x : A) (xs ys : List A) → Has x ys → Has x (xs ++ ys)
has_right x [] ys h = h
has_right x (y ∷ xs) ys h = inr (has_right x xs ys h)

pub has_cases : {A : Type 0} (x : A) (xs ys : List A) → Has x (xs ++ ys) → Has x xs ⊎ Has x ys
has_cases x [] ys h = inr h
has_cases x (y ∷ xs) ys h = elim h [ inl e ↦ inl (inl e) | inr r ↦ elim (has_cases x xs ys r) [ inl l ↦ inl (inr l) | inr q ↦ inr q ] ]

-- ---- what elements give

pub has_flat : {A B : Type 0} (f : A → List B) (y : B) (x : A) (xs : List A) → Has x xs → Has y (f x) → Has y (flat_map f xs)
has_flat f y x [] h i = absurd h
has_flat f y x (z ∷ xs) h i = elim h [
  | inl e ↦ has_left y (f z) (flat_map f xs) (subst (λ w. Has y (f w)) e i)
  | inr r ↦ has_right y (f z) (flat_map f xs) (has_flat f y x xs r i)
]

pub record FromOne {A B : Type 0} (f : A → List B) (y : B) (xs : List A) : Type 0 where
  pub one : A
  pub among : Has one xs
  pub gives : Has y (f one)

pub from_flat : {A B : Type 0} (f : A → List B) (y : B) (xs : List A) → Has y (flat_map f xs) → FromOne f y xs
from_flat f y [] h = absurd h
from_flat f y (x ∷ xs) h = elim (has_cases y (f x) (flat_map f xs) h) [
  | inl i ↦ record { one = x; among = inl refl; gives = i }
  | inr r ↦ let o : FromOne f y xs = from_flat f y xs r in record { one = o.one; among = inr o.among; gives = o.gives }
]

-- ---- nothing

pub none_left : {A : Type 0} (xs ys : List A) → xs ++ ys ≡ [] → xs ≡ []
none_left [] ys e = refl
none_left (x ∷ xs) ys e = cc

pub none_right : {A : Type 0} (xs ys : List A) → xs ++ ys ≡ [] → ys ≡ []
none_right [] ys e = e
none_right (x ∷ xs) ys e = cc

pub none_in : {A : Type 0} (xs : List A) → ((x : A) → Contains xs x → ⊥) → xs ≡ []
none_in [] h = refl
none_in (x ∷ xs) h = absurd (h x (0, omega arith, refl))

pub has_none : {A : Type 0} (x : A) (xs : List A) → xs ≡ [] → Has x xs → ⊥
has_none x [] e h = h
has_none x (y ∷ xs) e h = cc

pub flat_none : {A B : Type 0} (f : A → List B) (x : A) (xs : List A) → flat_map f xs ≡ [] → Has x xs → f x ≡ []
flat_none f x [] e h = absurd h
flat_none f x (y ∷ xs) e h = elim h [
  | inl s ↦ ap f s ∙ none_left (f y) (flat_map f xs) e
  | inr r ↦ flat_none f x xs (none_right (f y) (flat_map f xs) e) r
]

-- ---- in another order

all_have : {A : Type 0} (P : A → Type 0) (xs : List A) → ((x : A) → Has x xs → P x) → All P xs
all_have P [] h = All-nil P
all_have P (x ∷ xs) h = All-cons P x xs (h x (inl refl)) (all_have P xs (λ y r. h y (inr r)))

has_of_each : {A : Type 0} (P : A → Type 0) (ys : List A) (x : A) → AllByRecursion P ys → Has x ys → P x
has_of_each P [] x a i = absurd i
has_of_each P (y ∷ ys) x a i = elim i [ inl e ↦ subst P (sym e) a.0 | inr r ↦ has_of_each P ys x a.1 r ]

pub has_of_all : {A : Type 0} (P : A → Type 0) (xs : List A) (x : A) → All P xs → Has x xs → P x
has_of_all P xs x all h = has_of_each P xs x (recursion_from_All P xs all) h

pub has_permuted : {A : Type 0} (xs ys : List A) → IsPermutation xs ys → (y : A) → Has y ys → Has y xs
has_permuted xs ys moved y h = has_of_all (λ z. Has z xs) ys y (All-permutation (λ z. Has z xs) xs ys moved (all_have (λ z. Has z xs) xs (λ z i. i))) h

-- ---- by number

pub has_at : {A : Type 0} (xs : List A) (k : ℕ) (x : A) → slice_get xs k ≡ Some x → Has x xs
has_at [] k x e = cc
has_at (y ∷ xs) zero x e = inl (cc)
has_at (y ∷ xs) (suc k) x e = inr (has_at xs k x e)
