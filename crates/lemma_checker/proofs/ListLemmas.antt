-- Elements of lists by their place.
use Rattle.std.proofs.Common.{◌≡◌, ℕ, zero, suc, ◌+◌, ◌<◌, ◌⊎◌, Bool, true, false, List, [], ◌∷◌, ◌++◌, length, take, get_or, Some, slice_get, refl, ap, ◌∙◌, inl, inr, arith}
use Rattle.std.specs.List.{list_all, list_any}
use Rattle.std.proofs.lemmas.Bool.{and_from}
use Rattle.std.proofs.lemmas.List.Folds.{list_all_more, list_all_at, list_any_more, list_any_at}
use Rattle.std.proofs.lemmas.Option.{slice_get_within, get_or_from_slice_get}

-- the element of two lists joined is of the first
pub get_left : {X : Type 0} (xs ys : List X) (i : ℕ) → i < length xs → slice_get (xs ++ ys) i ≡ slice_get xs i
get_left [] ys i lt = absurd (omega arith)
get_left (x ∷ xs) ys zero lt = refl
get_left (x ∷ xs) ys (suc i) lt = get_left xs ys i (omega arith)

-- or of the second
pub get_right : {X : Type 0} (xs ys : List X) (i : ℕ) → slice_get (xs ++ ys) (length xs + i) ≡ slice_get ys i
get_right [] ys i = let e : 0 + i ≡ i = omega arith in ap (slice_get ys) e
get_right (x ∷ xs) ys i = let e : suc (length xs) + i ≡ suc (length xs + i) = omega arith in ap (slice_get (x ∷ (xs ++ ys))) e ∙ get_right xs ys i

-- an element stays where a list grows
pub get_kept : {X : Type 0} (xs ys : List X) (i : ℕ) (x : X) → slice_get xs i ≡ Some x → slice_get (xs ++ ys) i ≡ Some x
get_kept xs ys i x is = get_left xs ys i (slice_get_within xs i x is) ∙ is

-- the pushed element stands at the end
pub get_last : {X : Type 0} (xs : List X) (y : X) → slice_get (xs ++ y ∷ []) (length xs) ≡ Some y
get_last [] y = refl
get_last (x ∷ xs) y = get_last xs y

-- an element after a push is an old one or the pushed one
pub get_push : {X : Type 0} (xs : List X) (y : X) (i : ℕ) (z : X) → slice_get (xs ++ y ∷ []) i ≡ Some z → (slice_get xs i ≡ Some z) ⊎ ((i ≡ length xs) × (z ≡ y))
get_push [] y zero z is = inr (refl, cc)
get_push [] y (suc i) z is = absurd (cc)
get_push (x ∷ xs) y zero z is = inl is
get_push (x ∷ xs) y (suc i) z is = elim (get_push xs y i z is) [ inl old ↦ inl old | inr e ↦ inr (ap suc e.0, e.1) ]

-- an element of two lists joined is of one of them
pub get_either : {X : Type 0} (xs ys : List X) (i : ℕ) (z : X) → slice_get (xs ++ ys) i ≡ Some z → (slice_get xs i ≡ Some z) ⊎ ((j : ℕ) × (slice_get ys j ≡ Some z) × (i ≡ length xs + j))
get_either [] ys i z is = inr (i, is, omega arith)
get_either (x ∷ xs) ys zero z is = inl is
get_either (x ∷ xs) ys (suc i) z is = elim (get_either xs ys i z is) [ inl old ↦ inl old | inr e ↦ inr (e.0, e.1, omega (arith, e.2)) ]

-- a test of all elements, or of some element, at the one that is read
pub all_read_more : {X : Type 0} (p : X → Bool) (xs : List X) (i : ℕ) (x : X) → slice_get xs i ≡ Some x → list_all p (take i xs) ≡ true → p x ≡ true → list_all p (take (i + 1) xs) ≡ true
all_read_more p xs i x is before here = list_all_more p xs i x (slice_get_within xs i x is) ∙ and_from _ _ before (ap p (get_or_from_slice_get xs i x x is) ∙ here)

pub all_read_false : {X : Type 0} (p : X → Bool) (xs : List X) (i : ℕ) (x : X) → slice_get xs i ≡ Some x → p x ≡ false → list_all p xs ≡ false
all_read_false p xs i x is here = list_all_at p xs i x (slice_get_within xs i x is) (ap p (get_or_from_slice_get xs i x x is) ∙ here)

pub any_read_more : {X : Type 0} (p : X → Bool) (xs : List X) (i : ℕ) (x : X) → slice_get xs i ≡ Some x → list_any p (take i xs) ≡ false → p x ≡ false → list_any p (take (i + 1) xs) ≡ false
any_read_more p xs i x is before here =
    let last : p (get_or xs i x) ≡ false = ap p (get_or_from_slice_get xs i x x is) ∙ here in
    list_any_more p xs i x (slice_get_within xs i x is) ∙ rw (before, last) refl

pub any_read_true : {X : Type 0} (p : X → Bool) (xs : List X) (i : ℕ) (x : X) → slice_get xs i ≡ Some x → p x ≡ true → list_any p xs ≡ true
any_read_true p xs i x is here = list_any_at p xs i x (slice_get_within xs i x is) (ap p (get_or_from_slice_get xs i x x is) ∙ here)
