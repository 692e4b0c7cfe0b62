-- A list with one more element at its end.
use Rattle.std.proofs.Common.{◌≡◌, ℕ, zero, suc, List, [], ◌∷◌, ◌++◌, length, ◌⊎◌, inl, inr, arith, slice_get, Some, refl}
use Rattle.std.proofs.lemmas.Option.{same_Some}

-- an element stays
pub get_kept : {A : Type 0} (xs : List A) (y z : A) (i : ℕ) → slice_get xs i ≡ Some z → slice_get (xs ++ y ∷ []) i ≡ Some z
get_kept [] y z i h = absurd (elim_none z h)
  where
    elim_none : {A : Type 0} (z : A) → slice_get {X = A} [] i ≡ Some z → ⊥
    elim_none z h = cc
get_kept (x ∷ xs) y z zero h = h
get_kept (x ∷ xs) y z (suc i) h = get_kept xs y z i h

-- the last is the new one
pub get_last : {A : Type 0} (xs : List A) (y : A) → slice_get (xs ++ y ∷ []) (length xs) ≡ Some y
get_last [] y = refl
get_last (x ∷ xs) y = get_last xs y

-- an element is an old one or the new one
pub get_push : {A : Type 0} (xs : List A) (y z : A) (i : ℕ) → slice_get (xs ++ y ∷ []) i ≡ Some z → (slice_get xs i ≡ Some z) ⊎ ((i ≡ length xs) × (y ≡ z))
get_push [] y z zero h = inr (refl, same_Some y z h)
get_push [] y z (suc i) h = absurd (let e : ⊥ = cc in e)
get_push (x ∷ xs) y z zero h = inl h
get_push (x ∷ xs) y z (suc i) h = elim (get_push xs y z i h) [ inl p ↦ inl p | inr p ↦ inr (let e : suc i ≡ suc (length xs) = omega arith in e, p.1) ]
