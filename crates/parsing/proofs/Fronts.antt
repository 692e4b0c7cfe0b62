-- Two places in one list: they are one, or the one stands behind the other.
use Rattle.std.proofs.Common.{◌≡◌, List, [], ◌∷◌, ◌++◌, ◌⊎◌, inl, inr, refl, sym, ap}

-- The list `behind` begins with `front` and the token behind it.
unfoldable pub IsBehind : {Tok : Type 0} → List Tok → Tok → List Tok → Type 0
IsBehind {Tok} front t behind = (more : List Tok) × (behind ≡ (front ++ t ∷ []) ++ more)

same_token : {Tok : Type 0} (s t : Tok) (xs ys : List Tok) → s ∷ xs ≡ t ∷ ys → s ≡ t
same_token s t xs ys e = cc

same_rest : {Tok : Type 0} (s t : Tok) (xs ys : List Tok) → s ∷ xs ≡ t ∷ ys → xs ≡ ys
same_rest s t xs ys e = cc

cons_behind : {Tok : Type 0} (a b t : Tok) (f g : List Tok) → a ≡ b → IsBehind f t g → IsBehind (a ∷ f) t (b ∷ g)
unfolding IsBehind
cons_behind a b t f g e h = (h.0, rw (e, h.1) refl)

pub two_fronts : {Tok : Type 0} (f g : List Tok) (s t : Tok) (xs ys : List Tok) → f ++ s ∷ xs ≡ g ++ t ∷ ys → IsBehind f s g ⊎ (IsBehind g t f ⊎ (s ≡ t))
unfolding IsBehind
two_fronts [] [] s t xs ys e = inr (inr (same_token s t xs ys e))
two_fronts [] (b ∷ g) s t xs ys e = inl (g, ap (λ z. z ∷ g) (sym (same_token s b xs (g ++ t ∷ ys) e)))
two_fronts (a ∷ f) [] s t xs ys e = inr (inl (f, ap (λ z. z ∷ f) (same_token a t (f ++ s ∷ xs) ys e)))
two_fronts (a ∷ f) (b ∷ g) s t xs ys e =
    let same : a ≡ b = same_token a b (f ++ s ∷ xs) (g ++ t ∷ ys) e in
    elim (two_fronts f g s t xs ys (same_rest a b (f ++ s ∷ xs) (g ++ t ∷ ys) e)) [
      | inl h ↦ inl (cons_behind a b s f g same h)
      | inr (inl h) ↦ inr (inl (cons_behind b a t g f (sym same) h))
      | inr (inr h) ↦ inr (inr h)
    ]
