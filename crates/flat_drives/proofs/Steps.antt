-- One item more.
use Rattle.std.proofs.Common.{◌≡◌, ◌⊎◌, inl, inr, ℕ, zero, suc, ◌+◌, ◌<◌, Bool, ◌||◌, List, [], ◌∷◌, ◌++◌, length, take, Some, refl, sym, ◌∙◌, ap, add-one, arith}
use Rattle.std.specs.Prelude.{slice_get, true, false}
use Rattle.std.specs.List.{list_any}

or_out : (a : Bool) → a || false ≡ a
or_out true = refl
or_out false = refl

or_of : (a b c : Bool) → a || (b || c) ≡ (a || b) || c
or_of true b c = refl
or_of false b c = refl

any_suc : {A : Type 0} (p : A → Bool) (xs : List A) (i : ℕ) (x : A) → slice_get xs i ≡ Some x → list_any p (take (suc i) xs) ≡ list_any p (take i xs) || p x
any_suc p [] i x at = cc
any_suc p (y ∷ ys) zero x at = or_out (p y) ∙ ap p cc
any_suc p (y ∷ ys) (suc i) x at = ap (λ b. p y || b) (any_suc p ys i x at) ∙ or_of (p y) (list_any p (take i ys)) (p x)

pub any_more : {A : Type 0} (p : A → Bool) (xs : List A) (i : ℕ) (x : A) → slice_get xs i ≡ Some x → list_any p (take (i + 1) xs) ≡ list_any p (take i xs) || p x
any_more p xs i x at = ap (λ n. list_any p (take n xs)) (add-one i) ∙ any_suc p xs i x at

pub pushed_at : {A : Type 0} (xs : List A) (x : A) (k : ℕ) (o : A) → slice_get (xs ++ x ∷ []) k ≡ Some o → (slice_get xs k ≡ Some o) ⊎ ((k ≡ length xs) × (x ≡ o))
pushed_at [] x zero o h = inr (refl, cc)
pushed_at [] x (suc k) o h = cc
pushed_at (y ∷ ys) x zero o h = inl h
pushed_at (y ∷ ys) x (suc k) o h = elim (pushed_at ys x k o h) [ inl old ↦ inl old | inr now ↦ inr (ap suc now.0, now.1) ]

pub some_same : {A : Type 0} {a b : A} → Some a ≡ Some b → a ≡ b
some_same {A} {a} {b} e = cc
