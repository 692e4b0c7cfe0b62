-- Fronts of lists, and clauses as sets.
use Rattle.std.proofs.Common.{◌≡◌, ◌≢◌, ℕ, zero, suc, ◌+◌, ◌<◌, ◌≤◌, ◌⊎◌, Bool, true, false, eqb, List, [], ◌∷◌, ◌++◌, length, take, get_or, Some, slice_get, refl, ap, ◌∙◌, sym, inl, inr, arith, true≢false, eq-eqb}
use Rattle.std.proofs.Math.Path.{fun_ext}
use Rattle.std.proofs.lemmas.Bool.{cases_eq, or_cases, or_left, or_right, eqb-true, false_from_ne_true}
use Rattle.std.proofs.lemmas.List.{take_more, take-take}
use Rattle.lemma_checker.specs.declared.literal.Literal.{Literal}
use Rattle.lemma_checker.specs.Clauses.{has, set_of, AreDistinct}
use Rattle.lemma_checker.proofs.CollectLemmas.{has_push_other}

-- an element of a front is one of the list, before its end
pub get_front : {X : Type 0} (n : ℕ) (xs : List X) (i : ℕ) (x : X) → slice_get (take n xs) i ≡ Some x → (i < n) × (slice_get xs i ≡ Some x)
get_front zero xs i x is = absurd (cc)
get_front (suc n) [] i x is = absurd (cc)
get_front (suc n) (y ∷ ys) zero x is = (omega arith, is)
get_front (suc n) (y ∷ ys) (suc i) x is = let r : (i < n) × (slice_get ys i ≡ Some x) = get_front n ys i x is in (omega (arith, r.0), r.1)

pub get_take : {X : Type 0} (n : ℕ) (xs : List X) (i : ℕ) (x : X) → i < n → slice_get xs i ≡ Some x → slice_get (take n xs) i ≡ Some x
get_take zero xs i x lt is = absurd (omega arith)
get_take (suc n) [] i x lt is = is
get_take (suc n) (y ∷ ys) zero x lt is = is
get_take (suc n) (y ∷ ys) (suc i) x lt is = get_take n ys i x (omega arith) is

-- a front's literals are the list's
pub has_front : (n : ℕ) (c : List Literal) (l : ℕ) → has l (take n c) ≡ true → has l c ≡ true
has_front zero c l h = absurd (true≢false (sym h))
has_front (suc n) [] l h = h
has_front (suc n) (x ∷ xs) l h = elim (or_cases (eqb x.0 l) (has l (take n xs)) h) [ inl here ↦ or_left (eqb x.0 l) (has l xs) here | inr later ↦ or_right (eqb x.0 l) (has l xs) (has_front n xs l later) ]

pub lacks_front : (n : ℕ) (c : List Literal) (l : ℕ) → has l c ≡ false → has l (take n c) ≡ false
lacks_front n c l h = false_from_ne_true (has l (take n c)) (λ t. true≢false (sym (has_front n c l t) ∙ h))

pub has_longer : (m n : ℕ) (c : List Literal) (l : ℕ) → m ≤ n → has l (take m c) ≡ true → has l (take n c) ≡ true
has_longer m n c l le h = has_front m (take n c) l (ap (has l) (take-take m n c le) ∙ h)

-- the literal at a place is the list's
pub has_at : (c : List Literal) (i : ℕ) (x : Literal) → slice_get c i ≡ Some x → has x.0 c ≡ true
has_at [] i x is = absurd (cc)
has_at (y ∷ ys) zero x is = let e : y ≡ x = cc in or_left (eqb y.0 x.0) (has x.0 ys) (eq-eqb y.0 x.0 (ap (λ (z : Literal). z.0) e))
has_at (y ∷ ys) (suc i) x is = or_right (eqb y.0 x.0) (has x.0 ys) (has_at ys i x is)

-- where a literal stands
pub record Stands (c : List Literal) (l : ℕ) : Type 0 where
  pub place : ℕ
  pub literal : Literal
  pub is : slice_get c place ≡ Some literal
  pub number : literal.0 ≡ l

pub place_of : (c : List Literal) (l : ℕ) → has l c ≡ true → Stands c l
place_of [] l h = absurd (true≢false (sym h))
place_of (x ∷ xs) l h = elim (or_cases (eqb x.0 l) (has l xs) h) [
  | inl here ↦ record { place = 0; literal = x; is = refl; number = eqb-true x.0 l here }
  | inr later ↦ let s : Stands xs l = place_of xs l later in record { place = suc s.place; literal = s.literal; is = s.is; number = s.number }
]

-- a push onto a clause, as a set
pub lacks_push : (l : ℕ) (c : List Literal) (x : Literal) → has l c ≡ false → l ≢ x.0 → has l (c ++ x ∷ []) ≡ false
lacks_push l c x h away = has_push_other l c x away ∙ h

pub push_cases : (l : ℕ) (c : List Literal) (x : Literal) → has l (c ++ x ∷ []) ≡ true → (has l c ≡ true) ⊎ (l ≡ x.0)
push_cases l c x h = elim (cases_eq l x.0) [ inl e ↦ inr e | inr away ↦ inl (sym (has_push_other l c x away) ∙ h) ]

-- one literal less from the end
pub unset_same : (t : List Literal) (i j : ℕ) (d : Literal) (v w : ℕ → Bool) → j ≡ i + 1 → i < length t → AreDistinct t → slice_get t i ≡ Some (get_or t i d) → v ≡ set_of (take j t) → w (get_or t i d).0 ≡ false → ((l : ℕ) → l ≢ (get_or t i d).0 → w l ≡ v l) → w ≡ set_of (take i t)
unset_same t i j d v w next lt once is same cleared others = fun_ext (λ l.
    let x : Literal = get_or t i d in
    let more : take j t ≡ take i t ++ x ∷ [] = ap (λ (k : ℕ). take k t) next ∙ take_more t i d lt in
    elim (cases_eq l x.0) [
      | inl e ↦ ap w e ∙ (cleared ∙ (sym (once.once i x is) ∙ ap (λ (k : ℕ). has k (take i t)) (sym e)))
      | inr away ↦ others l away ∙ (ap (λ (f : ℕ → Bool). f l) same ∙ (ap (has l) more ∙ has_push_other l (take i t) x away))
    ])
