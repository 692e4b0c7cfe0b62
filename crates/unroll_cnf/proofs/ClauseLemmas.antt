-- Latch clauses of one and of two literals.
use Rattle.std.proofs.Common.{◌≡◌, ◌≢◌, ℕ, zero, suc, ◌^◌, ◌<◌, ◌≤◌, List, [], ◌∷◌, slice_get, Some, ap, sym, ◌∙◌, subst, arith}
use Rattle.unroll_cnf.specs.declared.latch_literal.LatchLiteral.{LatchLiteral}
use Rattle.unroll_cnf.specs.Latches.{AreApart, AreOfLatches, weight}

pub apart_one : (l : LatchLiteral) → AreApart (l ∷ [])
apart_one l = record { once = each l }
  where
    each : (l : LatchLiteral) (i j : ℕ) (m : LatchLiteral) → i < j → slice_get (l ∷ []) i ≡ Some m → slice_get (l ∷ []) j ≡ Some m → ⊥
    each l i zero m lt p q = omega arith
    each l i (suc j) m lt p q = cc

pub apart_two : (l k : LatchLiteral) → l.latch ≢ k.latch → AreApart (l ∷ k ∷ [])
apart_two l k ne = record { once = each l k ne }
  where
    each : (l k : LatchLiteral) → l.latch ≢ k.latch → (i j : ℕ) (m : LatchLiteral) → i < j → slice_get (l ∷ k ∷ []) i ≡ Some m → slice_get (l ∷ k ∷ []) j ≡ Some m → ⊥
    each l k ne i zero m lt p q = omega arith
    each l k ne zero (suc zero) m lt p q = let e : l ≡ m = cc in let f : k ≡ m = cc in ne (ap (λ (z : LatchLiteral). z.latch) (e ∙ sym f))
    each l k ne (suc i) (suc zero) m lt p q = omega arith
    each l k ne i (suc (suc j)) m lt p q = cc

-- a set of one clause of one literal
pub one_of : (n : ℕ) (l : LatchLiteral) → l.latch < n → AreOfLatches n ((l ∷ []) ∷ [])
one_of n l lt = record { each = λ i d is. record { each = literal n l lt i d is } }
  where
    literal : (n : ℕ) (l : LatchLiteral) → l.latch < n → (i : ℕ) (d : List LatchLiteral) → slice_get ((l ∷ []) ∷ []) i ≡ Some d → (j : ℕ) (m : LatchLiteral) → slice_get d j ≡ Some m → m.latch < n
    literal n l lt zero d is zero m there = let e : l ≡ m = cc in omega (arith, ap (λ (z : LatchLiteral). z.latch) e)
    literal n l lt zero d is (suc j) m there = let e : (l ∷ []) ≡ d = cc in absurd (none_later l d j m e there)
      where
        none_later : (l : LatchLiteral) (d : List LatchLiteral) (j : ℕ) (m : LatchLiteral) → (l ∷ []) ≡ d → slice_get d (suc j) ≡ Some m → ⊥
        none_later l [] j m e h = cc
        none_later l (k ∷ []) j m e h = cc
        none_later l (k ∷ (i ∷ d)) j m e h = cc
    literal n l lt (suc i) d is j m there = absurd (let e : ⊥ = cc in e)

pub of_set : (n : ℕ) (l : LatchLiteral) (d : List LatchLiteral) → d ≡ l ∷ [] → l.latch < n → AreOfLatches n (d ∷ [])
of_set n l d e lt = subst (λ (z : List LatchLiteral). AreOfLatches n (z ∷ [])) (sym e) (one_of n l lt)

pub small_set : (l : LatchLiteral) (d : List LatchLiteral) → d ≡ l ∷ [] → weight (d ∷ []) ≤ 2 ^ 28
small_set l d e = subst (λ (z : List LatchLiteral). weight (z ∷ []) ≤ 2 ^ 28) (sym e) (omega arith)
