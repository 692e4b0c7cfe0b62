-- Words one after the other.
use Rattle.std.proofs.Common.{◌≡◌, ℕ, zero, suc, ◌+◌, List, refl, ◌∙◌, ap, arith}
use Rattle.invariant_miner.specs.Draws.{next, later}

pub later_none : (s : List ℕ) → later 0 s ≡ s
unfolding later
later_none s = refl

-- one word more, at the end
pub later_more : (n : ℕ) (s : List ℕ) → later (n + 1) s ≡ next (later n s)
unfolding later
later_more zero s = refl
later_more (suc n) s = let e : suc n + 1 ≡ suc (n + 1) = omega arith in ap (λ (k : ℕ). later k s) e ∙ later_more n (next s)

-- some words, then others
pub later_add : (m n : ℕ) (s : List ℕ) → later n (later m s) ≡ later (m + n) s
unfolding later
later_add zero n s = let e : n ≡ zero + n = omega arith in ap (λ (k : ℕ). later k s) e
later_add (suc m) n s = later_add m n (next s) ∙ (let e : suc (m + n) ≡ suc m + n = omega arith in ap (λ (k : ℕ). later k s) e)
