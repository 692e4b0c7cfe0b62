-- Bits of selects, one after the other.
use Rattle.std.proofs.Common.{◌≡◌, inl, inr, ℕ, zero, suc, ◌+◌, ◌-◌, ◌<◌, ◌++◌, Bool, List, [], ◌∷◌, refl, ap, append_assoc, arith}
use Rattle.std.proofs.lemmas.Bool.{cases_Bool}
use Rattle.flat_design.specs.declared.net.Net.{Net}
use Rattle.flat_design.specs.Bits.{Values, Offset, lies_inside, bit_at, bits_from}
use Rattle.flat_words.specs.Starts.{AreAlike}

pub select_more : (xs all : List Bool) (f : ℕ → Bool) (k width : ℕ) → k < width → xs ++ bits_from f k (width - k) ≡ all → (xs ++ f k ∷ []) ++ bits_from f (k + 1) (width - (k + 1)) ≡ all
select_more xs all f k width more is =
    let e : width - k ≡ suc (width - (k + 1)) = omega arith in
    rw append_assoc (rw e at is)

bit_alike : (v : Values) (net : Net) (o p : Offset) → AreAlike net o p → (k : ℕ) → k < 4294967296 → bit_at v net p k ≡ bit_at v net o k
bit_alike v net o p alike k below = elim (cases_Bool (lies_inside net o k)) [
  | inl in_ ↦ rw (alike.inside k below, in_) (ap (λ x. v (net.first + x)) (alike.place k below in_))
  | inr out_ ↦ rw (alike.inside k below, out_) refl
]

from_alike : (f g : ℕ → Bool) (k count : ℕ) → ((j : ℕ) → j < k + count → f j ≡ g j) → bits_from f k count ≡ bits_from g k count
from_alike f g k zero same = refl
from_alike f g k (suc count) same = (λ i. same k (omega arith) i ∷ from_alike f g (k + 1) count (λ j below. same j (omega (arith, below))) i)

pub select_alike : (v : Values) (net : Net) (o p : Offset) (width : ℕ) → AreAlike net o p → width < 4294967296 → bits_from (bit_at v net p) 0 width ≡ bits_from (bit_at v net o) 0 width
select_alike v net o p width alike narrow = from_alike (bit_at v net p) (bit_at v net o) 0 width (λ j below. bit_alike v net o p alike j (omega (arith, below, narrow)))
