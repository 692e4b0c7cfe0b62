-- Bits of words.
use Rattle.std.proofs.Common.{◌≡◌, ◌≢◌, ℕ, ◌*◌, ◌%◌, ◌^◌, ◌<◌, true, false, not, ◌&&◌, ◌||◌, eqb, bit_and, bit_or, w64, refl, ◌∙◌, ap, sym, arith, inl, inr, eq-eqb, true≢false, List, [], ◌∷◌, ◌++◌, zero, suc, get_or, ◌⊎◌}
use Rattle.std.specs.Int.{bit_at, bit_not}
use Rattle.std.proofs.lemmas.Nat.Bits.{bit_at_and, bit_at_or, bit_at_not, bit_at_set_same, bit_at_set_other, bit_at_clear_same, bit_at_clear_other, bit_at_ones, bit_at-zero, bit_at-lt, same_from_bits_below}
use Rattle.std.proofs.lemmas.List.{map_push}
use Rattle.std.proofs.lemmas.Bool.{cases_eq}
use Rattle.invariant_miner.specs.Lanes.{bit, lane, lane_at}

pub bit_zero : (r : ℕ) → bit r 0 ≡ false
unfolding bit
bit_zero r = ap (λ (n : ℕ). eqb n 1) (bit_at-zero r)

pub set_same : (w r : ℕ) → r < 64 → bit r (bit_or w (1 * 2 ^ r % 2 ^ 64)) ≡ true
unfolding bit
set_same w r lt = ap (λ (n : ℕ). eqb n 1) (bit_at_set_same w64 w r lt)

pub set_other : (w r k : ℕ) → r < 64 → k ≢ r → bit k (bit_or w (1 * 2 ^ r % 2 ^ 64)) ≡ bit k w
unfolding bit
set_other w r k lt away = ap (λ (n : ℕ). eqb n 1) (bit_at_set_other w64 w r lt k away)

pub clear_same : (w r : ℕ) → r < 64 → bit r (bit_and w (bit_not w64 (1 * 2 ^ r % 2 ^ 64))) ≡ false
unfolding bit
clear_same w r lt = ap (λ (n : ℕ). eqb n 1) (bit_at_clear_same w64 w r lt)

pub clear_other : (w r k : ℕ) → r < 64 → k < 64 → k ≢ r → bit k (bit_and w (bit_not w64 (1 * 2 ^ r % 2 ^ 64))) ≡ bit k w
unfolding bit
clear_other w r k lt within away = ap (λ (n : ℕ). eqb n 1) (bit_at_clear_other w64 w r lt k within away)

-- a number below 2 is 0 or 1
two_cases : (n : ℕ) → n < 2 → (n ≡ 0) ⊎ (n ≡ 1)
two_cases n lt = elim (cases_eq n 0) [ inl z ↦ inl z | inr p ↦ inr (omega arith) ]

pub bit_and_both : (a b r : ℕ) → bit r (bit_and a b) ≡ (bit r a && bit r b)
unfolding bit
bit_and_both a b r =
    ap (λ (n : ℕ). eqb n 1) (bit_at_and a b r) ∙ (elim (two_cases (bit_at a r) (bit_at-lt a r)) [
      | inl x ↦ elim (two_cases (bit_at b r) (bit_at-lt b r)) [ inl y ↦ rw (x, y) refl | inr y ↦ rw (x, y) refl ]
      | inr x ↦ elim (two_cases (bit_at b r) (bit_at-lt b r)) [ inl y ↦ rw (x, y) refl | inr y ↦ rw (x, y) refl ]
    ])

pub bit_or_both : (a b r : ℕ) → bit r (bit_or a b) ≡ (bit r a || bit r b)
unfolding bit
bit_or_both a b r =
    ap (λ (n : ℕ). eqb n 1) (bit_at_or a b r) ∙ (elim (two_cases (bit_at a r) (bit_at-lt a r)) [
      | inl x ↦ elim (two_cases (bit_at b r) (bit_at-lt b r)) [ inl y ↦ rw (x, y) refl | inr y ↦ rw (x, y) refl ]
      | inr x ↦ elim (two_cases (bit_at b r) (bit_at-lt b r)) [ inl y ↦ rw (x, y) refl | inr y ↦ rw (x, y) refl ]
    ])

pub bit_inverted : (a r : ℕ) → a < 2 ^ 64 → r < 64 → bit r (bit_not w64 a) ≡ not (bit r a)
unfolding bit
bit_inverted a r small lt =
    ap (λ (n : ℕ). eqb n 1) (bit_at_not w64 a r small lt) ∙ (elim (two_cases (bit_at a r) (bit_at-lt a r)) [ inl x ↦ rw x refl | inr x ↦ rw x refl ])

-- a word without bits is 0
pub zero_from_bits : (w : ℕ) → w < 2 ^ 64 → ((r : ℕ) → r < 64 → bit r w ≡ false) → w ≡ 0
unfolding bit
zero_from_bits w small none = same_from_bits_below 64 w 0 small (omega arith) (λ i lt. elim (two_cases (bit_at w i) (bit_at-lt w i)) [
  | inl z ↦ z ∙ sym (bit_at-zero i)
  | inr o ↦ absurd (true≢false (sym (eq-eqb (bit_at w i) 1 o) ∙ none i lt))
])

-- the bit of run r in word i of a table
pub at_lane : (r : ℕ) (words : List ℕ) (i : ℕ) → get_or (lane r words) i false ≡ lane_at r words i
at_lane r [] i = sym (bit_zero r)
at_lane r (w ∷ ws) zero = refl
at_lane r (w ∷ ws) (suc i) = at_lane r ws i

-- every bit of the highest word
pub bit_ones : (r : ℕ) → r < 64 → bit r 18446744073709551615 ≡ true
unfolding bit
bit_ones r lt = ap (λ (n : ℕ). eqb n 1) (bit_at_ones 64 r lt)

-- the bits of one word more
pub lane_push : (r : ℕ) (words : List ℕ) (w : ℕ) → lane r (words ++ w ∷ []) ≡ lane r words ++ bit r w ∷ []
lane_push r words w = map_push (bit r) words w
