-- Numbers by their bits.
use Rattle.std.proofs.Common.{◌≡◌, ℕ, zero, suc, ◌+◌, ◌-◌, ◌*◌, ◌/◌, ◌%◌, ◌==◌, ◌^◌, ◌<◌, Bool, true, false, not, List, [], ◌∷◌, ◌++◌, length, get_or, replicate, refl, sym, ap, ◌∙◌, arith}
use Rattle.std.proofs.Math.Nat.{pow-succ', div-one, mod-eq_of_lt}
use Rattle.std.proofs.lemmas.Nat.{shr-shr, pow_pos}
use Rattle.std.proofs.lemmas.Bool.Decides.{nat_tests}
use Rattle.bit_base.specs.Numbers.{number_of, low_bits}
use Rattle.bit_base.specs.Operators.{is_any}
use Rattle.bit_base.proofs.Numbers.{number_of-low_bits}
use Rattle.field_policies.specs.Bits.{bit}

bit_first : (n : ℕ) → bit n 0 ≡ (n % 2 == 1)
unfolding bit
bit_first n = ap (λ m. m % 2 == 1) (div-one n)

bit_next : (n i : ℕ) → bit n (suc i) ≡ bit (n / 2) i
unfolding bit
bit_next n i =
    let split : 1 + i ≡ suc i = omega arith in
    rw (← split, ← shr-shr n 1 i) refl

-- a word whose places are the bits of a number
pub low_bits_by : (xs : List Bool) (n : ℕ) → ((i : ℕ) → i < length xs → bit n i ≡ get_or xs i false) → low_bits (length xs) n ≡ xs
low_bits_by [] n same = refl
low_bits_by (x ∷ xs) n same =
    let here : (n % 2 == 1) ≡ x = sym (bit_first n) ∙ same 0 (omega arith) in
    let rest : low_bits (length xs) (n / 2) ≡ xs = low_bits_by xs (n / 2) (λ i lt. sym (bit_next n i) ∙ same (suc i) (omega arith)) in
    rw (here, rest) refl

pub number_by : (xs : List Bool) (n : ℕ) → n < 2 ^ length xs → ((i : ℕ) → i < length xs → bit n i ≡ get_or xs i false) → number_of xs ≡ n
number_by xs n below same = sym (ap number_of (low_bits_by xs n same)) ∙ (number_of-low_bits (length xs) n ∙ mod-eq_of_lt below)

-- some bit is true where the number isn't 0
positive : (n : ℕ) → (1 + n == 0) ≡ false
positive n = grind (arith, nat_tests)

twice : (n : ℕ) → (0 + 2 * n == 0) ≡ (n == 0)
twice n = grind (arith, nat_tests)

pub any_is : (bits : List Bool) → is_any bits ≡ not (number_of bits == 0)
any_is [] = refl
any_is (true ∷ bits) = ap not (sym (positive (2 * number_of bits)))
any_is (false ∷ bits) = any_is bits ∙ ap not (sym (twice (number_of bits)))

-- the lowest places don't see what stands above them
odd_above : (q p r : ℕ) → (q * (2 * p) + r) % 2 ≡ r % 2
odd_above q p r = let e : q * (2 * p) ≡ 2 * (q * p) = grind arith in rw e (omega arith)

half_above : (q p r : ℕ) → (q * (2 * p) + r) / 2 ≡ q * p + r / 2
half_above q p r = let e : q * (2 * p) ≡ 2 * (q * p) = grind arith in rw e (omega arith)

pub low_bits_two : (w q r : ℕ) → r < 2 ^ w → low_bits (w + 2) (q * 2 ^ w + r) ≡ low_bits w r ++ ((q % 2 == 1) ∷ ((q / 2 % 2 == 1) ∷ []))
low_bits_two zero q r below = let e : q * 1 + r ≡ q = omega arith in rw e refl
low_bits_two (suc w) q r below =
    let p : 2 ^ suc w ≡ 2 * 2 ^ w = pow-succ' 2 w in
    let whole : suc w + 2 ≡ suc (w + 2) = omega arith in
    let half : r / 2 < 2 ^ w = omega arith in
    rw (whole, p, odd_above q (2 ^ w) r, half_above q (2 ^ w) r, low_bits_two w q (r / 2) half) refl

pub length_low : (w n : ℕ) → length (low_bits w n) ≡ w
length_low zero n = refl
length_low (suc w) n = rw (length_low w (n / 2)) (omega arith)

pub low_zeros : (w : ℕ) → low_bits w 0 ≡ replicate w false
low_zeros zero = refl
low_zeros (suc w) = rw (low_zeros w) refl

pub low_ones : (w : ℕ) → low_bits w (2 ^ w - 1) ≡ replicate w true
low_ones zero = refl
low_ones (suc w) =
    let p : 2 ^ suc w ≡ 2 * 2 ^ w = pow-succ' 2 w in
    let odd : (2 * 2 ^ w - 1) % 2 ≡ 1 = omega (arith, one_below w) in
    let half : (2 * 2 ^ w - 1) / 2 ≡ 2 ^ w - 1 = omega (arith, one_below w) in
    rw (p, odd, half, low_ones w) refl
  where
    one_below : (w : ℕ) → 0 < 2 ^ w
    one_below w = pow_pos w

-- a place of a number's lowest ones
pub low_at : (w n i : ℕ) → i < w → get_or (low_bits w n) i false ≡ bit n i
low_at zero n i h = absurd (omega arith)
low_at (suc w) n zero h = sym (bit_first n)
low_at (suc w) n (suc i) h = low_at w (n / 2) i (omega arith) ∙ sym (bit_next n i)
