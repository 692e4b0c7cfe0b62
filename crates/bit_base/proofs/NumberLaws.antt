-- What the operators of numbers stand for.
use Rattle.std.proofs.Common.{◌≡◌, ℕ, zero, suc, ◌+◌, ◌-◌, ◌*◌, ◌/◌, ◌%◌, ◌==◌, ◌^◌, ◌<◌, ◌≤◌, Bool, true, false, not, List, [], ◌∷◌, ◌++◌, length, map, refl, ◌∙◌, ap, arith, add-one, inl, inr, pos, negsuc}
use Rattle.std.proofs.Math.Nat.{pow-succ', div-one, div-le_self, mod-le, mod-eq_of_lt, div-eq_of_lt}
use Rattle.std.proofs.Math.Pow.{pow_mono}
use Rattle.std.proofs.lemmas.Bool.{cases_Bool}
use Rattle.std.proofs.lemmas.Int.{ints}
use Rattle.std.proofs.lemmas.Nat.{shr-shr}
use Rattle.std.proofs.lemmas.List.{map-append, length-map}
use Rattle.bit_base.specs.Numbers.{number_of, signed_number_of, low_bits}
use Rattle.bit_base.specs.Operators.{is_any, places_used}
use Rattle.bit_base.specs.NumberLaws.{SignedNumberOfLowBits, NumberOfQuotient, NumberOfRemainder, NumberOfPower, PowerIsEnough, LessIsNotEnough}
use Rattle.bit_base.proofs.Numbers.{number_of-below, number_of-low_bits, signed_number_of-push}

-- ## Quotients, remainders and powers

-- the lowest bits of a number that isn't above that of the word stand for it
low_bits-fitting : (a : List Bool) (n : ℕ) → n ≤ number_of a → number_of (low_bits (length a) n) ≡ n
low_bits-fitting a n fits =
    rw (number_of-low_bits (length a) n) (mod-eq_of_lt (let below = number_of-below a in omega (arith, below, fits)))

pub number_of-quotient : NumberOfQuotient
number_of-quotient a b = low_bits-fitting a (number_of a / number_of b) (div-le_self (number_of a) (number_of b))

pub number_of-remainder : NumberOfRemainder
number_of-remainder a b = low_bits-fitting a (number_of a % number_of b) (mod-le (number_of a) (number_of b))

pub number_of-power : NumberOfPower
number_of-power a exponent = number_of-low_bits (length a) (number_of a ^ exponent)

-- ## The ceiling of the binary logarithm

none-zero : (bits : List Bool) → is_any bits ≡ false → number_of bits ≡ 0
none-zero [] none = refl
none-zero (true ∷ bits) none = grind arith
none-zero (false ∷ bits) none = rw (none-zero bits none) refl

any-positive : (bits : List Bool) → is_any bits ≡ true → 1 ≤ number_of bits
any-positive [] any = grind arith
any-positive (true ∷ bits) any = omega arith
any-positive (false ∷ bits) any = omega (arith, any-positive bits any)

used-enough : (bits : List Bool) → number_of bits < 2 ^ places_used bits
used-enough [] = omega arith
used-enough (true ∷ bits) =
    rw (add-one, pow-succ' 2 (places_used bits)) (omega (arith, used-enough bits))
used-enough (false ∷ bits) =
    elim (cases_Bool (is_any bits)) [
      | inl any ↦ rw (any, add-one, pow-succ' 2 (places_used bits)) (omega (arith, used-enough bits))
      | inr none ↦ rw (none, none-zero bits none) (omega arith)
    ]

-- a lower place and the rest of a number below a power
half-below : (low rest exponent : ℕ) → low + 2 * rest < 2 ^ suc exponent → rest < 2 ^ exponent
half-below low rest exponent below =
    let twice : 2 ^ suc exponent ≡ 2 * 2 ^ exponent = pow-succ' 2 exponent in
    omega (arith, twice, below)

used-least : (bits : List Bool) (exponent : ℕ) → number_of bits < 2 ^ exponent → places_used bits ≤ exponent
used-least [] exponent below = omega arith
used-least (true ∷ bits) zero below = absurd (omega (arith, below))
used-least (true ∷ bits) (suc exponent) below =
    omega (arith, used-least bits exponent (half-below 1 (number_of bits) exponent below))
used-least (false ∷ bits) zero below =
    elim (cases_Bool (is_any bits)) [
      | inl any ↦ absurd (omega (arith, any-positive bits any, below))
      | inr none ↦ rw none (omega arith)
    ]
used-least (false ∷ bits) (suc exponent) below =
    let rest = used-least bits exponent (half-below 0 (number_of bits) exponent below) in
    elim (cases_Bool (is_any bits)) [
      | inl any ↦ rw any (omega (arith, rest))
      | inr none ↦ rw none (omega arith)
    ]

-- the places that the number less one takes stand for that number
less-one : (a : List Bool) → number_of (low_bits (length a) (number_of a - 1)) ≡ number_of a - 1
less-one a = low_bits-fitting a (number_of a - 1) (omega arith)

pub power-enough : PowerIsEnough
power-enough a =
    let below = used-enough (low_bits (length a) (number_of a - 1)) in
    let is = less-one a in
    omega (arith, below, is)

pub less-not-enough : LessIsNotEnough
less-not-enough a exponent enough =
    used-least (low_bits (length a) (number_of a - 1)) exponent (rw (less-one a) (let one : 1 ≤ 2 ^ exponent = pow_mono {i = 0} {j = exponent} (omega arith) in omega (arith, one, enough)))

-- ## Signed numbers

-- one more low bit, at the high end
low_bits-high : (width number : ℕ) → low_bits (suc width) number ≡ low_bits width number ++ (number / 2 ^ width % 2 == 1) ∷ []
low_bits-high zero number = rw (div-one number) refl
low_bits-high (suc width) number =
    let split : 1 + width ≡ suc width = omega arith in
    rw (low_bits-high width (number / 2), ← split, ← shr-shr number 1 width) refl

number_of-inverted : (bits : List Bool) → number_of (map not bits) + number_of bits + 1 ≡ 2 ^ length bits
number_of-inverted [] = refl
number_of-inverted (true ∷ bits) = rw (pow-succ' 2 (length bits)) (omega (arith, number_of-inverted bits))
number_of-inverted (false ∷ bits) = rw (pow-succ' 2 (length bits)) (omega (arith, number_of-inverted bits))

-- the place above a number that is below the power
high-zero : (width number : ℕ) → number < 2 ^ width → (number / 2 ^ width % 2 == 1) ≡ false
high-zero width number below = rw (div-eq_of_lt below) refl

length-low_bits : (width number : ℕ) → length (low_bits width number) ≡ width
length-low_bits zero number = refl
length-low_bits (suc width) number = rw (length-low_bits width (number / 2)) (omega arith)

pub signed_number_of-low_bits : SignedNumberOfLowBits
signed_number_of-low_bits width (pos n) low high =
    let below : n < 2 ^ width = omega (arith, ints, high) in
    let is : number_of (low_bits width n) ≡ n = number_of-low_bits width n ∙ mod-eq_of_lt below in
    ap (λ w. signed_number_of (low_bits w n)) (add-one width)
    ∙ ap signed_number_of (low_bits-high width n ∙ ap (λ b. low_bits width n ++ b ∷ []) (high-zero width n below))
    ∙ signed_number_of-push (low_bits width n) false
    ∙ rw is (omega (arith, ints))
signed_number_of-low_bits width (negsuc n) low high =
    let below : n < 2 ^ width = omega (arith, ints, low) in
    let bits = low_bits width n in
    let whole : map not (low_bits (suc width) n) ≡ map not bits ++ true ∷ [] =
    ap (map not) (low_bits-high width n) ∙ map-append not bits _ ∙ ap (λ b. map not bits ++ not b ∷ []) (high-zero width n below) in
    let places : length (map not bits) ≡ width = length-map bits not ∙ length-low_bits width n in
    let is : number_of bits ≡ n = number_of-low_bits width n ∙ mod-eq_of_lt below in
    let inverted : number_of (map not bits) + n + 1 ≡ 2 ^ width = rw (is, length-low_bits width n) at (number_of-inverted bits) in
    ap (λ w. signed_number_of (map not (low_bits w n))) (add-one width)
    ∙ ap signed_number_of whole
    ∙ signed_number_of-push (map not bits) true
    ∙ rw places (omega (arith, ints, inverted))
