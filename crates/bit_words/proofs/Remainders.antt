-- The lowest bits of a number are those of its remainders.
use Rattle.std.proofs.Common.{◌≡◌, ℕ, zero, suc, ◌+◌, ◌-◌, ◌*◌, ◌%◌, ◌/◌, ◌^◌, ◌≤◌, Bool, true, false, cond, List, length, refl, sym, ◌∙◌, ap, arith}
use Rattle.std.proofs.Math.Nat.{mod-mod_of_dvd, dvd-mul_right, pow-zero, pow-suc, add-mul-mod_self_left}
use Rattle.std.proofs.lemmas.Nat.{mul-mod_first, pow-add, pow_pos}
use Rattle.bit_base.specs.Numbers.{number_of, low_bits}
use Rattle.bit_base.specs.Operators.{sum_of, difference_of, negation_of, product_of, power_of}
use Rattle.bit_base.proofs.Numbers.{number_of-below, number_of-low_bits, low_bits-number_of}

-- two numbers of one remainder have the same lowest bits
pub length_of_low_bits : (width number : ℕ) → length (low_bits width number) ≡ width
length_of_low_bits zero number = refl
length_of_low_bits (suc width) number = rw (length_of_low_bits width (number / 2)) (omega arith)

pub low_bits-remainder : (width number : ℕ) → low_bits width number ≡ low_bits width (number % 2 ^ width)
low_bits-remainder width number =
    sym (low_bits-number_of (low_bits width number))
    ∙ ap (λ n. low_bits n (number_of (low_bits width number))) (length_of_low_bits width number)
    ∙ ap (low_bits width) (number_of-low_bits width number)

pub same_low_bits : (width m n : ℕ) → m % 2 ^ width ≡ n % 2 ^ width → low_bits width m ≡ low_bits width n
same_low_bits width m n same = low_bits-remainder width m ∙ ap (low_bits width) same ∙ sym (low_bits-remainder width n)

-- a power of 2 and a higher one
split : (width more : ℕ) → width ≤ more → 2 ^ more ≡ 2 ^ width * 2 ^ (more - width)
split width more h = let e : width + (more - width) ≡ more = omega arith in ap (λ n. 2 ^ n) (sym e) ∙ pow-add 2 width (more - width)

-- a remainder by a higher power leaves the remainder by the lower one
pub twice_remainder : (width more n : ℕ) → width ≤ more → n % 2 ^ more % 2 ^ width ≡ n % 2 ^ width
twice_remainder width more n h = mod-mod_of_dvd (2 ^ width) n (rw (split width more h) (dvd-mul_right (2 ^ width) (2 ^ (more - width))))

pub sum_is : (a b : List Bool) → length a ≤ 128 → low_bits (length a) ((number_of a + number_of b) % 2 ^ 128) ≡ sum_of a b
sum_is a b h = same_low_bits (length a) _ _ (twice_remainder (length a) 128 (number_of a + number_of b) h)

pub product_is : (a b : List Bool) → length a ≤ 128 → low_bits (length a) ((number_of a * number_of b) % 2 ^ 128) ≡ product_of a b
product_is a b h = same_low_bits (length a) _ _ (twice_remainder (length a) 128 (number_of a * number_of b) h)

pub power_is : (a : List Bool) (exponent : ℕ) → length a ≤ 128 → low_bits (length a) (number_of a ^ exponent % 2 ^ 128) ≡ power_of a exponent
power_is a exponent h = same_low_bits (length a) _ _ (twice_remainder (length a) 128 (number_of a ^ exponent) h)

-- what is taken away from a multiple of the power
less-multiple : (p k m n : ℕ) → n ≤ p → 1 ≤ k → (m + (p * k - n)) % p ≡ (m + p - n) % p
less-multiple p k m n h one =
    let more : p * k ≡ p + p * (k - 1) = let e : k ≡ 1 + (k - 1) = omega arith in ap (λ x. p * x) e ∙ (grind arith) in
    let e : m + (p * k - n) ≡ (m + p - n) + p * (k - 1) = omega (arith, more) in
    ap (λ x. x % p) e ∙ add-mul-mod_self_left (m + p - n) p (k - 1)

wraps : (width more m n : ℕ) → width ≤ more → n ≤ 2 ^ width → (m + (2 ^ more - n)) % 2 ^ more % 2 ^ width ≡ (m + 2 ^ width - n) % 2 ^ width
wraps width more m n h below =
    twice_remainder width more (m + (2 ^ more - n)) h
    ∙ ap (λ p. (m + (p - n)) % 2 ^ width) (split width more h)
    ∙ less-multiple (2 ^ width) (2 ^ (more - width)) m n below (pow_pos (more - width))

pub difference_is : (a b : List Bool) → length a ≡ length b → length a ≤ 128 → low_bits (length a) ((number_of a + (2 ^ 128 - number_of b)) % 2 ^ 128) ≡ difference_of a b
difference_is a b same h =
    let below : number_of b ≤ 2 ^ length a = rw same (omega (arith, number_of-below b)) in
    same_low_bits (length a) _ _ (wraps (length a) 128 (number_of a) (number_of b) h below)

pub negation_is : (a : List Bool) → length a ≤ 128 → low_bits (length a) ((0 + (2 ^ 128 - number_of a)) % 2 ^ 128) ≡ negation_of a
negation_is a h =
    let below : number_of a ≤ 2 ^ length a = omega (arith, number_of-below a) in
    let e : 0 + 2 ^ length a - number_of a ≡ 2 ^ length a - number_of a = omega arith in
    same_low_bits (length a) _ _ (wraps (length a) 128 0 (number_of a) h below ∙ ap (λ n. n % 2 ^ length a) e)

-- a square's remainder by that of the root
rem-square : (x c m : ℕ) → (x % m) * (x % m) * c % m ≡ x * x * c % m
rem-square x c m =
    ap (λ t. t % m) (let e : (x % m) * (x % m) * c ≡ x % m * ((x % m) * c) = omega arith in e)
    ∙ mul-mod_first x ((x % m) * c) m
    ∙ ap (λ t. t % m) (let e : x * ((x % m) * c) ≡ x % m * (x * c) = omega arith in e)
    ∙ mul-mod_first x (x * c) m
    ∙ ap (λ t. t % m) (let e : x * (x * c) ≡ x * x * c = omega arith in e)

one_place : (bit : Bool) (base : ℕ) → base ^ cond bit 1 0 ≡ cond bit base 1
one_place true base = pow-suc base 0 ∙ (let e : base ^ 0 ≡ 1 = pow-zero base in rw e (omega arith))
one_place false base = pow-zero base

square : (bit : Bool) (base n : ℕ) → base ^ n * base ^ n * cond bit base 1 ≡ base ^ (cond bit 1 0 + 2 * n)
square bit base n =
    let twice : 2 * n ≡ n + n = omega arith in
    let e : base ^ (cond bit 1 0 + (n + n)) ≡ base ^ cond bit 1 0 * (base ^ n * base ^ n) = pow-add base (cond bit 1 0) (n + n) ∙ ap (λ t. base ^ cond bit 1 0 * t) (pow-add base n n) in
    let one : base ^ cond bit 1 0 ≡ cond bit base 1 = one_place bit base in
    rw (twice, e, one) (omega arith)

-- one more place of the exponent
pub power_step : (bit : Bool) (base n p m : ℕ) → p ≡ base ^ n % m → p * p * cond bit base 1 % m ≡ base ^ (cond bit 1 0 + 2 * n) % m
power_step bit base n p m is =
    ap (λ t. t * t * cond bit base 1 % m) is ∙ rem-square (base ^ n) (cond bit base 1) m ∙ ap (λ t. t % m) (square bit base n)
