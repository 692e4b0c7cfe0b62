-- Sums, carries and comparisons of numbers, bit by bit.
use Rattle.std.proofs.Common.{◌≡◌, ℕ, zero, suc, ◌+◌, ◌-◌, ◌*◌, ◌/◌, ◌%◌, ◌==◌, ◌^◌, ◌<◌, ◌≤◌, Bool, true, false, not, cond, List, [], ◌∷◌, ◌++◌, length, map, take, replicate, refl, sym, ap, ◌∙◌, arith}
use Rattle.std.specs.Prelude.{nat_lt, pos, ◌-ℤ◌}
use Rattle.std.proofs.lemmas.List.{length-map, length-replicate, take_more, take_all, length-take-le}
use Rattle.std.specs.Int.Signed.{lt_z}
use Rattle.std.proofs.Math.Nat.{pow-succ', div-one}
use Rattle.std.proofs.lemmas.Nat.{shr-shr, div-add-mod', mod_below, pow_pos}
use Rattle.std.proofs.lemmas.Bool.Decides.{nat_tests}
use Rattle.std.proofs.lemmas.Int.{ints}
use Rattle.bit_base.specs.Numbers.{number_of, sign_of, low_bits}
use Rattle.bit_base.specs.Operators.{differ, sum_of, difference_of, negation_of, is_less, is_less_signed}
use Rattle.word_gates.specs.Ripple.{carry_of, sum_bits, carry_bits, with_sign_inverted}
use Rattle.bit_base.proofs.Numbers.{number_of-below, number_of-push, signed_number_of-push}

sum-half : (x y c : Bool) (m n : ℕ) → ((cond x 1 0 + 2 * m) + (cond y 1 0 + 2 * n) + cond c 1 0) / 2 ≡ m + n + cond (carry_of x y c) 1 0
sum-half true true true m n = omega arith
sum-half true true false m n = omega arith
sum-half true false true m n = omega arith
sum-half true false false m n = omega arith
sum-half false true true m n = omega arith
sum-half false true false m n = omega arith
sum-half false false true m n = omega arith
sum-half false false false m n = omega arith

odd_at : (n : ℕ) → n % 2 ≡ 1 → (n % 2 == 1) ≡ true
odd_at n h = rw h refl

even_at : (n : ℕ) → n % 2 ≡ 0 → (n % 2 == 1) ≡ false
even_at n h = rw h refl

sum-odd : (x y c : Bool) (m n : ℕ) → (((cond x 1 0 + 2 * m) + (cond y 1 0 + 2 * n) + cond c 1 0) % 2 == 1) ≡ differ (differ x y) c
sum-odd true true true m n = odd_at ((1 + 2 * m) + (1 + 2 * n) + 1) (omega arith)
sum-odd true true false m n = even_at ((1 + 2 * m) + (1 + 2 * n) + 0) (omega arith)
sum-odd true false true m n = even_at ((1 + 2 * m) + (0 + 2 * n) + 1) (omega arith)
sum-odd true false false m n = odd_at ((1 + 2 * m) + (0 + 2 * n) + 0) (omega arith)
sum-odd false true true m n = even_at ((0 + 2 * m) + (1 + 2 * n) + 1) (omega arith)
sum-odd false true false m n = odd_at ((0 + 2 * m) + (1 + 2 * n) + 0) (omega arith)
sum-odd false false true m n = odd_at ((0 + 2 * m) + (0 + 2 * n) + 1) (omega arith)
sum-odd false false false m n = even_at ((0 + 2 * m) + (0 + 2 * n) + 0) (omega arith)

-- the sum bit by bit is the low bits of the numbers' sum
pub sum_bits_is : (xs ys : List Bool) (c : Bool) → length xs ≡ length ys → sum_bits xs ys c ≡ low_bits (length xs) (number_of xs + number_of ys + cond c 1 0)
sum_bits_is [] ys c h = refl
sum_bits_is (x ∷ xs) [] c h = absurd (omega arith)
sum_bits_is (x ∷ xs) (y ∷ ys) c h =
    rw (sum-odd x y c (number_of xs) (number_of ys), sum-half x y c (number_of xs) (number_of ys), sum_bits_is xs ys (carry_of x y c) (omega arith)) refl

-- the carry out is the quotient of the numbers' sum
pub carry_bits_is : (xs ys : List Bool) (c : Bool) → length xs ≡ length ys → cond (carry_bits xs ys c) 1 0 ≡ (number_of xs + number_of ys + cond c 1 0) / 2 ^ length xs
carry_bits_is [] [] c h = let e : cond c 1 0 ≡ 0 + 0 + cond c 1 0 = omega arith in e ∙ sym (div-one (0 + 0 + cond c 1 0))
carry_bits_is [] (y ∷ ys) c h = absurd (omega arith)
carry_bits_is (x ∷ xs) [] c h = absurd (omega arith)
carry_bits_is (x ∷ xs) (y ∷ ys) c h =
    let split : 1 + length xs ≡ suc (length xs) = omega arith in
    rw (← split, ← shr-shr ((cond x 1 0 + 2 * number_of xs) + (cond y 1 0 + 2 * number_of ys) + cond c 1 0) 1 (length xs), sum-half x y c (number_of xs) (number_of ys))
    (carry_bits_is xs ys (carry_of x y c) (omega arith))

-- the number of inverted bits
pub number_of-not : (bits : List Bool) → number_of (map not bits) + number_of bits + 1 ≡ 2 ^ length bits
number_of-not [] = refl
number_of-not (true ∷ bits) = rw (pow-succ' 2 (length bits)) (omega (arith, number_of-not bits))
number_of-not (false ∷ bits) = rw (pow-succ' 2 (length bits)) (omega (arith, number_of-not bits))

-- a sum
pub sum_is : (xs ys : List Bool) → length xs ≡ length ys → sum_bits xs ys false ≡ sum_of xs ys
sum_is xs ys h =
    let e : number_of xs + number_of ys + 0 ≡ number_of xs + number_of ys = omega arith in
    sum_bits_is xs ys false h ∙ ap (low_bits (length xs)) e

-- a difference is the sum with the inverted bits and a carry
pub difference_is : (xs ys : List Bool) → length xs ≡ length ys → sum_bits xs (map not ys) true ≡ difference_of xs ys
difference_is xs ys h =
    let power : 2 ^ length ys ≡ 2 ^ length xs = ap (λ n. 2 ^ n) (sym h) in
    let e : number_of xs + number_of (map not ys) + 1 ≡ number_of xs + 2 ^ length xs - number_of ys = omega (arith, number_of-not ys, power) in
    sum_bits_is xs (map not ys) true (rw length-map h) ∙ ap (low_bits (length xs)) e

pub number_of-none : (n : ℕ) → number_of (replicate n false) ≡ 0
number_of-none zero = refl
number_of-none (suc n) = omega (arith, number_of-none n)

-- a negation is the difference from zero
pub negation_is : (n : ℕ) (xs : List Bool) → n ≡ length xs → difference_of (replicate n false) xs ≡ negation_of xs
negation_is n xs h =
    let e : number_of (replicate n false) + 2 ^ length xs - number_of xs ≡ 2 ^ length xs - number_of xs = omega (arith, number_of-none n) in
    rw (length-replicate n false, h) (ap (low_bits (length xs)) (rw h at e))

-- a comparison is the inverted carry out of a difference
carry_true : (n p : ℕ) → 0 < p → 1 ≡ n / p → p ≤ n
carry_true n p h e = let whole : n / p * p + n % p ≡ n = div-add-mod' n p in let one : 1 * p + n % p ≡ n = rw (← e) at whole in omega (arith, one)

carry_false : (n p : ℕ) → 0 < p → 0 ≡ n / p → n < p
carry_false n p h e = let whole : n / p * p + n % p ≡ n = div-add-mod' n p in let none : 0 * p + n % p ≡ n = rw (← e) at whole in omega (arith, none, mod_below n p h)

less_by : (b : Bool) (x y z p : ℕ) → 0 < p → z + y + 1 ≡ p → cond b 1 0 ≡ (x + z + 1) / p → not b ≡ nat_lt x y
less_by true x y z p h e q = let over : p ≤ x + z + 1 = carry_true (x + z + 1) p h q in grind (arith, nat_tests)
less_by false x y z p h e q = let under : x + z + 1 < p = carry_false (x + z + 1) p h q in grind (arith, nat_tests)

pub less_is : (xs ys : List Bool) → length xs ≡ length ys → not (carry_bits xs (map not ys) true) ≡ is_less xs ys
less_is xs ys h =
    let power : 2 ^ length ys ≡ 2 ^ length xs = ap (λ n. 2 ^ n) (sym h) in
    less_by (carry_bits xs (map not ys) true) (number_of xs) (number_of ys) (number_of (map not ys)) (2 ^ length xs) (pow_pos (length xs)) (number_of-not ys ∙ power)
    (carry_bits_is xs (map not ys) true (rw length-map h))

-- a signed comparison is the unsigned one of words with inverted signs
signed_parts : (s t : Bool) (m n p : ℕ) → m < p → n < p
    → nat_lt (m + cond (not s) p 0) (n + cond (not t) p 0) ≡ lt_z (pos m -ℤ pos (cond s p 0)) (pos n -ℤ pos (cond t p 0))
signed_parts true true m n p h k = grind (arith, nat_tests, ints)
signed_parts true false m n p h k = grind (arith, nat_tests, ints)
signed_parts false true m n p h k = grind (arith, nat_tests, ints)
signed_parts false false m n p h k = grind (arith, nat_tests, ints)

pub less_signed_is : (xs ys : List Bool) (s t : Bool) → length xs ≡ length ys → is_less (xs ++ not s ∷ []) (ys ++ not t ∷ []) ≡ is_less_signed (xs ++ s ∷ []) (ys ++ t ∷ [])
less_signed_is xs ys s t h =
    rw (number_of-push xs (not s), number_of-push ys (not t), signed_number_of-push xs s, signed_number_of-push ys t, h)
    (signed_parts s t (number_of xs) (number_of ys) (2 ^ length ys) (rw h at (number_of-below xs)) (number_of-below ys))

-- a word is its places below the last, and its sign
sign_split : (bits : List Bool) → 0 < length bits → take (length bits - 1) bits ++ sign_of bits ∷ [] ≡ bits
sign_split bits h =
    let lt : length bits - 1 < length bits = omega arith in
    let whole : length bits - 1 + 1 ≡ length bits = omega arith in
    sym (take_more bits (length bits - 1) false lt) ∙ (ap (λ n. take n bits) whole ∙ take_all (length bits) bits (omega arith))

pub less_by_signs : (xs ys : List Bool) → 0 < length xs → length xs ≡ length ys → is_less (with_sign_inverted xs) (with_sign_inverted ys) ≡ is_less_signed xs ys
less_by_signs xs ys h e =
    let below : length (take (length xs - 1) xs) ≡ length (take (length ys - 1) ys) = rw (length-take-le (length xs - 1) xs (omega arith), length-take-le (length ys - 1) ys (omega arith)) (omega arith) in
    let signed : is_less (with_sign_inverted xs) (with_sign_inverted ys) ≡ is_less_signed (take (length xs - 1) xs ++ sign_of xs ∷ []) (take (length ys - 1) ys ++ sign_of ys ∷ []) =
    less_signed_is (take (length xs - 1) xs) (take (length ys - 1) ys) (sign_of xs) (sign_of ys) below in
    signed ∙ (ap (λ zs. is_less_signed zs (take (length ys - 1) ys ++ sign_of ys ∷ [])) (sign_split xs h) ∙ ap (λ zs. is_less_signed xs zs) (sign_split ys (omega arith)))
