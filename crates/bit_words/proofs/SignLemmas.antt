-- Signed numbers by sign and distance from 0.
use Rattle.std.proofs.Common.{◌≡◌, ℕ, zero, suc, ◌+◌, ◌-◌, ◌*◌, ◌/◌, ◌%◌, ◌^◌, ◌<◌, ◌≤◌, Bool, true, false, cond, List, [], ◌∷◌, ◌++◌, length, take, refl, sym, ◌∙◌, ap, arith}
use Rattle.std.specs.Prelude.{int_div, int_rem, nat_lt}
use Rattle.std.specs.Int.Signed.{lt_z}
use Rattle.std.proofs.Math.Nat.{pow-succ', div-zero, zero-div, zero-mod, mod-eq_of_lt}
use Rattle.std.proofs.Math.Pow.{pow-lt}
use Rattle.std.proofs.lemmas.List.{take_more, take_all, length-take-le}
use Rattle.std.proofs.lemmas.Bool.Decides.{nat_tests}
use Rattle.bit_base.specs.Numbers.{number_of, sign_of}
use Rattle.bit_base.specs.Operators.{differ}
use Rattle.bit_base.proofs.Numbers.{number_of-push}
use Rattle.bit_words.specs.Signs.{with_sign}

-- a word whose sign is set stands for at least what the sign counts
sign_split : (bits : List Bool) → 0 < length bits → take (length bits - 1) bits ++ sign_of bits ∷ [] ≡ bits
sign_split bits h =
    let lt : length bits - 1 < length bits = omega arith in
    let whole : length bits - 1 + 1 ≡ length bits = omega arith in
    sym (take_more bits (length bits - 1) false lt) ∙ (ap (λ n. take n bits) whole ∙ take_all (length bits) bits (omega arith))

pub some_places : (bits : List Bool) → sign_of bits ≡ true → 0 < length bits
some_places [] negative = cc
some_places (bit ∷ bits) negative = omega arith

pub sign_counts : (bits : List Bool) → sign_of bits ≡ true → 2 ^ (length bits - 1) ≤ number_of bits
sign_counts bits negative =
    let some = some_places bits negative in
    let is : take (length bits - 1) bits ++ true ∷ [] ≡ bits = ap (λ s. take (length bits - 1) bits ++ s ∷ []) (sym negative) ∙ sign_split bits some in
    let long : length (take (length bits - 1) bits) ≡ length bits - 1 = length-take-le (length bits - 1) bits (omega arith) in
    let number : number_of (take (length bits - 1) bits ++ true ∷ []) ≡ number_of (take (length bits - 1) bits) + 2 ^ length (take (length bits - 1) bits) = number_of-push (take (length bits - 1) bits) true in
    let e : number_of bits ≡ number_of (take (length bits - 1) bits) + 2 ^ (length bits - 1) = ap number_of (sym is) ∙ number ∙ ap (λ n. number_of (take (length bits - 1) bits) + 2 ^ n) long in
    omega (arith, e)

-- half the power is what the sign counts
pub half : (n : ℕ) → 0 < n → 2 ^ (n - 1) + 2 ^ (n - 1) ≡ 2 ^ n
half zero h = absurd (omega arith)
half (suc n) h = let e : suc n - 1 ≡ n = omega arith in rw (e, pow-succ' 2 n) (omega arith)

pub half_wraps : (n : ℕ) → 0 < n → n ≤ 128 → 1 * 2 ^ (n - 1) % 2 ^ 128 ≡ 2 ^ (n - 1)
half_wraps n h k =
    let one : 1 * 2 ^ (n - 1) ≡ 2 ^ (n - 1) = omega arith in
    let below : 2 ^ (n - 1) < 2 ^ 128 = pow-lt {i = n - 1} {j = 128} (omega arith) in
    rw one (mod-eq_of_lt below)

pub quotient_parts : (s t : Bool) (m n : ℕ) → int_div (with_sign s m) (with_sign t n) ≡ with_sign (differ s t) (m / n)
quotient_parts false false m n = refl
quotient_parts false true m zero = rw (div-zero m) refl
quotient_parts false true m (suc n) = refl
quotient_parts true false zero n = rw (zero-div n) refl
quotient_parts true false (suc m) n = refl
quotient_parts true true zero zero = refl
quotient_parts true true zero (suc n) = rw (zero-div (suc n)) refl
quotient_parts true true (suc m) zero = rw (div-zero (suc m)) refl
quotient_parts true true (suc m) (suc n) = refl

pub remainder_parts : (s t : Bool) (m n : ℕ) → int_rem (with_sign s m) (with_sign t n) ≡ with_sign s (m % n)
remainder_parts false false m n = refl
remainder_parts false true m zero = refl
remainder_parts false true m (suc n) = refl
remainder_parts true false zero n = rw (zero-mod n) refl
remainder_parts true false (suc m) n = refl
remainder_parts true true zero zero = refl
remainder_parts true true zero (suc n) = rw (zero-mod (suc n)) refl
remainder_parts true true (suc m) zero = refl
remainder_parts true true (suc m) (suc n) = refl

-- the order of signed numbers by their parts
pub less_parts : (s t : Bool) (m n : ℕ) → (s ≡ true → 0 < m) → (t ≡ true → 0 < n)
    → lt_z (with_sign s m) (with_sign t n) ≡ cond s (cond t (nat_lt n m) true) (cond t false (nat_lt m n))
less_parts false false m n h k = refl
less_parts false true m zero h k = absurd (omega (arith, k refl))
less_parts false true m (suc n) h k = refl
less_parts true false zero n h k = absurd (omega (arith, h refl))
less_parts true false (suc m) n h k = refl
less_parts true true zero n h k = absurd (omega (arith, h refl))
less_parts true true (suc m) zero h k = absurd (omega (arith, k refl))
less_parts true true (suc m) (suc n) h k = grind (arith, nat_tests)
