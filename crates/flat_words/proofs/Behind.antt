-- What stands behind a row.
use Rattle.std.proofs.Common.{◌≡◌, ℕ, ◌+◌, ◌-◌, ◌*◌, ◌%◌, ◌^◌, ◌≤◌, ◌++◌, Bool, false, ◌&&◌, List, length, take, drop, replicate, min, refl, ap, sym, ◌∙◌, append_assoc, arith}
use Rattle.std.proofs.lemmas.List.{take_all, length-append}
use Rattle.std.proofs.Math.Seq.{take-append-add}
use Rattle.bit_base.specs.Numbers.{number_of, low_bits, sign_of, extended}
use Rattle.bit_base.specs.Operators.{shifted_left, shifted_right, negation_of, sum_of, difference_of, product_of}
use Rattle.bit_words.proofs.Remainders.{negation_is, sum_is, difference_is, product_is}
use Rattle.bit_words.proofs.ShiftLemmas.{right_at_most}

pub filled : (xs : List Bool) (n : ℕ) (bit : Bool) → take (length xs + n) xs ++ replicate (length xs + n - length xs) bit ≡ xs ++ replicate n bit
filled xs n bit =
    let e : length xs + n - length xs ≡ n = omega arith in
    rw (e, take_all (length xs + n) xs (omega arith)) refl

pub moved_left : (xs : List Bool) (n : ℕ) (a : List Bool) → (xs ++ replicate (min n (length a)) false) ++ take (length a - min n (length a)) a ≡ xs ++ shifted_left n a
moved_left xs n a =
    let e : length a - min n (length a) ≡ length a - n = omega arith in
    rw (append_assoc, e) refl

pub moved_right : (xs : List Bool) (n : ℕ) (fill : Bool) (a : List Bool) → (xs ++ drop (min n (length a)) a) ++ replicate (min n (length a)) fill ≡ xs ++ shifted_right n fill a
moved_right xs n fill a =
    let e : min (min n (length a)) (length a) ≡ min n (length a) = omega arith in
    rw append_assoc (ap (λ ys. xs ++ ys) (ap (λ m. drop (min n (length a)) a ++ replicate m fill) (sym e) ∙ right_at_most n fill a))

pub negated : (xs a : List Bool) → length a ≤ 128 → xs ++ low_bits (length a) ((0 + (2 ^ 128 - number_of a)) % 2 ^ 128) ≡ xs ++ negation_of a
negated xs a h = ap (λ ys. xs ++ ys) (negation_is a h)

pub summed : (xs a b : List Bool) → length a ≤ 128 → xs ++ low_bits (length a) ((number_of a + number_of b) % 2 ^ 128) ≡ xs ++ sum_of a b
summed xs a b h = ap (λ ys. xs ++ ys) (sum_is a b h)

pub subtracted : (xs a b : List Bool) → length a ≡ length b → length a ≤ 128 → xs ++ low_bits (length a) ((number_of a + (2 ^ 128 - number_of b)) % 2 ^ 128) ≡ xs ++ difference_of a b
subtracted xs a b same h = ap (λ ys. xs ++ ys) (difference_is a b same h)

pub multiplied : (xs a b : List Bool) → length a ≤ 128 → xs ++ low_bits (length a) ((number_of a * number_of b) % 2 ^ 128) ≡ xs ++ product_of a b
multiplied xs a b h = ap (λ ys. xs ++ ys) (product_is a b h)

-- a word behind others, cut to a size or filled up
pub resized : (base a : List Bool) (size : ℕ) (by_sign : Bool) → take (length base + size) (base ++ a) ++ replicate (length base + size - length (base ++ a)) (by_sign && sign_of a) ≡ base ++ extended size by_sign a
resized base a size by_sign =
    let e : length base + size - length (base ++ a) ≡ size - length a = omega (arith, length-append base a) in
    rw (take-append-add base a size, e, append_assoc) refl
