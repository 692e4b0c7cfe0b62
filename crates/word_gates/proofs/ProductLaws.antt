-- Products, one row after the other.
use Rattle.std.proofs.Common.{◌≡◌, ℕ, zero, suc, ◌+◌, ◌-◌, ◌*◌, ◌/◌, ◌%◌, ◌^◌, ◌<◌, ◌≤◌, Bool, true, false, ◌&&◌, cond, min, List, ◌∷◌, ◌++◌, length, map, take, replicate, get_or, refl, sym, ap, ◌∙◌, arith, length-append}
use Rattle.std.proofs.lemmas.List.{length-replicate, length-take, take_all, take_more}
use Rattle.std.proofs.lemmas.Nat.{mod-pow-add, shl-shr, mod_low, pow_pos}
use Rattle.std.proofs.Math.Nat.{zero-mod, add-mod-mod, mod-add-mod}
use Rattle.bit_base.specs.Numbers.{number_of, low_bits}
use Rattle.bit_base.specs.Operators.{sum_of, product_of, shifted_left}
use Rattle.bit_base.proofs.Numbers.{number_of-append, number_of-push, number_of-take, number_of-low_bits, low_bits-number_of}
use Rattle.word_gates.proofs.SumLaws.{number_of-none}
use Rattle.word_gates.proofs.MovingLaws.{map_and_true, map_and_false}

pub length-low_bits : (w n : ℕ) → length (low_bits w n) ≡ w
length-low_bits zero n = refl
length-low_bits (suc w) n = ap (λ k. suc k) (length-low_bits w (n / 2))

pub low_bits_none : (w : ℕ) → low_bits w 0 ≡ replicate w false
low_bits_none zero = refl
low_bits_none (suc w) = ap (λ l. false ∷ l) (low_bits_none w)

-- low bits go by the remainder
low_bits_mod : (w n : ℕ) → low_bits w (n % 2 ^ w) ≡ low_bits w n
low_bits_mod w n = rw (number_of-low_bits w n, length-low_bits w n) at (low_bits-number_of (low_bits w n))

low_bits_sum : (w m n : ℕ) → low_bits w (m % 2 ^ w + n % 2 ^ w) ≡ low_bits w (m + n)
low_bits_sum w m n =
    let e : (m % 2 ^ w + n % 2 ^ w) % 2 ^ w ≡ (m + n) % 2 ^ w = add-mod-mod (m % 2 ^ w) n (2 ^ w) ∙ mod-add-mod m (2 ^ w) n in
    sym (low_bits_mod w (m % 2 ^ w + n % 2 ^ w)) ∙ (ap (low_bits w) e ∙ low_bits_mod w (m + n))

-- a row: the word moved up by i places, where the bit is true
abbrev pub row_of : List Bool → Bool → ℕ → List Bool
row_of xs y i = map (λ x. x && y) (shifted_left i xs)

number_of-moved : (xs : List Bool) (i : ℕ) → i < length xs → number_of (shifted_left i xs) ≡ number_of xs * 2 ^ i % 2 ^ length xs
number_of-moved xs i lt =
    let count : min i (length xs) ≡ i = omega arith in
    let split : length xs - i + i ≡ length xs = omega arith in
    let high : number_of xs * 2 ^ i / 2 ^ i ≡ number_of xs = shl-shr (number_of xs) i in
    let low : number_of xs * 2 ^ i % 2 ^ i ≡ 0 = (let e : number_of xs * 2 ^ i ≡ number_of xs * 2 ^ i + 0 = omega arith in ap (λ n. n % 2 ^ i) e) ∙ mod_low (number_of xs) i 0 (pow_pos i) in
    let remainder : number_of xs * 2 ^ i % 2 ^ (length xs - i + i) ≡ (number_of xs % 2 ^ (length xs - i)) * 2 ^ i + 0 = rw (high, low) at (mod-pow-add (number_of xs * 2 ^ i) (length xs - i) i) in
    let parts : number_of (replicate i false ++ take (length xs - i) xs) ≡ 0 + 2 ^ i * (number_of xs % 2 ^ (length xs - i)) =
    rw (number_of-append (replicate i false) (take (length xs - i) xs), number_of-none i, length-replicate i false, number_of-take (length xs - i) xs) refl in
    rw count (parts ∙ ((let e : 0 + 2 ^ i * (number_of xs % 2 ^ (length xs - i)) ≡ (number_of xs % 2 ^ (length xs - i)) * 2 ^ i + 0 = omega arith in e) ∙ (sym remainder ∙ ap (λ n. number_of xs * 2 ^ i % 2 ^ n) split)))

length-moved : (xs : List Bool) (i : ℕ) → length (shifted_left i xs) ≡ length xs
length-moved xs i = rw (length-append, length-replicate, length-take) (omega arith)

number_of-row : (xs : List Bool) (y : Bool) (i : ℕ) → i < length xs → number_of (row_of xs y i) ≡ (number_of xs * cond y (2 ^ i) 0) % 2 ^ length xs
number_of-row xs true i lt = ap number_of (map_and_true (shifted_left i xs)) ∙ number_of-moved xs i lt
number_of-row xs false i lt =
    let none : number_of xs * 0 ≡ 0 = omega arith in
    ap number_of (map_and_false (shifted_left i xs)) ∙ (number_of-none (length (shifted_left i xs)) ∙ (let e : 0 ≡ 0 % 2 ^ length xs = sym (zero-mod (2 ^ length xs)) in e ∙ ap (λ n. n % 2 ^ length xs) (sym none)))

-- the product with the first i bits
abbrev pub product_upto : List Bool → List Bool → ℕ → List Bool
product_upto xs ys i = low_bits (length xs) (number_of xs * number_of (take i ys))

pub product_none : (xs ys : List Bool) → replicate (length xs) false ≡ product_upto xs ys 0
product_none xs ys = let e : 0 ≡ number_of xs * 0 = omega arith in sym (low_bits_none (length xs)) ∙ ap (low_bits (length xs)) e

pub product_more : (xs ys : List Bool) (i : ℕ) → i < length xs → i < length ys → sum_of (product_upto xs ys i) (row_of xs (get_or ys i false) i) ≡ product_upto xs ys (i + 1)
product_more xs ys i p q =
    let size : length (take i ys) ≡ i = rw length-take (omega arith) in
    let more : number_of (take (i + 1) ys) ≡ number_of (take i ys) + cond (get_or ys i false) (2 ^ i) 0 =
    ap number_of (take_more ys i false q) ∙ (number_of-push (take i ys) (get_or ys i false) ∙ ap (λ n. number_of (take i ys) + cond (get_or ys i false) (2 ^ n) 0) size) in
    let spread : number_of xs * number_of (take i ys) + number_of xs * cond (get_or ys i false) (2 ^ i) 0 ≡ number_of xs * number_of (take (i + 1) ys) =
    sym (ap (λ n. number_of xs * n) more ∙ (let e : number_of xs * (number_of (take i ys) + cond (get_or ys i false) (2 ^ i) 0) ≡ number_of xs * number_of (take i ys) + number_of xs * cond (get_or ys i false) (2 ^ i) 0 = omega arith in e)) in
    rw (length-low_bits (length xs) (number_of xs * number_of (take i ys)), number_of-low_bits (length xs) (number_of xs * number_of (take i ys)), number_of-row xs (get_or ys i false) i p)
    (low_bits_sum (length xs) (number_of xs * number_of (take i ys)) (number_of xs * cond (get_or ys i false) (2 ^ i) 0) ∙ ap (low_bits (length xs)) spread)

pub product_all : (xs ys : List Bool) (i : ℕ) → length ys ≤ i → product_upto xs ys i ≡ product_of xs ys
product_all xs ys i h = ap (λ l. low_bits (length xs) (number_of xs * number_of l)) (take_all i ys h)
