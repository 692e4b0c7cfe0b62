-- Lemmas on bits and their numbers.
use Rattle.std.proofs.Common.{◌≡◌, ℕ, zero, suc, ◌+◌, ◌-◌, ◌*◌, ◌/◌, ◌%◌, ◌==◌, ◌^◌, ◌<◌, ◌≤◌, Bool, true, false, cond, List, [], ◌∷◌, ◌++◌, length, take, drop, replicate, get_or, refl, sym, ◌∙◌, arith, add-one, append_assoc}
use Rattle.std.proofs.Math.Nat.{pow-succ', mod-one, zero-mod, zero-div, div-one}
use Rattle.std.proofs.Math.Seq.{drop-cons, get_or-append_seam}
use Rattle.std.proofs.lemmas.Bool.Decides.{nat_tests}
use Rattle.std.proofs.lemmas.Int.{ints}
use Rattle.std.proofs.lemmas.Nat.{mod-pow-add, shr-shr}
use Rattle.std.proofs.Math.Pow.{pow_mono}
use Rattle.std.proofs.lemmas.List.{length-drop, length-append, append-nil, take_all}
use Rattle.bit_base.specs.Numbers.{number_of, sign_of, signed_number_of, low_bits}
use Rattle.bit_base.specs.Laws.{NumberIsBelow, PlaceCounts, SignCountsDown, NumberOfJoined, NumberOfLowBits, LowBitsOfNumber, UnsignedExtensionKeeps, SignedExtensionKeeps, NumberOfCut, NumberOfSlice}

-- what a bit counts is below 2
bit-below : (bit : Bool) → cond bit 1 0 ≤ 1
bit-below true = omega arith
bit-below false = omega arith

pub number_of-below : NumberIsBelow
number_of-below [] = omega arith
number_of-below (bit ∷ bits) =
    rw (pow-succ' 2 (length bits)) (omega (arith, bit-below bit, number_of-below bits))

-- bits joined to higher ones
pub number_of-append : NumberOfJoined
number_of-append [] high = omega arith
number_of-append (bit ∷ low) high =
    rw (pow-succ' 2 (length low), number_of-append low high) (grind arith)

pub number_of-push : PlaceCounts
number_of-push bits true = rw (number_of-append bits (true ∷ [])) (omega arith)
number_of-push bits false = rw (number_of-append bits (false ∷ [])) (omega arith)

-- the number of the places from one on, by the number of those after it
pub number_of-drop : (i : ℕ) (bits : List Bool) → i < length bits → number_of (drop i bits) ≡ cond (get_or bits i false) 1 0 + 2 * number_of (drop (i + 1) bits)
number_of-drop i bits h = rw (add-one, drop-cons bits i false) refl

-- the same from the place above, as a loop from the highest place comes down
pub number_of-drop_below : (i : ℕ) (bits : List Bool) → 0 < i → i ≤ length bits → number_of (drop (i - 1) bits) ≡ cond (get_or bits (i - 1) false) 1 0 + 2 * number_of (drop i bits)
number_of-drop_below i bits positive within =
    let e : i - 1 + 1 ≡ i = omega arith in
    let inside : i - 1 < length bits = omega arith in
    rw e at (number_of-drop (i - 1) bits inside)

-- at most 128 places stand for a number of 128 bits
pub number_of-drop_fits : (i : ℕ) (bits : List Bool) → length bits ≤ 128 → number_of (drop i bits) < 2 ^ 128
number_of-drop_fits i bits short =
    let fewer : length (drop i bits) ≤ 128 = rw (length-drop i bits) (omega arith) in
    omega (arith, number_of-below (drop i bits), pow_mono fewer)

-- one more place of a number read from the highest place down fits 128 bits
pub more-fits : (i : ℕ) (bits : List Bool) (number : ℕ) → 0 < i → i ≤ length bits → length bits ≤ 128 → number ≡ number_of (drop i bits) → cond (get_or bits (i - 1) false) 1 0 + 2 * number < 2 ^ 128
more-fits i bits number positive within short is =
    rw (is, ← number_of-drop_below i bits positive within) (number_of-drop_fits (i - 1) bits short)

-- one more low bit after those that are there
pub low_bits-push : (bits : List Bool) (width place rest : ℕ) (all : List Bool) → place < width → bits ++ low_bits (width - place) rest ≡ all → (bits ++ (rest % 2 == 1) ∷ []) ++ low_bits (width - (place + 1)) (rest / 2) ≡ all
low_bits-push bits width place rest all more is =
    let e : width - place ≡ suc (width - (place + 1)) = omega arith in
    rw append_assoc (rw e at is)

-- at the lowest place the loop has read them all
pub number_of-whole_below : (i : ℕ) (bits : List Bool) (number : ℕ) → i ≤ 0 → number ≡ number_of (drop i bits) → number < 2 ^ length bits
number_of-whole_below i bits number lowest is =
    let e : i ≡ 0 = omega arith in
    rw (is, e) (number_of-below bits)

-- ## Numbers and their low bits

-- a number's lowest bit counts its remainder by 2
parity : (number : ℕ) → cond (number % 2 == 1) 1 0 ≡ number % 2
parity number = grind (arith, nat_tests)

-- the lowest place and the rest of a remainder by a power
mod-pow-suc : (width number : ℕ) → number % 2 ^ suc width ≡ number % 2 + 2 * (number / 2 % 2 ^ width)
mod-pow-suc width number =
    rw (← add-one width, mod-pow-add number width 1) (omega arith)

pub number_of-low_bits : NumberOfLowBits
number_of-low_bits zero number = sym (mod-one number)
number_of-low_bits (suc width) number =
    rw (parity number, number_of-low_bits width (number / 2), mod-pow-suc width number) refl

pub low_bits-number_of : LowBitsOfNumber
low_bits-number_of [] = refl
low_bits-number_of (true ∷ bits) =
    let odd : (1 + 2 * number_of bits) % 2 ≡ 1 = omega arith in
    let half : (1 + 2 * number_of bits) / 2 ≡ number_of bits = omega arith in
    rw (odd, half, low_bits-number_of bits) refl
low_bits-number_of (false ∷ bits) =
    let even : (0 + 2 * number_of bits) % 2 ≡ 0 = omega arith in
    let half : (0 + 2 * number_of bits) / 2 ≡ number_of bits = omega arith in
    rw (even, half, low_bits-number_of bits) refl

-- ## Cuts and slices

-- a number of one more place, halved and its remainder
half-number : (bit : Bool) (rest : ℕ) → (cond bit 1 0 + 2 * rest) / 2 ≡ rest
half-number true rest = omega arith
half-number false rest = omega arith

odd-number : (bit : Bool) (rest : ℕ) → (cond bit 1 0 + 2 * rest) % 2 ≡ cond bit 1 0
odd-number true rest = omega arith
odd-number false rest = omega arith

pub number_of-take : (width : ℕ) (bits : List Bool) → number_of (take width bits) ≡ number_of bits % 2 ^ width
number_of-take zero bits = sym (mod-one (number_of bits))
number_of-take (suc width) [] = sym (zero-mod (2 ^ suc width))
number_of-take (suc width) (bit ∷ bits) =
    rw (mod-pow-suc width (cond bit 1 0 + 2 * number_of bits), half-number bit (number_of bits), odd-number bit (number_of bits), number_of-take width bits) refl

pub number_of-drop-div : (low : ℕ) (bits : List Bool) → number_of (drop low bits) ≡ number_of bits / 2 ^ low
number_of-drop-div zero bits = sym (div-one (number_of bits))
number_of-drop-div (suc low) [] = sym (zero-div (2 ^ suc low))
number_of-drop-div (suc low) (bit ∷ bits) =
    let split : 1 + low ≡ suc low = omega arith in
    rw (← split, ← shr-shr (cond bit 1 0 + 2 * number_of bits) 1 low, half-number bit (number_of bits)) (number_of-drop-div low bits)

pub number_of-extended_cut : NumberOfCut
number_of-extended_cut width signed bits less =
    let none : width - length bits ≡ 0 = omega arith in
    rw (none, append-nil) (number_of-take width bits)

pub number_of-sliced : NumberOfSlice
number_of-sliced low width bits =
    rw (number_of-take width (drop low bits), number_of-drop-div low bits) refl

-- ## Extensions

number_of-zeros : (count : ℕ) → number_of (replicate count false) ≡ 0
number_of-zeros zero = refl
number_of-zeros (suc count) = omega (arith, number_of-zeros count)

pub number_of-extended : UnsignedExtensionKeeps
number_of-extended width bits more =
    rw (take_all width bits more, number_of-append bits (replicate (width - length bits) false), number_of-zeros (width - length bits)) (omega arith)

pub sign_of-push : (bits : List Bool) (bit : Bool) → sign_of (bits ++ bit ∷ []) ≡ bit
sign_of-push bits bit =
    let last : length (bits ++ bit ∷ []) - 1 ≡ length bits = rw length-append (omega arith) in
    rw last (get_or-append_seam bits bit [] false)

-- twice the power that the last place counts
power-push : (bits : List Bool) (bit : Bool) → 2 ^ length (bits ++ bit ∷ []) ≡ 2 * 2 ^ length bits
power-push bits bit = rw (length-append bits (bit ∷ []), add-one (length bits)) (pow-succ' 2 (length bits))

pub signed_number_of-push : SignCountsDown
signed_number_of-push bits true =
    rw (sign_of-push bits true, number_of-push bits true, power-push bits true) (omega (arith, ints))
signed_number_of-push bits false =
    rw (sign_of-push bits false, number_of-push bits false) (omega (arith, ints))

-- more places of the sign keep the signed number
signed_number_of-fill : (count : ℕ) (bits : List Bool) (sign : Bool) → sign_of bits ≡ sign → signed_number_of (bits ++ replicate count sign) ≡ signed_number_of bits
signed_number_of-fill zero bits sign is = rw append-nil refl
signed_number_of-fill (suc count) bits sign is =
    rw (← append_assoc bits (sign ∷ []) (replicate count sign))
    (signed_number_of-fill count (bits ++ sign ∷ []) sign (sign_of-push bits sign)
    ∙ signed_number_of-push bits sign
    ∙ rw (← is) refl)

pub signed_number_of-extended : SignedExtensionKeeps
signed_number_of-extended width bits more =
    rw (take_all width bits more) (signed_number_of-fill (width - length bits) bits (sign_of bits) refl)
