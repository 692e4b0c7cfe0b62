-- Numbers (IEEE 1364-2005, 3.5.1): their size, their sign, their bits, and which of these are unknown.
use Rattle.std.specs.Prelude.{ℕ, ◌+◌, ◌*◌, Bool, true, false, ◌||◌, ◌==◌, nat_le, if◌then◌else◌, List, [], ◌∷◌, ◌++◌, take, drop, replicate, min, position, Option, Some, None}
use Rattle.bit_base.specs.Numbers.{low_bits, extended}
use Rattle.vlog_tree.specs.Spelling.{digit_of, is_unknown}
use Rattle.vlog_const.specs.declared.literal.Literal.{Literal}

-- `_` between digits means nothing
abbrev pub is_filler : ℕ → Bool
is_filler b = b == 95

-- the number of decimal digits, after those that are read
abbrev pub decimal_from : ℕ → List ℕ → ℕ
decimal_from n [] = n
decimal_from n (b ∷ bs) = decimal_from (if is_filler b then n else n * 10 + digit_of b) bs

abbrev pub decimal : List ℕ → ℕ
decimal digits = decimal_from 0 digits

-- the bits of digits of so many bits each, the last digit lowest: what they count
abbrev pub digit_bits : ℕ → List ℕ → List Bool
digit_bits width [] = []
digit_bits width (b ∷ bs) = digit_bits width bs ++ (if is_filler b then [] else low_bits width (if is_unknown b then 0 else digit_of b))

-- and which of them are unknown
abbrev pub unknown_bits : ℕ → List ℕ → List Bool
unknown_bits width [] = []
unknown_bits width (b ∷ bs) = unknown_bits width bs ++ (if is_filler b then [] else replicate width (is_unknown b))

-- the sign `s`, which may be missing, and what stands behind it
abbrev pub is_signed_digits : List ℕ → Bool
is_signed_digits [] = false
is_signed_digits (b ∷ bs) = (b == 115) || (b == 83)

abbrev pub behind_sign : List ℕ → List ℕ
behind_sign [] = []
behind_sign (b ∷ bs) = if (b == 115) || (b == 83) then bs else b ∷ bs

-- the bits of a digit of the base; 0 in base ten
abbrev pub width_of : ℕ → ℕ
width_of letter = if (letter == 98) || (letter == 66) then 1 else if (letter == 111) || (letter == 79) then 3 else if (letter == 104) || (letter == 72) then 4 else 0

-- too many digits are cut; a number over 128 bits is refused, and has no bits here
abbrev pub known_bits : ℕ → ℕ → List ℕ → List Bool
known_bits size width digits = if nat_le size 128 then (if width == 0 then low_bits size (decimal digits) else extended size false (digit_bits width digits)) else []

-- whether the first digit is unknown: a decimal number is then unknown as a whole
abbrev pub begins_unknown : List ℕ → Bool
begins_unknown [] = false
begins_unknown (b ∷ bs) = is_unknown b

-- a leading unknown digit fills the rest of the size
abbrev pub hidden_bits : ℕ → ℕ → List ℕ → List Bool
hidden_bits size width digits = if nat_le size 128 then (if width == 0 then replicate size (begins_unknown digits) else extended size true (unknown_bits width digits)) else []

-- a size of 4,096 bits or more counts as 4,096; without one a number has 32 bits
abbrev pub size_from : List ℕ → ℕ
size_from [] = 32
size_from (b ∷ bs) = min (decimal (b ∷ bs)) 4096

abbrev pub has_size : List ℕ → Bool
has_size [] = false
has_size (b ∷ bs) = true

-- the letter of the base, and the digits
abbrev pub letter_of : List ℕ → ℕ
letter_of [] = 0
letter_of (letter ∷ digits) = letter

abbrev pub digits_of : List ℕ → List ℕ
digits_of [] = []
digits_of (letter ∷ digits) = digits

abbrev pub in_base : ℕ → Bool → Bool → List ℕ → Literal
in_base size sized signed rest = record { size = size; signed = signed; sized = sized; bits = known_bits size (width_of (letter_of rest)) (digits_of rest); unknown = hidden_bits size (width_of (letter_of rest)) (digits_of rest) }

abbrev pub based : List ℕ → List ℕ → Literal
based size rest = in_base (size_from size) (has_size size) (is_signed_digits rest) (behind_sign rest)

-- plain decimal digits are signed and have 32 bits
abbrev pub plain : List ℕ → Literal
plain digits = record { size = 32; signed = true; sized = false; bits = low_bits 32 (decimal digits); unknown = replicate 32 false }

abbrev pub literal_at : List ℕ → Option ℕ → Literal
literal_at w None = plain w
literal_at w (Some i) = based (take i w) (drop (i + 1) w)

abbrev pub literal_of : List ℕ → Literal
literal_of w = literal_at w (position (λ b. b == 39) w)
