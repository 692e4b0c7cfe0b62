-- Bits, least first, and the numbers that they stand for (IEEE 1364-2005, 4.3 Vectors, and 4.3.1: a
-- vector is unsigned unless declared signed; 3.5.1: signed values are held in two's complement).
use Rattle.std.specs.Prelude.{ℕ, zero, suc, ◌+◌, ◌-◌, ◌*◌, ◌/◌, ◌%◌, ◌^◌, Bool, false, ◌&&◌, ◌==◌, if◌then◌else◌, List, [], ◌∷◌, ◌++◌, length, take, drop, replicate, slice_index_or, ℤ, pos, negsuc, ◌-ℤ◌, map, not}

-- the number of the bits, unsigned: place i counts 2^i where it is true
abbrev pub number_of : List Bool → ℕ
number_of [] = 0
number_of (bit ∷ bits) = (if bit then 1 else 0) + 2 * number_of bits

-- the sign: the last bit, false where there is none
abbrev pub sign_of : List Bool → Bool
sign_of bits = slice_index_or bits (length bits - 1) false

-- the number of the bits in two's complement: 2^w less than the unsigned number of w bits where the
-- sign is set, so the last place counts down by what it would count up
abbrev pub signed_number_of : List Bool → ℤ
signed_number_of bits = pos (number_of bits) -ℤ pos (if sign_of bits then 2 ^ length bits else 0)

-- the lowest bits of a number, so many: its remainder by 2 first
abbrev pub low_bits : ℕ → ℕ → List Bool
low_bits zero number = []
low_bits (suc width) number = (number % 2 == 1) ∷ low_bits width (number / 2)

-- the lowest bits of a whole number in two's complement, so many: those of -(n + 1) are those of n,
-- each the other way round
abbrev pub low_bits_signed : ℕ → ℤ → List Bool
low_bits_signed width (pos number) = low_bits width number
low_bits_signed width (negsuc number) = map not (low_bits width number)

-- the bits at another width: cut where it is less, else filled up with the sign where they are
-- signed, and with false where they aren't (IEEE 1364-2005, 5.5.2)
abbrev pub extended : ℕ → Bool → List Bool → List Bool
extended width signed bits = take width bits ++ replicate (width - length bits) (signed && sign_of bits)

-- so many bits from a place on (IEEE 1364-2005, 5.2.1, a part-select)
abbrev pub sliced : ℕ → ℕ → List Bool → List Bool
sliced low width bits = take width (drop low bits)
