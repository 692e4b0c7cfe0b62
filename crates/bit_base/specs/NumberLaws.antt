-- What the operators of numbers stand for (IEEE 1364-2005, 5.1.5 and 17.11.1).
use Rattle.std.specs.Prelude.{◌≡◌, ℕ, ◌/◌, ◌%◌, ◌^◌, ◌≤◌, Bool, List, length, ℤ, pos, neg_ℤ, ◌≤ℤ◌, ◌<ℤ◌, ◌+◌}
use Rattle.bit_base.specs.Numbers.{number_of, signed_number_of, low_bits_signed}
use Rattle.bit_base.specs.Operators.{quotient_of, remainder_of, power_of, ceiling_of_logarithm}

-- a whole number that fits the width in two's complement is what its lowest bits stand for
abbrev pub SignedNumberOfLowBits : Type 0
SignedNumberOfLowBits = (width : ℕ) (z : ℤ) → neg_ℤ (pos (2 ^ width)) ≤ℤ z → z <ℤ pos (2 ^ width) → signed_number_of (low_bits_signed (width + 1) z) ≡ z

-- the quotient and the remainder of words of one length, not by zero
abbrev pub NumberOfQuotient : Type 0
NumberOfQuotient = (a b : List Bool) → number_of (quotient_of a b) ≡ number_of a / number_of b

abbrev pub NumberOfRemainder : Type 0
NumberOfRemainder = (a b : List Bool) → number_of (remainder_of a b) ≡ number_of a % number_of b

-- a power, modulo 2 to the width
abbrev pub NumberOfPower : Type 0
NumberOfPower = (a : List Bool) (exponent : ℕ) → number_of (power_of a exponent) ≡ number_of a ^ exponent % 2 ^ length a

-- the logarithm's ceiling is the least exponent whose power of 2 isn't below the number
abbrev pub PowerIsEnough : Type 0
PowerIsEnough = (a : List Bool) → number_of a ≤ 2 ^ ceiling_of_logarithm a

abbrev pub LessIsNotEnough : Type 0
LessIsNotEnough = (a : List Bool) (exponent : ℕ) → number_of a ≤ 2 ^ exponent → ceiling_of_logarithm a ≤ exponent
