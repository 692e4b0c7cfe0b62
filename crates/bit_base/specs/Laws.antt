-- What is true of bits and their numbers, whatever the bits are.
use Rattle.std.specs.Prelude.{◌≡◌, ℕ, ◌+◌, ◌*◌, ◌/◌, ◌%◌, ◌^◌, ◌<◌, ◌≤◌, Bool, true, false, if◌then◌else◌, List, [], ◌∷◌, ◌++◌, length, pos, ◌-ℤ◌}
use Rattle.bit_base.specs.Numbers.{number_of, signed_number_of, low_bits, extended, sliced}

-- so many bits stand for a number below the power
abbrev pub NumberIsBelow : Type 0
NumberIsBelow = (bits : List Bool) → number_of bits < 2 ^ length bits

-- one more place counts 2 to its place where it is true
abbrev pub PlaceCounts : Type 0
PlaceCounts = (bits : List Bool) (bit : Bool) → number_of (bits ++ bit ∷ []) ≡ number_of bits + (if bit then 2 ^ length bits else 0)

-- in two's complement the last place counts down by as much
abbrev pub SignCountsDown : Type 0
SignCountsDown = (bits : List Bool) (bit : Bool) → signed_number_of (bits ++ bit ∷ []) ≡ pos (number_of bits) -ℤ pos (if bit then 2 ^ length bits else 0)

-- bits joined to higher ones
abbrev pub NumberOfJoined : Type 0
NumberOfJoined = (low high : List Bool) → number_of (low ++ high) ≡ number_of low + 2 ^ length low * number_of high

-- the lowest bits of a number stand for its remainder
abbrev pub NumberOfLowBits : Type 0
NumberOfLowBits = (width number : ℕ) → number_of (low_bits width number) ≡ number % 2 ^ width

-- the bits of the number that bits stand for are those bits
abbrev pub LowBitsOfNumber : Type 0
LowBitsOfNumber = (bits : List Bool) → low_bits (length bits) (number_of bits) ≡ bits

-- an unsigned extension keeps the number
abbrev pub UnsignedExtensionKeeps : Type 0
UnsignedExtensionKeeps = (width : ℕ) (bits : List Bool) → length bits ≤ width → number_of (extended width false bits) ≡ number_of bits

-- a signed extension keeps the signed number
abbrev pub SignedExtensionKeeps : Type 0
SignedExtensionKeeps = (width : ℕ) (bits : List Bool) → length bits ≤ width → signed_number_of (extended width true bits) ≡ signed_number_of bits

-- a cut stands for the remainder
abbrev pub NumberOfCut : Type 0
NumberOfCut = (width : ℕ) (signed : Bool) (bits : List Bool) → width ≤ length bits → number_of (extended width signed bits) ≡ number_of bits % 2 ^ width

-- a slice stands for the quotient's remainder
abbrev pub NumberOfSlice : Type 0
NumberOfSlice = (low width : ℕ) (bits : List Bool) → number_of (sliced low width bits) ≡ number_of bits / 2 ^ low % 2 ^ width
