-- What the gates of a sum compute, bit by bit. (The operators themselves are stated by numbers; these serve within the crate.)
use Rattle.std.specs.Prelude.{◌-◌, Bool, not, ◌&&◌, ◌||◌, List, [], ◌∷◌, ◌++◌, length, take}
use Rattle.bit_base.specs.Numbers.{sign_of}
use Rattle.bit_base.specs.Operators.{differ}

-- the carry of three bits
abbrev pub carry_of : Bool → Bool → Bool → Bool
carry_of x y c = x && y || c && (x || y)

-- the sum of two words and a carry, bit by bit
abbrev pub sum_bits : List Bool → List Bool → Bool → List Bool
sum_bits [] ys c = []
sum_bits (x ∷ xs) [] c = []
sum_bits (x ∷ xs) (y ∷ ys) c = differ (differ x y) c ∷ sum_bits xs ys (carry_of x y c)

-- the carry out of that sum
abbrev pub carry_bits : List Bool → List Bool → Bool → Bool
carry_bits [] ys c = c
carry_bits (x ∷ xs) [] c = c
carry_bits (x ∷ xs) (y ∷ ys) c = carry_bits xs ys (carry_of x y c)

-- the word with its sign inverted
abbrev pub with_sign_inverted : List Bool → List Bool
with_sign_inverted bits = take (length bits - 1) bits ++ not (sign_of bits) ∷ []
