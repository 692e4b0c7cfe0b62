-- The operators of Verilog words, over lists of bits, least first, and the numbers that they stand for
-- (IEEE 1364-2005, 5.1). Both operands have one length, that of the context (5.4), except where a
-- condition or a shift amount has its own. Arithmetic is by the numbers, modulo 2 to the width (5.1.5).
use Rattle.std.specs.Prelude.{ℕ, ◌+◌, ◌-◌, ◌*◌, ◌/◌, ◌%◌, ◌^◌, int_div, int_rem, Bool, true, false, not, ◌&&◌, ◌||◌, ◌==◌, nat_lt, if◌then◌else◌, List, [], ◌∷◌, ◌++◌, length, take, drop, replicate, min}
use Rattle.std.specs.List.{list_all, list_any}
use Rattle.std.specs.Int.Signed.{lt_z}
use Rattle.bit_base.specs.Numbers.{number_of, signed_number_of, low_bits, low_bits_signed}

-- the two bits differ
abbrev pub differ : Bool → Bool → Bool
differ true y = not y
differ false y = y

-- place by place, as far as both lists reach
abbrev pub each_place : (Bool → Bool → Bool) → List Bool → List Bool → List Bool
each_place f [] ys = []
each_place f (x ∷ xs) [] = []
each_place f (x ∷ xs) (y ∷ ys) = f x y ∷ each_place f xs ys

-- `&`, `|`, `^` and `~^` (5.1.10)
abbrev pub and_of : List Bool → List Bool → List Bool
and_of a b = each_place (λ x y. x && y) a b

abbrev pub or_of : List Bool → List Bool → List Bool
or_of a b = each_place (λ x y. x || y) a b

abbrev pub xor_of : List Bool → List Bool → List Bool
xor_of a b = each_place differ a b

abbrev pub xnor_of : List Bool → List Bool → List Bool
xnor_of a b = each_place (λ x y. not (differ x y)) a b

-- `+`, `-`, `*` and unary `-` (5.1.5)
abbrev pub sum_of : List Bool → List Bool → List Bool
sum_of a b = low_bits (length a) (number_of a + number_of b)

abbrev pub difference_of : List Bool → List Bool → List Bool
difference_of a b = low_bits (length a) (number_of a + 2 ^ length a - number_of b)

abbrev pub product_of : List Bool → List Bool → List Bool
product_of a b = low_bits (length a) (number_of a * number_of b)

abbrev pub negation_of : List Bool → List Bool
negation_of a = low_bits (length a) (2 ^ length a - number_of a)

-- the reductions `&`, `|` and `^`: every bit is true, some bit is, an odd number of them is (5.1.11)
abbrev pub are_all : List Bool → Bool
are_all a = list_all (λ x. x) a

abbrev pub is_any : List Bool → Bool
is_any a = list_any (λ x. x) a

abbrev pub count_of_true : List Bool → ℕ
count_of_true [] = 0
count_of_true (x ∷ xs) = (if x then 1 else 0) + count_of_true xs

abbrev pub is_odd : List Bool → Bool
is_odd a = count_of_true a % 2 == 1

-- `/` and `%` of unsigned and of signed operands: the quotient is cut towards zero, the remainder has
-- the sign of the first operand (5.1.5)
abbrev pub quotient_of : List Bool → List Bool → List Bool
quotient_of a b = low_bits (length a) (number_of a / number_of b)

abbrev pub remainder_of : List Bool → List Bool → List Bool
remainder_of a b = low_bits (length a) (number_of a % number_of b)

abbrev pub quotient_of_signed : List Bool → List Bool → List Bool
quotient_of_signed a b = low_bits_signed (length a) (int_div (signed_number_of a) (signed_number_of b))

abbrev pub remainder_of_signed : List Bool → List Bool → List Bool
remainder_of_signed a b = low_bits_signed (length a) (int_rem (signed_number_of a) (signed_number_of b))

-- `**` by an exponent that isn't negative (5.1.5)
abbrev pub power_of : List Bool → ℕ → List Bool
power_of a exponent = low_bits (length a) (number_of a ^ exponent)

-- the places up to the highest true bit
abbrev pub places_used : List Bool → ℕ
places_used [] = 0
places_used (x ∷ xs) = if is_any (x ∷ xs) then places_used xs + 1 else 0

-- `$clog2`: the ceiling of the binary logarithm, and 0 of 0 (17.11.1): the places that the number less
-- one takes
abbrev pub ceiling_of_logarithm : List Bool → ℕ
ceiling_of_logarithm a = places_used (low_bits (length a) (number_of a - 1))

-- `<` of unsigned and of signed operands (5.1.7), and `==` (5.1.8)
abbrev pub is_less : List Bool → List Bool → Bool
is_less a b = nat_lt (number_of a) (number_of b)

abbrev pub is_less_signed : List Bool → List Bool → Bool
is_less_signed a b = lt_z (signed_number_of a) (signed_number_of b)

abbrev pub is_equal : List Bool → List Bool → Bool
is_equal a b = number_of a == number_of b

-- `<<` by so many places: false comes in below (5.1.12)
abbrev pub shifted_left : ℕ → List Bool → List Bool
shifted_left places a = replicate (min places (length a)) false ++ take (length a - places) a

-- `>>` and `>>>` by so many places: the fill comes in above, false or the sign (5.1.12)
abbrev pub shifted_right : ℕ → Bool → List Bool → List Bool
shifted_right places fill a = drop places a ++ replicate (min places (length a)) fill

-- `c ? a : b`, where c is true if some bit of it is (5.1.13)
abbrev pub chosen : List Bool → List Bool → List Bool → List Bool
chosen a b c = if is_any c then a else b

-- at each place a where c is true there, else b
abbrev pub picked : List Bool → List Bool → List Bool → List Bool
picked [] b c = []
picked (x ∷ a) [] c = []
picked (x ∷ a) (y ∷ b) [] = []
picked (x ∷ a) (y ∷ b) (z ∷ c) = (if z then x else y) ∷ picked a b c
