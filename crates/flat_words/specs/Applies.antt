-- Which words an operator can be applied to as calls: those of one size, and as wide as numbers go (IEEE 1364-2005, 5.4; the limits are
-- this project's own).
use Rattle.std.specs.Prelude.{ℕ, Bool, true, not, ◌&&◌, ◌||◌, ◌==◌, nat_le, if◌then◌else◌, List}
use Rattle.bit_base.specs.Operators.{differ, is_less, is_less_signed, is_equal, is_any}
use Rattle.flat_design.specs.declared.expr.FlatUnary.{FlatUnary}
use Rattle.flat_design.specs.declared.expr.FlatUnary.TheVariants as U
use Rattle.flat_design.specs.declared.expr.FlatBinary.{FlatBinary}
use Rattle.flat_design.specs.declared.expr.FlatBinary.TheVariants as B

-- the most bits of a number, and of a word that is shifted
abbrev pub widest_number : ℕ
widest_number = 128

abbrev pub widest_shifted : ℕ
widest_shifted = 2048

abbrev pub unary_applies : FlatUnary → ℕ → Bool
unary_applies U.Minus a = nat_le a widest_number
unary_applies _ a = true

abbrev pub are_numbers : ℕ → ℕ → Bool
are_numbers a b = (a == b) && nat_le a widest_number

abbrev pub binary_applies : FlatBinary → ℕ → ℕ → Bool
binary_applies B.Add a b = are_numbers a b
binary_applies B.Sub a b = are_numbers a b
binary_applies B.Mul a b = are_numbers a b
binary_applies B.ShiftLeft a b = nat_le a widest_shifted
binary_applies B.ShiftRight a b = nat_le a widest_shifted
binary_applies B.ShiftSigned a b = nat_le a widest_shifted
binary_applies B.Less a b = are_numbers a b
binary_applies B.LessEqual a b = are_numbers a b
binary_applies B.Greater a b = are_numbers a b
binary_applies B.GreaterEqual a b = are_numbers a b
binary_applies B.Equal a b = a == b
binary_applies B.NotEqual a b = a == b
binary_applies B.And a b = a == b
binary_applies B.Xor a b = a == b
binary_applies B.Xnor a b = a == b
binary_applies B.Or a b = a == b
binary_applies B.LogicalAnd a b = true
binary_applies B.LogicalOr a b = true

-- what `&`, `^`, `~^` and `|` make of two bits
abbrev pub place_value : FlatBinary → Bool → Bool → Bool
place_value B.And x y = x && y
place_value B.Xor x y = differ x y
place_value B.Xnor x y = not (differ x y)
place_value _ x y = x || y

-- what a comparison or a logical operator says, by order signed where both operands are
abbrev pub is_before : Bool → List Bool → List Bool → Bool
is_before signed a b = if signed then is_less_signed a b else is_less a b

abbrev pub says : FlatBinary → Bool → List Bool → List Bool → Bool
says B.Less signed a b = is_before signed a b
says B.LessEqual signed a b = not (is_before signed b a)
says B.Greater signed a b = is_before signed b a
says B.GreaterEqual signed a b = not (is_before signed a b)
says B.Equal signed a b = is_equal a b
says B.NotEqual signed a b = not (is_equal a b)
says B.LogicalAnd signed a b = is_any a && is_any b
says _ signed a b = is_any a || is_any b
