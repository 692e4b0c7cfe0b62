-- What the operators give (IEEE 1364-2005, 5.1 and 5.5), and which operands they take at the size of their context.
use Rattle.std.specs.Prelude.{ℕ, Bool, true, false, not, ◌&&◌, ◌||◌, max, if◌then◌else◌, List, [], ◌∷◌, map, Option, Some, None}
use Rattle.bit_base.specs.Numbers.{number_of, sign_of, low_bits, extended}
use Rattle.bit_base.specs.Operators.{and_of, or_of, xor_of, xnor_of, sum_of, difference_of, product_of, negation_of, are_all, is_any, is_odd, quotient_of, remainder_of, quotient_of_signed, remainder_of_signed, power_of, ceiling_of_logarithm, is_less, is_less_signed, is_equal, shifted_left, shifted_right}
use Rattle.vlog_values.specs.declared.operators.Prefix.{Prefix}
use Rattle.vlog_values.specs.declared.operators.Prefix.TheVariants as P
use Rattle.vlog_values.specs.declared.operators.Infix.{Infix}
use Rattle.vlog_values.specs.declared.operators.Infix.TheVariants as I
use Rattle.vlog_values.specs.declared.operators.Function.{Function}
use Rattle.vlog_values.specs.declared.operators.Function.TheVariants.{Clog2, Signed, Unsigned}
use Rattle.vlog_values.specs.declared.facts.Shape.{Shape}

-- a word in its context, where that is known: extended by the context's sign
abbrev pub in_context : Option Shape → List Bool → List Bool
in_context None bits = []
in_context (Some shape) bits = extended shape.size shape.signed bits

-- a test of one bit in its context
abbrev pub test_in_context : Option Shape → Bool → List Bool
test_in_context context b = in_context context (b ∷ [])

-- the sign of the context; unsigned where it isn't known
abbrev pub is_signed : Option Shape → Bool
is_signed None = false
is_signed (Some shape) = shape.signed

-- the shape of operands that take a common one: the greater size, signed where both are
abbrev pub common : Shape → Shape → Shape
common a b = record { size = max a.size b.size; signed = a.signed && b.signed }

abbrev pub common_of : Option Shape → Option Shape → Option Shape
common_of (Some a) (Some b) = Some (common a b)
common_of (Some a) None = None
common_of None b = None

-- ---- before an operand

-- operators that give one bit of an operand at its own size; the others give a word at the size of the context
abbrev pub is_test : Prefix → Bool
is_test P.Plus = false
is_test P.Minus = false
is_test P.Not = false
is_test _ = true

-- the limit in bits on what the operator works at (this project's own)
abbrev pub prefix_limit : Prefix → ℕ
prefix_limit P.Plus = 128
prefix_limit P.Minus = 128
prefix_limit _ = 2048

-- at the size of the context
abbrev pub prefix_word : Prefix → List Bool → List Bool
prefix_word P.Minus a = negation_of a
prefix_word P.Not a = map not a
prefix_word _ a = a

-- one bit
abbrev pub prefix_test : Prefix → List Bool → Bool
prefix_test P.LogicalNot a = not (is_any a)
prefix_test P.All a = are_all a
prefix_test P.NotAll a = not (are_all a)
prefix_test P.Any a = is_any a
prefix_test P.NotAny a = not (is_any a)
prefix_test P.Parity a = is_odd a
prefix_test P.NotParity a = not (is_odd a)
prefix_test _ a = false

-- ---- between operands

pub data InfixKind : Type 0 where
  Both : InfixKind  -- both operands at the size of the context
  Left : InfixKind  -- the left one at the size of the context, the right one at its own
  Compared : InfixKind  -- one bit; both operands at their greater size
  Logical : InfixKind  -- one bit; each operand at its own size

abbrev pub infix_kind : Infix → InfixKind
infix_kind I.Power = Left
infix_kind I.ShiftLeft = Left
infix_kind I.ShiftRight = Left
infix_kind I.ShiftSigned = Left
infix_kind I.Less = Compared
infix_kind I.LessEqual = Compared
infix_kind I.Greater = Compared
infix_kind I.GreaterEqual = Compared
infix_kind I.Equal = Compared
infix_kind I.NotEqual = Compared
infix_kind I.LogicalAnd = Logical
infix_kind I.LogicalOr = Logical
infix_kind _ = Both

-- the limit in bits on what the operator works at (this project's own)
abbrev pub infix_limit : Infix → ℕ
infix_limit I.Multiply = 64
infix_limit I.Power = 128
infix_limit I.Divide = 128
infix_limit I.Remainder = 128
infix_limit I.Add = 128
infix_limit I.Subtract = 128
infix_limit I.Less = 128
infix_limit I.LessEqual = 128
infix_limit I.Greater = 128
infix_limit I.GreaterEqual = 128
infix_limit _ = 2048

abbrev pub is_division : Infix → Bool
is_division I.Divide = true
is_division I.Remainder = true
is_division _ = false

-- operators that stand in constant expressions alone
abbrev pub is_constant_only : Infix → Bool
is_constant_only I.Divide = true
is_constant_only I.Remainder = true
is_constant_only I.Power = true
is_constant_only _ = false

-- both operands at the size of the context; division goes by the context's sign
abbrev pub infix_both : Infix → Bool → List Bool → List Bool → List Bool
infix_both I.Multiply signed a b = product_of a b
infix_both I.Divide signed a b = if signed then quotient_of_signed a b else quotient_of a b
infix_both I.Remainder signed a b = if signed then remainder_of_signed a b else remainder_of a b
infix_both I.Add signed a b = sum_of a b
infix_both I.Subtract signed a b = difference_of a b
infix_both I.And signed a b = and_of a b
infix_both I.Xor signed a b = xor_of a b
infix_both I.Xnor signed a b = xnor_of a b
infix_both I.Or signed a b = or_of a b
infix_both _ signed a b = a

-- the right operand at its own size: a shift amount and an exponent are numbers that aren't negative
abbrev pub infix_left : Infix → Bool → List Bool → List Bool → List Bool
infix_left I.Power signed a b = power_of a (number_of b)
infix_left I.ShiftLeft signed a b = shifted_left (number_of b) a
infix_left I.ShiftRight signed a b = shifted_right (number_of b) false a
infix_left I.ShiftSigned signed a b = shifted_right (number_of b) (signed && sign_of a) a
infix_left _ signed a b = a

-- signed where both operands are
abbrev pub less : Bool → List Bool → List Bool → Bool
less signed a b = if signed then is_less_signed a b else is_less a b

abbrev pub infix_compared : Infix → Bool → List Bool → List Bool → Bool
infix_compared I.Less signed a b = less signed a b
infix_compared I.LessEqual signed a b = not (less signed b a)
infix_compared I.Greater signed a b = less signed b a
infix_compared I.GreaterEqual signed a b = not (less signed a b)
infix_compared I.Equal signed a b = is_equal a b
infix_compared I.NotEqual signed a b = not (is_equal a b)
infix_compared _ signed a b = false

abbrev pub infix_logical : Infix → List Bool → List Bool → Bool
infix_logical I.LogicalAnd a b = is_any a && is_any b
infix_logical I.LogicalOr a b = is_any a || is_any b
infix_logical _ a b = false

-- ---- functions of one argument at its own size

abbrev pub function_of : Function → List Bool → List Bool
function_of Clog2 a = low_bits 32 (ceiling_of_logarithm a)
function_of Signed a = a
function_of Unsigned a = a
