-- The value of a flat expression under a valuation (IEEE 1364-2005, clause 5).
use Rattle.std.specs.Prelude.{ℕ, Bool, false, not, ◌&&◌, ◌||◌, if◌then◌else◌, List, [], ◌∷◌, ◌++◌, map}
use Rattle.bit_base.specs.Numbers.{number_of, sign_of, extended}
use Rattle.bit_base.specs.Operators.{and_of, or_of, xor_of, xnor_of, sum_of, difference_of, product_of, negation_of, are_all, is_any, is_odd, is_less, is_less_signed, is_equal, shifted_left, shifted_right, chosen}
use Rattle.bit_words.specs.Joins.{repeated}
use Rattle.flat_design.specs.declared.net.Net.{Net}
use Rattle.flat_design.specs.declared.expr.FlatExpr.{FlatExpr}
use Rattle.flat_design.specs.declared.expr.FlatUnary.{FlatUnary}
use Rattle.flat_design.specs.declared.expr.FlatUnary.TheVariants as U
use Rattle.flat_design.specs.declared.expr.FlatBinary.{FlatBinary}
use Rattle.flat_design.specs.declared.expr.FlatBinary.TheVariants as B
use Rattle.flat_design.specs.declared.expr.FlatNode.TheOpen.{FlatNode-F, FlatExpr-F}
use Rattle.flat_design.specs.declared.expr.FlatNode.TheFolds.{fold-FlatExpr}
use Rattle.flat_design.specs.Bits.{Values, net_at, offset_of, bit_at, bits_from}

-- the sign, and the bits, least first
abbrev pub Value : Type 0
Value = Bool × List Bool

-- a word of one bit
abbrev pub test_word : Bool → List Bool
test_word b = b ∷ []

abbrev pub unary_value : FlatUnary → List Bool → List Bool
unary_value U.Plus a = a
unary_value U.Minus a = negation_of a
unary_value U.LogicalNot a = test_word (not (is_any a))
unary_value U.Not a = map not a
unary_value U.All a = test_word (are_all a)
unary_value U.NotAll a = test_word (not (are_all a))
unary_value U.Any a = test_word (is_any a)
unary_value U.NotAny a = test_word (not (is_any a))
unary_value U.Parity a = test_word (is_odd a)
unary_value U.NotParity a = test_word (not (is_odd a))

-- a comparison by order is signed where both operands are (5.5.2)
abbrev pub less : Value → Value → Bool
less a b = if a.0 && b.0 then is_less_signed a.1 b.1 else is_less a.1 b.1

-- `>>>` of a signed expression fills with the highest bit; the amount is unsigned (5.1.12)
abbrev pub binary_value : FlatBinary → Bool → Value → Value → List Bool
binary_value B.Add signed a b = sum_of a.1 b.1
binary_value B.Sub signed a b = difference_of a.1 b.1
binary_value B.Mul signed a b = product_of a.1 b.1
binary_value B.ShiftLeft signed a b = shifted_left (number_of b.1) a.1
binary_value B.ShiftRight signed a b = shifted_right (number_of b.1) false a.1
binary_value B.ShiftSigned signed a b = shifted_right (number_of b.1) (signed && sign_of a.1) a.1
binary_value B.Less signed a b = test_word (less a b)
binary_value B.LessEqual signed a b = test_word (not (less b a))
binary_value B.Greater signed a b = test_word (less b a)
binary_value B.GreaterEqual signed a b = test_word (not (less a b))
binary_value B.Equal signed a b = test_word (is_equal a.1 b.1)
binary_value B.NotEqual signed a b = test_word (not (is_equal a.1 b.1))
binary_value B.And signed a b = and_of a.1 b.1
binary_value B.Xor signed a b = xor_of a.1 b.1
binary_value B.Xnor signed a b = xnor_of a.1 b.1
binary_value B.Or signed a b = or_of a.1 b.1
binary_value B.LogicalAnd signed a b = test_word (is_any a.1 && is_any b.1)
binary_value B.LogicalOr signed a b = test_word (is_any a.1 || is_any b.1)

-- the parts stand highest first
abbrev pub joined : List Value → List Bool
joined [] = []
joined (a ∷ parts) = joined parts ++ a.1

-- by the size and the sign of the expression
abbrev pub NodeValue : Type 0
NodeValue = ℕ → Bool → List Bool

abbrev pub node_value : List Net → Values → FlatNode-F NodeValue Value → NodeValue
node_value nets v (FlatNode-F.Constant bits) size signed = bits
node_value nets v (FlatNode-F.Net n) size signed = bits_from v (net_at nets n).first (net_at nets n).width
node_value nets v (FlatNode-F.Select n index width) size signed = bits_from (bit_at v (net_at nets n) (offset_of index.0 index.1 (net_at nets n).lsb)) 0 width
node_value nets v (FlatNode-F.Unary op a) size signed = unary_value op a.1
node_value nets v (FlatNode-F.Binary op a b) size signed = binary_value op signed a b
node_value nets v (FlatNode-F.Choice test then_ else_) size signed = chosen then_.1 else_.1 test.1
node_value nets v (FlatNode-F.Join count parts) size signed = repeated count (joined parts)
node_value nets v (FlatNode-F.Resize a by_sign) size signed = extended size by_sign a.1

-- an expression has as many bits as its size says; where its operands have the sizes of the rules these are the node's own
abbrev pub sized_word : ℕ → List Bool → List Bool
sized_word size bits = extended size false bits

abbrev pub expr_value : FlatExpr-F NodeValue Value → Value
expr_value e = (e.signed, sized_word e.size (e.node e.size e.signed))

unfoldable pub value : List Net → Values → FlatExpr → Value
value nets v = fold-FlatExpr NodeValue Value (node_value nets v) expr_value
