-- The size and the sign that the rules give an expression by its operands, and how large it may be (IEEE 1364-2005, 5.4 and 5.5; the
-- limits are this project's own).
use Rattle.std.specs.Prelude.{ℕ, ◌+◌, ◌*◌, Bool, true, false, not, ◌&&◌, ◌==◌, nat_le, List, [], ◌∷◌, map, sum, length, Option, Some, None, slice_get}
use Rattle.std.specs.List.{list_all}
use Rattle.flat_design.specs.declared.net.Net.{Net}
use Rattle.flat_design.specs.declared.expr.FlatUnary.{FlatUnary}
use Rattle.flat_design.specs.declared.expr.FlatUnary.TheVariants as U
use Rattle.flat_design.specs.declared.expr.FlatBinary.{FlatBinary}
use Rattle.flat_design.specs.declared.expr.FlatBinary.TheVariants as B
use Rattle.flat_design.specs.declared.expr.FlatExpr.{FlatExpr}
use Rattle.flat_design.specs.declared.expr.FlatNode.TheOpen.{FlatNode-F}
use Rattle.flat_design.specs.declared.expr.FlatNode.TheFolds.{fold-FlatExpr}
use Rattle.flat_design.specs.Bits.{Offset, net_at, offset_of}
use Rattle.flat_design.specs.Values.{Value, sized_word}

-- the most bits of an expression; of a sum, a difference and a comparison by order; of a product
abbrev pub widest : ℕ
widest = 2048

abbrev pub widest_sum : ℕ
widest_sum = 128

abbrev pub widest_product : ℕ
widest_product = 64

-- more than any place of a net
abbrev pub far : ℕ
far = 281474976710656

-- an expression: its size, its sign, what it is where it is a `Constant`, and whether it obeys the rules with all its parts
pub record Ruled : Type 0 where
  pub size : ℕ
  pub signed : Bool
  pub constant : Option Value
  pub obeys : Bool

-- an expression by the size and the sign that stand in it
abbrev pub Rule : Type 0
Rule = ℕ → Bool → Bool

abbrev pub same_sign : Bool → Bool → Bool
same_sign true b = b
same_sign false b = not b

-- one bit without a sign: comparisons, reductions and logical operators
abbrev pub is_test : Rule
is_test size signed = (size == 1) && not signed

-- the size and the sign of the operand
abbrev pub is_like : Ruled → Rule
is_like a size signed = (size == a.size) && same_sign signed a.signed

-- both operands at the size of the expression, which has a sign where both have
abbrev pub is_of_both : Ruled → Ruled → Rule
is_of_both a b size signed = (size == a.size) && ((size == b.size) && same_sign signed (a.signed && b.signed))

abbrev pub unary_rule : FlatUnary → Ruled → Rule
unary_rule U.Plus a size signed = is_like a size signed && nat_le size widest_sum
unary_rule U.Minus a size signed = is_like a size signed && nat_le size widest_sum
unary_rule U.Not a size signed = is_like a size signed
unary_rule _ a size signed = is_test size signed

abbrev pub order_rule : Ruled → Ruled → Rule
order_rule a b size signed = is_test size signed && ((a.size == b.size) && nat_le a.size widest_sum)

abbrev pub equal_rule : Ruled → Ruled → Rule
equal_rule a b size signed = is_test size signed && (a.size == b.size)

abbrev pub sum_rule : Ruled → Ruled → Rule
sum_rule a b size signed = is_of_both a b size signed && nat_le size widest_sum

abbrev pub binary_rule : FlatBinary → Ruled → Ruled → Rule
binary_rule B.Add = sum_rule
binary_rule B.Sub = sum_rule
binary_rule B.Mul = λ a b size signed. is_of_both a b size signed && nat_le size widest_product
binary_rule B.ShiftLeft = λ a b. is_like a
binary_rule B.ShiftRight = λ a b. is_like a
binary_rule B.ShiftSigned = λ a b. is_like a
binary_rule B.Less = order_rule
binary_rule B.LessEqual = order_rule
binary_rule B.Greater = order_rule
binary_rule B.GreaterEqual = order_rule
binary_rule B.Equal = equal_rule
binary_rule B.NotEqual = equal_rule
binary_rule B.And = is_of_both
binary_rule B.Xor = is_of_both
binary_rule B.Xnor = is_of_both
binary_rule B.Or = is_of_both
binary_rule B.LogicalAnd = λ a b. is_test
binary_rule B.LogicalOr = λ a b. is_test

-- the test at its own size, the branches at that of the expression
abbrev pub choice_rule : Ruled → Ruled → Rule
choice_rule = is_of_both

-- the sum of the parts, so many times, at least once
abbrev pub join_rule : ℕ → List Ruled → Rule
join_rule count parts size signed = (nat_le 1 count && (size == count * sum (map (λ p. p.size) parts))) && not signed

-- a select of so many bits at a constant offset lies inside its net
abbrev pub lies_in : Net → ℕ → Offset → Bool
lies_in net width o = nat_le o.1 o.0 && nat_le (o.0 + width) (o.1 + net.width)

abbrev pub is_inside : Net → ℕ → Option Value → Bool
is_inside net width None = true
is_inside net width (Some index) = lies_in net width (offset_of index.0 index.1 net.lsb)

-- a select of at least one bit is no wider than its net, and lies inside it where its index is constant
abbrev pub select_rule : Net → ℕ → Ruled → Bool
select_rule net width index = nat_le 1 width && (nat_le width net.width && (index.obeys && is_inside net width index.constant))

-- a net of this number is there
abbrev pub is_net : List Net → ℕ → Bool
is_net nets n = nat_le (n + 1) (length nets)

abbrev pub constant_ruled : ℕ → Bool → Value → Bool → Ruled
constant_ruled size signed c obeys = record { size = size; signed = signed; constant = Some c; obeys = nat_le 1 size && (nat_le size widest && obeys) }

-- at least one bit, and no more than the widest expression has
abbrev pub ruled : ℕ → Bool → Bool → Ruled
ruled size signed obeys = record { size = size; signed = signed; constant = None; obeys = nat_le 1 size && (nat_le size widest && obeys) }

abbrev pub node_ruled : List Net → FlatNode-F (ℕ → Bool → Ruled) Ruled → ℕ → Bool → Ruled
node_ruled nets (FlatNode-F.Constant bits) size signed = constant_ruled size signed (signed, sized_word size bits) (length bits == size)
node_ruled nets (FlatNode-F.Net n) size signed = ruled size signed (is_net nets n && (size == (net_at nets n).width))
node_ruled nets (FlatNode-F.Select n index width) size signed = ruled size signed ((is_net nets n && select_rule (net_at nets n) width index) && ((size == width) && not signed))
node_ruled nets (FlatNode-F.Unary op a) size signed = ruled size signed (a.obeys && unary_rule op a size signed)
node_ruled nets (FlatNode-F.Binary op a b) size signed = ruled size signed (a.obeys && (b.obeys && binary_rule op a b size signed))
node_ruled nets (FlatNode-F.Choice test then_ else_) size signed = ruled size signed (test.obeys && (then_.obeys && (else_.obeys && choice_rule then_ else_ size signed)))
node_ruled nets (FlatNode-F.Join count parts) size signed = ruled size signed (list_all (λ p. p.obeys) parts && join_rule count parts size signed)
node_ruled nets (FlatNode-F.Resize a by_sign) size signed = ruled size signed a.obeys

unfoldable pub rules : List Net → FlatExpr → Ruled
rules nets = fold-FlatExpr (ℕ → Bool → Ruled) Ruled (node_ruled nets) (λ e. e.node e.size e.signed)

-- an expression obeys the rules, with all its parts
abbrev pub obeys : List Net → FlatExpr → Bool
obeys nets e = (rules nets e).obeys
