-- Which bits an expression reads, and what it is where it is a constant.
use Rattle.std.specs.Prelude.{ℕ, Bool, false, ◌||◌, List, [], ◌∷◌, Option, Some, None}
use Rattle.flat_design.specs.declared.net.Net.{Net}
use Rattle.flat_design.specs.declared.expr.FlatExpr.{FlatExpr}
use Rattle.flat_design.specs.declared.expr.FlatNode.TheOpen.{FlatNode-F, FlatExpr-F}
use Rattle.flat_design.specs.declared.expr.FlatNode.TheFolds.{fold-FlatExpr}
use Rattle.flat_design.specs.Bits.{Set, net_at, of_net, offset_of, selected}
use Rattle.flat_design.specs.Values.{Value, sized_word}

-- what the expression is where it is a `Constant`, and the bits that it reads
abbrev pub Read : Type 0
Read = Option Value × Set

abbrev pub no_bits : Set
no_bits i = false

-- the bits of a select: of the whole net where its index isn't constant
abbrev pub select_bits : Net → Option Value → ℕ → Set
select_bits net None width = of_net net
select_bits net (Some index) width = selected net (offset_of index.0 index.1 net.lsb) width

abbrev pub either_reads : List Read → Set
either_reads [] = no_bits
either_reads (r ∷ rs) = λ i. r.1 i || either_reads rs i

-- by the size and the sign of the expression
abbrev pub NodeRead : Type 0
NodeRead = ℕ → Bool → Read

abbrev pub node_read : List Net → FlatNode-F NodeRead Read → NodeRead
node_read nets (FlatNode-F.Constant bits) size signed = (Some (signed, sized_word size bits), no_bits)
node_read nets (FlatNode-F.Net n) size signed = (None, of_net (net_at nets n))
node_read nets (FlatNode-F.Select n index width) size signed = (None, λ i. select_bits (net_at nets n) index.0 width i || index.1 i)
node_read nets (FlatNode-F.Unary op a) size signed = (None, a.1)
node_read nets (FlatNode-F.Binary op a b) size signed = (None, λ i. a.1 i || b.1 i)
node_read nets (FlatNode-F.Choice test then_ else_) size signed = (None, λ i. test.1 i || (then_.1 i || else_.1 i))
node_read nets (FlatNode-F.Join count parts) size signed = (None, either_reads parts)
node_read nets (FlatNode-F.Resize a by_sign) size signed = (None, a.1)

abbrev pub expr_read : FlatExpr-F NodeRead Read → Read
expr_read e = e.node e.size e.signed

unfoldable pub read : List Net → FlatExpr → Read
read nets = fold-FlatExpr NodeRead Read (node_read nets) expr_read

-- the bits that an expression reads
abbrev pub reads : List Net → FlatExpr → Set
reads nets e = (read nets e).1

-- what a constant is; None where the expression is no `Constant`
abbrev pub constant_in : List Net → FlatExpr → Option Value
constant_in nets e = (read nets e).0
