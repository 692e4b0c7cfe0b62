-- Expressions that are the whole of a net, or the inversion of one (IEEE 1364-2005, 5.1).
use Rattle.std.specs.Prelude.{ℕ, Bool, true, false, Option, Some, None, if◌then◌else◌}
use Rattle.flat_design.specs.declared.expr.FlatUnary.{FlatUnary}
use Rattle.flat_design.specs.declared.expr.FlatUnary.TheVariants as U
use Rattle.flat_design.specs.declared.expr.FlatExpr.{FlatExpr}
use Rattle.flat_design.specs.declared.expr.FlatNode.TheOpen.{FlatNode-F}
use Rattle.flat_design.specs.declared.expr.FlatNode.TheFolds.{fold-FlatExpr}

-- the net that an expression is, and the net that it inverts
abbrev pub Shape : Type 0
Shape = Option ℕ × Option ℕ

-- `!` and `~`, which are the same on one bit
abbrev pub is_inversion : FlatUnary → Bool
is_inversion U.LogicalNot = true
is_inversion U.Not = true
is_inversion _ = false

abbrev pub shape_layer : FlatNode-F Shape Shape → Shape
shape_layer (FlatNode-F.Net n) = (Some n, None)
shape_layer (FlatNode-F.Unary op a) = (None, if is_inversion op then a.0 else None)
shape_layer _ = (None, None)

unfoldable pub shape : FlatExpr → Shape
shape = fold-FlatExpr Shape Shape shape_layer (λ e. e.node)

abbrev pub whole_net : FlatExpr → Option ℕ
whole_net e = (shape e).0

abbrev pub inverted_net : FlatExpr → Option ℕ
inverted_net e = (shape e).1
