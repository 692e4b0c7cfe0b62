-- An expression is constant exactly where it is a `Constant`.
use Rattle.std.proofs.Common.{◌≡◌, ℕ, Bool, List, Some, None, refl, sym, ◌∙◌, ap}
use Rattle.flat_design.specs.declared.net.Net.{Net}
use Rattle.flat_design.specs.declared.expr.FlatExpr.{FlatExpr}
use Rattle.flat_design.specs.declared.expr.FlatNode.{FlatNode, out-FlatNode, roll-FlatNode, roll-out-FlatNode}
use Rattle.flat_design.specs.declared.expr.FlatNode.TheVariants as n
use Rattle.flat_design.specs.declared.expr.FlatNode.TheOpen.{FlatNode-F, FlatExpr-F}
use Rattle.flat_design.specs.declared.expr.FlatNode.TheFolds.{fold-FlatNode, fold-FlatExpr, fold-roll-FlatNode, map-FlatNode}
use Rattle.flat_design.specs.Values.{sized_word}
use Rattle.flat_design.specs.Reads.{Read, NodeRead, read, node_read, expr_read, constant_in}
use Rattle.flat_design.proofs.Folds as folds

pub constant_is : (nets : List Net) (e : FlatExpr) (bits : List Bool) → e.node ≡ n.Constant bits → constant_in nets e ≡ Some (e.signed, sized_word e.size bits)
unfolding read
constant_is nets e bits q = ap (λ r. r.0) (folds.at_Constant (node_read nets) expr_read e bits q)

below : (nets : List Net) → FlatNode-F FlatNode FlatExpr → FlatNode-F NodeRead Read
below nets l = map-FlatNode FlatNode FlatExpr NodeRead Read (fold-FlatNode NodeRead Read (node_read nets) expr_read) (fold-FlatExpr NodeRead Read (node_read nets) expr_read) l

by_node : (nets : List Net) (e : FlatExpr) → read nets e ≡ node_read nets (below nets (out-FlatNode e.node)) e.size e.signed
unfolding read below
by_node nets e =
    folds.expr_is (node_read nets) expr_read e
    ∙ ap (λ g. g e.size e.signed) (ap (fold-FlatNode NodeRead Read (node_read nets) expr_read) (sym (roll-out-FlatNode e.node)) ∙ fold-roll-FlatNode NodeRead Read (node_read nets) expr_read (out-FlatNode e.node))

none_node : (nets : List Net) (l : FlatNode-F FlatNode FlatExpr) (size : ℕ) (signed : Bool) → ((bits : List Bool) → roll-FlatNode l ≡ n.Constant bits → ⊥) → (node_read nets (below nets l) size signed).0 ≡ None
unfolding below
none_node nets (FlatNode-F.Constant bits) size signed h = absurd (h bits (n.rolls-Constant bits))
none_node nets (FlatNode-F.Net net) size signed h = refl
none_node nets (FlatNode-F.Select net index width) size signed h = refl
none_node nets (FlatNode-F.Unary op a) size signed h = refl
none_node nets (FlatNode-F.Binary op a b) size signed h = refl
none_node nets (FlatNode-F.Choice test a b) size signed h = refl
none_node nets (FlatNode-F.Join count parts) size signed h = refl
none_node nets (FlatNode-F.Resize a by_sign) size signed h = refl

pub not_constant : (nets : List Net) (e : FlatExpr) → ((bits : List Bool) → e.node ≡ n.Constant bits → ⊥) → constant_in nets e ≡ None
not_constant nets e h = ap (λ r. r.0) (by_node nets e) ∙ none_node nets (out-FlatNode e.node) e.size e.signed (λ bits q. h bits (sym (roll-out-FlatNode e.node) ∙ q))
