-- What an expression is a whole of, by its kind of node.
use Rattle.std.proofs.Common.{◌≡◌, ℕ, Some, None, sym, ◌∙◌, ap}
use Rattle.std.specs.Prelude.{if◌then◌else◌}
use Rattle.flat_design.specs.declared.expr.FlatUnary.{FlatUnary}
use Rattle.flat_design.specs.declared.expr.FlatExpr.{FlatExpr}
use Rattle.flat_design.specs.declared.expr.FlatNode.{FlatNode, out-FlatNode, roll-out-FlatNode, roll-FlatNode}
use Rattle.flat_design.specs.declared.expr.FlatNode.TheVariants as n
use Rattle.flat_design.specs.declared.expr.FlatNode.TheOpen.{FlatNode-F}
use Rattle.flat_design.proofs.Folds as folds
use Rattle.flat_ties.specs.Shapes.{shape, shape_layer, is_inversion, whole_net, inverted_net}

pub shape_Net : (e : FlatExpr) (net : ℕ) → e.node ≡ n.Net net → shape e ≡ (Some net, None)
unfolding shape
shape_Net e net q = folds.at_Net shape_layer (λ e. e.node) e net q

pub shape_Unary : (e : FlatExpr) (op : FlatUnary) (a : FlatExpr) → e.node ≡ n.Unary op a → shape e ≡ (None, if is_inversion op then whole_net a else None)
unfolding shape
shape_Unary e op a q = folds.at_Unary shape_layer (λ e. e.node) e op a q

pub no_whole : (e : FlatExpr) → ((net : ℕ) → e.node ≡ n.Net net → ⊥) → whole_net e ≡ None
unfolding shape
no_whole e h = by (out-FlatNode e.node) (sym (roll-out-FlatNode e.node)) where
  by : (y : FlatNode-F FlatNode FlatExpr) → e.node ≡ roll-FlatNode y → whole_net e ≡ None
  by (FlatNode-F.Constant bits) q = ap (λ s. s.0) (folds.at_Constant shape_layer (λ e. e.node) e bits (q ∙ n.rolls-Constant bits))
  by (FlatNode-F.Net net) q = absurd (h net (q ∙ n.rolls-Net net))
  by (FlatNode-F.Select net index width) q = ap (λ s. s.0) (folds.at_Select shape_layer (λ e. e.node) e net index width (q ∙ n.rolls-Select net index width))
  by (FlatNode-F.Unary op a) q = ap (λ s. s.0) (folds.at_Unary shape_layer (λ e. e.node) e op a (q ∙ n.rolls-Unary op a))
  by (FlatNode-F.Binary op a b) q = ap (λ s. s.0) (folds.at_Binary shape_layer (λ e. e.node) e op a b (q ∙ n.rolls-Binary op a b))
  by (FlatNode-F.Choice test a b) q = ap (λ s. s.0) (folds.at_Choice shape_layer (λ e. e.node) e test a b (q ∙ n.rolls-Choice test a b))
  by (FlatNode-F.Join count parts) q = ap (λ s. s.0) (folds.at_Join shape_layer (λ e. e.node) e count parts (q ∙ n.rolls-Join count parts))
  by (FlatNode-F.Resize a by_sign) q = ap (λ s. s.0) (folds.at_Resize shape_layer (λ e. e.node) e a by_sign (q ∙ n.rolls-Resize a by_sign))

pub no_inverted : (e : FlatExpr) → ((op : FlatUnary) (a : FlatExpr) → e.node ≡ n.Unary op a → ⊥) → inverted_net e ≡ None
unfolding shape
no_inverted e h = by (out-FlatNode e.node) (sym (roll-out-FlatNode e.node)) where
  by : (y : FlatNode-F FlatNode FlatExpr) → e.node ≡ roll-FlatNode y → inverted_net e ≡ None
  by (FlatNode-F.Constant bits) q = ap (λ s. s.1) (folds.at_Constant shape_layer (λ e. e.node) e bits (q ∙ n.rolls-Constant bits))
  by (FlatNode-F.Net net) q = ap (λ s. s.1) (folds.at_Net shape_layer (λ e. e.node) e net (q ∙ n.rolls-Net net))
  by (FlatNode-F.Select net index width) q = ap (λ s. s.1) (folds.at_Select shape_layer (λ e. e.node) e net index width (q ∙ n.rolls-Select net index width))
  by (FlatNode-F.Unary op a) q = absurd (h op a (q ∙ n.rolls-Unary op a))
  by (FlatNode-F.Binary op a b) q = ap (λ s. s.1) (folds.at_Binary shape_layer (λ e. e.node) e op a b (q ∙ n.rolls-Binary op a b))
  by (FlatNode-F.Choice test a b) q = ap (λ s. s.1) (folds.at_Choice shape_layer (λ e. e.node) e test a b (q ∙ n.rolls-Choice test a b))
  by (FlatNode-F.Join count parts) q = ap (λ s. s.1) (folds.at_Join shape_layer (λ e. e.node) e count parts (q ∙ n.rolls-Join count parts))
  by (FlatNode-F.Resize a by_sign) q = ap (λ s. s.1) (folds.at_Resize shape_layer (λ e. e.node) e a by_sign (q ∙ n.rolls-Resize a by_sign))
