-- What each kind of node costs, and sums that are cut.
use Rattle.std.proofs.Common.{◌≡◌, ℕ, suc, ◌+◌, ◌*◌, ◌<◌, Bool, true, false, ◌&&◌, List, ◌∷◌, map, drop, length, get_or, sym, ◌∙◌, ap, add-one}
use Rattle.std.specs.List.{list_all}
use Rattle.std.proofs.Math.Seq.{drop-cons}
use Rattle.flat_design.specs.declared.net.Net.{Net}
use Rattle.flat_design.specs.declared.expr.FlatUnary.{FlatUnary}
use Rattle.flat_design.specs.declared.expr.FlatBinary.{FlatBinary}
use Rattle.flat_design.specs.declared.expr.FlatExpr.{FlatExpr}
use Rattle.flat_design.specs.declared.expr.FlatNode.TheVariants as n
use Rattle.flat_design.specs.Bits.{net_at}
use Rattle.flat_design.specs.Prices.{price, priced, node_price, unary_cost, binary_cost, read_cost, cost_of_all}
use Rattle.flat_design.proofs.Folds as folds

pub price_Constant : (nets : List Net) (e : FlatExpr) (bits : List Bool) → e.node ≡ n.Constant bits → price nets e ≡ priced e.size true 0
unfolding price
price_Constant nets e bits q = folds.at_Constant (node_price nets) (λ e. e.node e.size) e bits q

pub price_Net : (nets : List Net) (e : FlatExpr) (net : ℕ) → e.node ≡ n.Net net → price nets e ≡ priced e.size false 0
unfolding price
price_Net nets e net q = folds.at_Net (node_price nets) (λ e. e.node e.size) e net q

pub price_Select : (nets : List Net) (e : FlatExpr) (net : ℕ) (index : FlatExpr) (width : ℕ) → e.node ≡ n.Select net index width → price nets e ≡ priced e.size false ((price nets index).cost + read_cost (net_at nets net).width (price nets index))
unfolding price
price_Select nets e net index width q = folds.at_Select (node_price nets) (λ e. e.node e.size) e net index width q

pub price_Unary : (nets : List Net) (e : FlatExpr) (op : FlatUnary) (a : FlatExpr) → e.node ≡ n.Unary op a → price nets e ≡ priced e.size (price nets a).constant ((price nets a).cost + unary_cost op (price nets a).size)
unfolding price
price_Unary nets e op a q = folds.at_Unary (node_price nets) (λ e. e.node e.size) e op a q

pub price_Binary : (nets : List Net) (e : FlatExpr) (op : FlatBinary) (a b : FlatExpr) → e.node ≡ n.Binary op a b
    → price nets e ≡ priced e.size ((price nets a).constant && (price nets b).constant) ((price nets a).cost + (price nets b).cost + binary_cost op (price nets a) (price nets b))
unfolding price
price_Binary nets e op a b q = folds.at_Binary (node_price nets) (λ e. e.node e.size) e op a b q

pub price_Choice : (nets : List Net) (e test a b : FlatExpr) → e.node ≡ n.Choice test a b
    → price nets e ≡ priced e.size ((price nets test).constant && ((price nets a).constant && (price nets b).constant)) ((price nets test).cost + (price nets a).cost + (price nets b).cost + (3 * e.size + (price nets test).size))
unfolding price
price_Choice nets e test a b q = folds.at_Choice (node_price nets) (λ e. e.node e.size) e test a b q

pub price_Join : (nets : List Net) (e : FlatExpr) (count : ℕ) (parts : List FlatExpr) → e.node ≡ n.Join count parts → price nets e ≡ priced e.size (list_all (λ p. p.constant) (map (price nets) parts)) (cost_of_all (map (price nets) parts))
unfolding price
price_Join nets e count parts q = folds.at_Join (node_price nets) (λ e. e.node e.size) e count parts q

pub price_Resize : (nets : List Net) (e a : FlatExpr) (by_sign : Bool) → e.node ≡ n.Resize a by_sign → price nets e ≡ priced e.size (price nets a).constant (price nets a).cost
unfolding price
price_Resize nets e a by_sign q = folds.at_Resize (node_price nets) (λ e. e.node e.size) e a by_sign q

-- ---- the parts of a join, one after the other

pub rest_of : (es : List FlatExpr) (i : ℕ) (e : FlatExpr) → i < length es → e ≡ get_or es i e → drop i es ≡ e ∷ drop (i + 1) es
rest_of es i e h is = rw (add-one) (drop-cons es i e h ∙ ap (λ x. x ∷ drop (suc i) es) (sym is))
