-- What an expression is before it is extended, by its kind of node.
use Rattle.std.proofs.Common.{◌≡◌, ℕ, ◌≤◌, ◌<◌, Bool, true, false, refl, sym, ◌∙◌, ap, arith, List}
use Rattle.std.specs.Prelude.{nat_le, if◌then◌else◌, Result, Ok, Err, IfOk}
use Rattle.std.proofs.lemmas.Bool.Decides.{nat_tests}
use Rattle.bit_base.specs.Numbers.{extended, low_bits}
use Rattle.flat_design.specs.declared.expr.FlatExpr.{FlatExpr}
use Rattle.flat_design.specs.declared.expr.FlatNode.{FlatNode, out-FlatNode, roll-out-FlatNode, roll-FlatNode}
use Rattle.flat_design.specs.declared.expr.FlatNode.TheVariants as n
use Rattle.flat_design.specs.declared.expr.FlatNode.TheOpen.{FlatNode-F}
use Rattle.flat_design.specs.Flows.{Spread, spread, spread_layer, unspread}
use Rattle.flat_design.proofs.Folds as folds

spread_Resize : (e a : FlatExpr) (by_sign : Bool) → e.node ≡ n.Resize a by_sign
    → spread e ≡ (if nat_le (spread a).size e.size then record { size = e.size; own = (spread a).own; widen = λ word. extended e.size by_sign ((spread a).widen word) } else unspread e.size)
unfolding spread
spread_Resize e a by_sign q = folds.at_Resize spread_layer (λ e. e.node e.size) e a by_sign q

-- any other node isn't extended
pub unspread_other : (e : FlatExpr) → ((a : FlatExpr) (by_sign : Bool) → e.node ≡ n.Resize a by_sign → ⊥) → spread e ≡ unspread e.size
unfolding spread
unspread_other e h = by (out-FlatNode e.node) (sym (roll-out-FlatNode e.node)) where
  by : (y : FlatNode-F FlatNode FlatExpr) → e.node ≡ roll-FlatNode y → spread e ≡ unspread e.size
  by (FlatNode-F.Constant bits) q = folds.at_Constant spread_layer (λ e. e.node e.size) e bits (q ∙ n.rolls-Constant bits)
  by (FlatNode-F.Net net) q = folds.at_Net spread_layer (λ e. e.node e.size) e net (q ∙ n.rolls-Net net)
  by (FlatNode-F.Select net index width) q = folds.at_Select spread_layer (λ e. e.node e.size) e net index width (q ∙ n.rolls-Select net index width)
  by (FlatNode-F.Unary op a) q = folds.at_Unary spread_layer (λ e. e.node e.size) e op a (q ∙ n.rolls-Unary op a)
  by (FlatNode-F.Binary op a b) q = folds.at_Binary spread_layer (λ e. e.node e.size) e op a b (q ∙ n.rolls-Binary op a b)
  by (FlatNode-F.Choice test a b) q = folds.at_Choice spread_layer (λ e. e.node e.size) e test a b (q ∙ n.rolls-Choice test a b)
  by (FlatNode-F.Join count parts) q = folds.at_Join spread_layer (λ e. e.node e.size) e count parts (q ∙ n.rolls-Join count parts)
  by (FlatNode-F.Resize a by_sign) q = absurd (h a by_sign (q ∙ n.rolls-Resize a by_sign))

-- where the operand is wider, there is no extension
pub unspread_cut : (e a : FlatExpr) (by_sign : Bool) → e.node ≡ n.Resize a by_sign → (spread a).size ≡ a.size → e.size < a.size → spread e ≡ unspread e.size
unspread_cut e a by_sign q s h = spread_Resize e a by_sign q ∙ (let f : nat_le (spread a).size e.size ≡ false = grind (arith, nat_tests) in rw f refl)

pub spread_wide : (e a : FlatExpr) (by_sign : Bool) → e.node ≡ n.Resize a by_sign → (spread a).size ≡ a.size → a.size ≤ e.size → spread e ≡ record { size = e.size; own = (spread a).own; widen = λ word. extended e.size by_sign ((spread a).widen word) }
spread_wide e a by_sign q s h = spread_Resize e a by_sign q ∙ (let f : nat_le (spread a).size e.size ≡ true = grind (arith, nat_tests) in rw f refl)

picked : (b : Bool) (s t : Spread) (n : ℕ) → s.size ≡ n → t.size ≡ n → (if b then s else t).size ≡ n
picked true s t n p q = p
picked false s t n p q = q

pub spread_size : (e : FlatExpr) → (spread e).size ≡ e.size
unfolding spread
spread_size e = by (out-FlatNode e.node) (sym (roll-out-FlatNode e.node)) where
  by : (y : FlatNode-F FlatNode FlatExpr) → e.node ≡ roll-FlatNode y → (spread e).size ≡ e.size
  by (FlatNode-F.Constant bits) q = ap (λ s. s.size) (folds.at_Constant spread_layer (λ e. e.node e.size) e bits (q ∙ n.rolls-Constant bits))
  by (FlatNode-F.Net net) q = ap (λ s. s.size) (folds.at_Net spread_layer (λ e. e.node e.size) e net (q ∙ n.rolls-Net net))
  by (FlatNode-F.Select net index width) q = ap (λ s. s.size) (folds.at_Select spread_layer (λ e. e.node e.size) e net index width (q ∙ n.rolls-Select net index width))
  by (FlatNode-F.Unary op a) q = ap (λ s. s.size) (folds.at_Unary spread_layer (λ e. e.node e.size) e op a (q ∙ n.rolls-Unary op a))
  by (FlatNode-F.Binary op a b) q = ap (λ s. s.size) (folds.at_Binary spread_layer (λ e. e.node e.size) e op a b (q ∙ n.rolls-Binary op a b))
  by (FlatNode-F.Choice test a b) q = ap (λ s. s.size) (folds.at_Choice spread_layer (λ e. e.node e.size) e test a b (q ∙ n.rolls-Choice test a b))
  by (FlatNode-F.Join count parts) q = ap (λ s. s.size) (folds.at_Join spread_layer (λ e. e.node e.size) e count parts (q ∙ n.rolls-Join count parts))
  by (FlatNode-F.Resize a by_sign) q = ap (λ s. s.size) (spread_Resize e a by_sign (q ∙ n.rolls-Resize a by_sign)) ∙ picked _ _ (unspread e.size) e.size refl refl

-- a word that was worked out from the parts of an expression
pub word_of : {E : Type 0} (r : Result (List Bool) E) (s u : Spread) (number : ℕ) → s ≡ u → (w : List Bool) → w ≡ u.widen (low_bits u.own number) → IfOk r (λ word. word ≡ w) → IfOk r (λ word. word ≡ s.widen (low_bits s.own number))
word_of (Ok x) s u number is w e h = h ∙ e ∙ ap (λ s. s.widen (low_bits s.own number)) (sym is)
word_of (Err e) s u number is w q h = h
