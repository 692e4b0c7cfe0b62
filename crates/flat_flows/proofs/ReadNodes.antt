-- What an expression reads, by its kind of node.
use Rattle.std.proofs.Common.{◌≡◌, ℕ, suc, ◌+◌, ◌-◌, ◌<◌, ◌≤◌, Bool, ◌||◌, List, [], ◌∷◌, map, drop, length, get_or, Some, None, refl, sym, ◌∙◌, ap, add-one, arith}
use Rattle.std.proofs.Math.Seq.{drop-cons}
use Rattle.flat_design.specs.declared.net.Net.{Net}
use Rattle.flat_design.specs.declared.expr.FlatUnary.{FlatUnary}
use Rattle.flat_design.specs.declared.expr.FlatBinary.{FlatBinary}
use Rattle.flat_design.specs.declared.expr.FlatExpr.{FlatExpr}
use Rattle.flat_design.specs.declared.expr.FlatNode.{FlatNode, out-FlatNode, roll-out-FlatNode, roll-FlatNode}
use Rattle.flat_design.specs.declared.expr.FlatNode.TheVariants as n
use Rattle.flat_design.specs.declared.expr.FlatNode.TheOpen.{FlatNode-F}
use Rattle.flat_design.specs.Bits.{net_at, of_net}
use Rattle.flat_design.specs.Values.{sized_word}
use Rattle.flat_design.specs.Reads.{read, reads, constant_in, node_read, expr_read, select_bits, either_reads, no_bits}
use Rattle.flat_design.proofs.Folds as folds

pub read_Constant : (nets : List Net) (e : FlatExpr) (bits : List Bool) → e.node ≡ n.Constant bits → read nets e ≡ (Some (e.signed, sized_word e.size bits), no_bits)
unfolding read
read_Constant nets e bits q = folds.at_Constant (node_read nets) expr_read e bits q

pub read_Net : (nets : List Net) (e : FlatExpr) (net : ℕ) → e.node ≡ n.Net net → read nets e ≡ (None, of_net (net_at nets net))
unfolding read
read_Net nets e net q = folds.at_Net (node_read nets) expr_read e net q

pub read_Select : (nets : List Net) (e : FlatExpr) (net : ℕ) (index : FlatExpr) (width : ℕ) → e.node ≡ n.Select net index width → read nets e ≡ (None, λ i. select_bits (net_at nets net) (constant_in nets index) width i || reads nets index i)
unfolding read
read_Select nets e net index width q = folds.at_Select (node_read nets) expr_read e net index width q

pub read_Unary : (nets : List Net) (e : FlatExpr) (op : FlatUnary) (a : FlatExpr) → e.node ≡ n.Unary op a → read nets e ≡ (None, reads nets a)
unfolding read
read_Unary nets e op a q = folds.at_Unary (node_read nets) expr_read e op a q

pub read_Binary : (nets : List Net) (e : FlatExpr) (op : FlatBinary) (a b : FlatExpr) → e.node ≡ n.Binary op a b → read nets e ≡ (None, λ i. reads nets a i || reads nets b i)
unfolding read
read_Binary nets e op a b q = folds.at_Binary (node_read nets) expr_read e op a b q

pub read_Choice : (nets : List Net) (e : FlatExpr) (test a b : FlatExpr) → e.node ≡ n.Choice test a b → read nets e ≡ (None, λ i. reads nets test i || (reads nets a i || reads nets b i))
unfolding read
read_Choice nets e test a b q = folds.at_Choice (node_read nets) expr_read e test a b q

pub read_Join : (nets : List Net) (e : FlatExpr) (count : ℕ) (parts : List FlatExpr) → e.node ≡ n.Join count parts → read nets e ≡ (None, either_reads (map (read nets) parts))
unfolding read
read_Join nets e count parts q = folds.at_Join (node_read nets) expr_read e count parts q

pub read_Resize : (nets : List Net) (e : FlatExpr) (a : FlatExpr) (by_sign : Bool) → e.node ≡ n.Resize a by_sign → read nets e ≡ (None, reads nets a)
unfolding read
read_Resize nets e a by_sign q = folds.at_Resize (node_read nets) expr_read e a by_sign q

-- any other node is no constant
pub no_constant : (nets : List Net) (e : FlatExpr) → ((bits : List Bool) → e.node ≡ n.Constant bits → ⊥) → constant_in nets e ≡ None
no_constant nets e h = by (out-FlatNode e.node) (sym (roll-out-FlatNode e.node)) where
  by : (y : FlatNode-F FlatNode FlatExpr) → e.node ≡ roll-FlatNode y → constant_in nets e ≡ None
  by (FlatNode-F.Constant bits) q = absurd (h bits (q ∙ n.rolls-Constant bits))
  by (FlatNode-F.Net net) q = ap (λ r. r.0) (read_Net nets e net (q ∙ n.rolls-Net net))
  by (FlatNode-F.Select net index width) q = ap (λ r. r.0) (read_Select nets e net index width (q ∙ n.rolls-Select net index width))
  by (FlatNode-F.Unary op a) q = ap (λ r. r.0) (read_Unary nets e op a (q ∙ n.rolls-Unary op a))
  by (FlatNode-F.Binary op a b) q = ap (λ r. r.0) (read_Binary nets e op a b (q ∙ n.rolls-Binary op a b))
  by (FlatNode-F.Choice test a b) q = ap (λ r. r.0) (read_Choice nets e test a b (q ∙ n.rolls-Choice test a b))
  by (FlatNode-F.Join count parts) q = ap (λ r. r.0) (read_Join nets e count parts (q ∙ n.rolls-Join count parts))
  by (FlatNode-F.Resize a by_sign) q = ap (λ r. r.0) (read_Resize nets e a by_sign (q ∙ n.rolls-Resize a by_sign))

-- ---- lists, one after the other

pub rest_of : {A : Type 0} (xs : List A) (i : ℕ) (x : A) → i < length xs → x ≡ get_or xs i x → drop i xs ≡ x ∷ drop (i + 1) xs
rest_of xs i x h is = rw (add-one) (drop-cons xs i x h ∙ ap (λ y. y ∷ drop (suc i) xs) (sym is))

pub rest_before : {A : Type 0} (xs : List A) (i : ℕ) (x : A) → 0 < i → i ≤ length xs → x ≡ get_or xs (i - 1) x → drop (i - 1) xs ≡ x ∷ drop i xs
rest_before xs i x h k is = let e : i - 1 + 1 ≡ i = omega arith in rest_of xs (i - 1) x (omega arith) is ∙ ap (λ n. x ∷ drop n xs) e

pub no_rest : {A : Type 0} (xs : List A) (i : ℕ) → i ≤ 0 → drop i xs ≡ xs
no_rest xs i h = let e : i ≡ 0 = omega arith in ap (λ n. drop n xs) e

pub none_in : {A : Type 0} (xs : List A) → length xs ≤ 0 → xs ≡ []
none_in [] h = refl
none_in (x ∷ xs) h = absurd (omega arith)
