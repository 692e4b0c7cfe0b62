-- What the rules say of each kind of node.
use Rattle.std.proofs.Common.{◌≡◌, ℕ, Bool, true, false, not, ◌&&◌, ◌==◌, List, map, length, Option, Some, None, refl, sym, ◌∙◌, ap, subst}
use Rattle.std.specs.List.{list_all}
use Rattle.flat_design.specs.declared.net.Net.{Net}
use Rattle.flat_design.specs.declared.expr.FlatUnary.{FlatUnary}
use Rattle.flat_design.specs.declared.expr.FlatBinary.{FlatBinary}
use Rattle.flat_design.specs.declared.expr.FlatExpr.{FlatExpr}
use Rattle.flat_design.specs.declared.expr.FlatNode.{FlatNode, out-FlatNode, roll-FlatNode, roll-out-FlatNode}
use Rattle.flat_design.specs.declared.expr.FlatNode.TheVariants as n
use Rattle.flat_design.specs.declared.expr.FlatNode.TheOpen.{FlatNode-F, FlatExpr-F}
use Rattle.flat_design.specs.declared.expr.FlatNode.TheFolds.{fold-FlatNode, fold-FlatExpr, fold-roll-FlatNode, map-FlatNode}
use Rattle.flat_design.specs.Bits.{net_at}
use Rattle.flat_design.specs.Values.{sized_word}
use Rattle.flat_rules.specs.Rules.{Ruled, rules, obeys, ruled, constant_ruled, node_ruled, unary_rule, binary_rule, choice_rule, join_rule, select_rule, is_net}
use Rattle.flat_rules.specs.Own.{own}
use Rattle.flat_design.specs.declared.stmt.FlatLeft.{FlatLeft}
use Rattle.flat_design.specs.declared.stmt.FlatArm.{FlatArm}
use Rattle.flat_design.specs.declared.stmt.FlatStmt.{FlatStmt}
use Rattle.flat_design.specs.declared.stmt.FlatStmt.TheVariants as s
use Rattle.flat_rules.specs.Fits.{stmt_fits, arm_fits, option_fits, assign_fits, label_fits, stmt_layer, arm_layer}
use Rattle.flat_design.proofs.Folds as folds
use Rattle.flat_design.proofs.Sizes.{sized_same}
use Rattle.std.proofs.lemmas.Bool.{eqb-true}

abbrev el : FlatExpr-F (ℕ → Bool → Ruled) Ruled → Ruled
el e = e.node e.size e.signed

pub rules_Constant : (nets : List Net) (e : FlatExpr) (bits : List Bool) → e.node ≡ n.Constant bits → rules nets e ≡ constant_ruled e.size e.signed (e.signed, sized_word e.size bits) (length bits == e.size)
unfolding rules
rules_Constant nets e bits q = folds.at_Constant (node_ruled nets) el e bits q

pub rules_Net : (nets : List Net) (e : FlatExpr) (net : ℕ) → e.node ≡ n.Net net → rules nets e ≡ ruled e.size e.signed (is_net nets net && (e.size == (net_at nets net).width))
unfolding rules
rules_Net nets e net q = folds.at_Net (node_ruled nets) el e net q

pub rules_Select : (nets : List Net) (e : FlatExpr) (net : ℕ) (index : FlatExpr) (width : ℕ) → e.node ≡ n.Select net index width
    → rules nets e ≡ ruled e.size e.signed ((is_net nets net && select_rule (net_at nets net) width (rules nets index)) && ((e.size == width) && not e.signed))
unfolding rules
rules_Select nets e net index width q = folds.at_Select (node_ruled nets) el e net index width q

pub rules_Unary : (nets : List Net) (e : FlatExpr) (op : FlatUnary) (a : FlatExpr) → e.node ≡ n.Unary op a → rules nets e ≡ ruled e.size e.signed (obeys nets a && unary_rule op (rules nets a) e.size e.signed)
unfolding rules
rules_Unary nets e op a q = folds.at_Unary (node_ruled nets) el e op a q

pub rules_Binary : (nets : List Net) (e : FlatExpr) (op : FlatBinary) (a b : FlatExpr) → e.node ≡ n.Binary op a b
    → rules nets e ≡ ruled e.size e.signed (obeys nets a && (obeys nets b && binary_rule op (rules nets a) (rules nets b) e.size e.signed))
unfolding rules
rules_Binary nets e op a b q = folds.at_Binary (node_ruled nets) el e op a b q

pub rules_Choice : (nets : List Net) (e test a b : FlatExpr) → e.node ≡ n.Choice test a b
    → rules nets e ≡ ruled e.size e.signed (obeys nets test && (obeys nets a && (obeys nets b && choice_rule (rules nets a) (rules nets b) e.size e.signed)))
unfolding rules
rules_Choice nets e test a b q = folds.at_Choice (node_ruled nets) el e test a b q

pub rules_Join : (nets : List Net) (e : FlatExpr) (count : ℕ) (parts : List FlatExpr) → e.node ≡ n.Join count parts
    → rules nets e ≡ ruled e.size e.signed (list_all (λ p. p.obeys) (map (rules nets) parts) && join_rule count (map (rules nets) parts) e.size e.signed)
unfolding rules
rules_Join nets e count parts q = folds.at_Join (node_ruled nets) el e count parts q

pub rules_Resize : (nets : List Net) (e a : FlatExpr) (by_sign : Bool) → e.node ≡ n.Resize a by_sign → rules nets e ≡ ruled e.size e.signed (obeys nets a)
unfolding rules
rules_Resize nets e a by_sign q = folds.at_Resize (node_ruled nets) el e a by_sign q

-- a constant that obeys has as many bits as its size says
bits_are : (size : ℕ) (bits : List Bool) (x y : Bool) → x && (y && (length bits == size)) ≡ true → sized_word size bits ≡ bits
bits_are size bits true true h = sized_same size bits (eqb-true (length bits) size h)
bits_are size bits true false h = cc
bits_are size bits false y h = cc

pub constant_some : (nets : List Net) (e : FlatExpr) (bits : List Bool) → e.node ≡ n.Constant bits → obeys nets e ≡ true → (rules nets e).constant ≡ Some (e.signed, bits)
constant_some nets e bits q h = ap (λ r. r.constant) (rules_Constant nets e bits q) ∙ ap (λ b. Some (e.signed, b)) (bits_are e.size bits _ _ (sym (ap (λ r. r.obeys) (rules_Constant nets e bits q)) ∙ h))

-- ---- the size and the sign stand in the expression, and only a `Constant` is constant

below : (nets : List Net) → FlatNode-F FlatNode FlatExpr → FlatNode-F (ℕ → Bool → Ruled) Ruled
below nets l = map-FlatNode FlatNode FlatExpr (ℕ → Bool → Ruled) Ruled (fold-FlatNode (ℕ → Bool → Ruled) Ruled (node_ruled nets) el) (fold-FlatExpr (ℕ → Bool → Ruled) Ruled (node_ruled nets) el) l

by_node : (nets : List Net) (e : FlatExpr) → rules nets e ≡ node_ruled nets (below nets (out-FlatNode e.node)) e.size e.signed
unfolding rules below
by_node nets e =
    folds.expr_is (node_ruled nets) el e
    ∙ ap (λ g. g e.size e.signed) (ap (fold-FlatNode (ℕ → Bool → Ruled) Ruled (node_ruled nets) el) (sym (roll-out-FlatNode e.node)) ∙ fold-roll-FlatNode (ℕ → Bool → Ruled) Ruled (node_ruled nets) el (out-FlatNode e.node))

own_node : (nets : List Net) (l : FlatNode-F (ℕ → Bool → Ruled) Ruled) (size : ℕ) (signed : Bool) → own (node_ruled nets l size signed) ≡ record { size = size; signed = signed }
own_node nets (FlatNode-F.Constant bits) size signed = refl
own_node nets (FlatNode-F.Net net) size signed = refl
own_node nets (FlatNode-F.Select net index width) size signed = refl
own_node nets (FlatNode-F.Unary op a) size signed = refl
own_node nets (FlatNode-F.Binary op a b) size signed = refl
own_node nets (FlatNode-F.Choice test a b) size signed = refl
own_node nets (FlatNode-F.Join count parts) size signed = refl
own_node nets (FlatNode-F.Resize a by_sign) size signed = refl

pub own_is : (nets : List Net) (e : FlatExpr) → record { size = e.size; signed = e.signed } ≡ own (rules nets e)
own_is nets e = sym (ap own (by_node nets e) ∙ own_node nets (below nets (out-FlatNode e.node)) e.size e.signed)

none_node : (nets : List Net) (l : FlatNode-F FlatNode FlatExpr) (size : ℕ) (signed : Bool) → ((bits : List Bool) → roll-FlatNode l ≡ n.Constant bits → ⊥) → (node_ruled nets (below nets l) size signed).constant ≡ None
unfolding below
none_node nets (FlatNode-F.Constant bits) size signed h = absurd (h bits (n.rolls-Constant bits))
none_node nets (FlatNode-F.Net net) size signed h = refl
none_node nets (FlatNode-F.Select net index width) size signed h = refl
none_node nets (FlatNode-F.Unary op a) size signed h = refl
none_node nets (FlatNode-F.Binary op a b) size signed h = refl
none_node nets (FlatNode-F.Choice test a b) size signed h = refl
none_node nets (FlatNode-F.Join count parts) size signed h = refl
none_node nets (FlatNode-F.Resize a by_sign) size signed h = refl

pub constant_none : (nets : List Net) (e : FlatExpr) → ((bits : List Bool) → e.node ≡ n.Constant bits → ⊥) → (rules nets e).constant ≡ None
constant_none nets e h = ap (λ r. r.constant) (by_node nets e) ∙ none_node nets (out-FlatNode e.node) e.size e.signed (λ bits q. h bits (sym (roll-out-FlatNode e.node) ∙ q))

-- ---- statements

pub fits_Block : (nets : List Net) (x : FlatStmt) (body : List FlatStmt) → x ≡ s.Block body → stmt_fits nets x ≡ list_all (λ b. b) (map (stmt_fits nets) body)
unfolding stmt_fits
fits_Block nets x body q = folds.at_Block (stmt_layer nets) (arm_layer nets) x body q

pub fits_Assign : (nets : List Net) (x : FlatStmt) (left : List FlatLeft) (val : FlatExpr) (later : Bool) → x ≡ s.Assign left val later → stmt_fits nets x ≡ assign_fits nets left val
unfolding stmt_fits
fits_Assign nets x left val later q = folds.at_Assign (stmt_layer nets) (arm_layer nets) x left val later q

pub fits_If : (nets : List Net) (x : FlatStmt) (test : FlatExpr) (a : FlatStmt) (other : Option FlatStmt) → x ≡ s.If test a other → stmt_fits nets x ≡ obeys nets test && (stmt_fits nets a && option_fits nets other)
unfolding stmt_fits
fits_If nets x test a None q = folds.at_If_None (stmt_layer nets) (arm_layer nets) x test a q
fits_If nets x test a (Some b) q = folds.at_If_Some (stmt_layer nets) (arm_layer nets) x test a b q

pub fits_Case : (nets : List Net) (x : FlatStmt) (selector : FlatExpr) (arms : List FlatArm) (other : Option FlatStmt) → x ≡ s.Case selector arms other
    → stmt_fits nets x ≡ obeys nets selector && (list_all (λ a. a selector.size) (map (arm_fits nets) arms) && option_fits nets other)
unfolding stmt_fits arm_fits
fits_Case nets x selector arms None q = folds.at_Case_None (stmt_layer nets) (arm_layer nets) x selector arms q
fits_Case nets x selector arms (Some b) q = folds.at_Case_Some (stmt_layer nets) (arm_layer nets) x selector arms b q

pub arm_is : (nets : List Net) (x : FlatArm) (size : ℕ) → arm_fits nets x size ≡ list_all (label_fits nets size) x.labels && stmt_fits nets x.body
unfolding stmt_fits arm_fits
arm_is nets x size = ap (λ g. g size) (folds.arm_is (stmt_layer nets) (arm_layer nets) x)
