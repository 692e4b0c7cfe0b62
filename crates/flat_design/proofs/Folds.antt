-- What a fold of an expression or a statement is at each kind of node.
use Rattle.std.proofs.Common.{◌≡◌, ℕ, Bool, List, map, Some, None, sym, ◌∙◌, ap}
use Rattle.flat_design.specs.declared.expr.FlatUnary.{FlatUnary}
use Rattle.flat_design.specs.declared.expr.FlatBinary.{FlatBinary}
use Rattle.flat_design.specs.declared.expr.FlatExpr.{FlatExpr, out-FlatExpr, roll-out-FlatExpr}
use Rattle.flat_design.specs.declared.expr.FlatNode.{FlatNode}
use Rattle.flat_design.specs.declared.expr.FlatNode.TheVariants as n
use Rattle.flat_design.specs.declared.expr.FlatNode.TheOpen.{FlatNode-F, FlatExpr-F}
use Rattle.flat_design.specs.declared.expr.FlatNode.TheFolds.{fold-FlatExpr, fold-FlatNode, fold-roll-FlatExpr, fold-roll-FlatNode}
use Rattle.flat_design.specs.declared.stmt.FlatLeft.{FlatLeft}
use Rattle.flat_design.specs.declared.stmt.FlatArm.{FlatArm, out-FlatArm, roll-out-FlatArm}
use Rattle.flat_design.specs.declared.stmt.FlatStmt.{FlatStmt}
use Rattle.flat_design.specs.declared.stmt.FlatStmt.TheVariants as s
use Rattle.flat_design.specs.declared.stmt.FlatStmt.TheOpen.{FlatStmt-F, FlatArm-F}
use Rattle.flat_design.specs.declared.stmt.FlatStmt.TheFolds.{fold-FlatStmt, fold-FlatArm, fold-roll-FlatStmt, fold-roll-FlatArm}

-- ---- expressions

-- the layer of an expression whose node came to x
abbrev pub at_node : {A B : Type 0} → (FlatExpr-F A B → B) → FlatExpr → A → B
at_node el e x = el (record { size = e.size; signed = e.signed; node = x })

pub expr_is : {A B : Type 0} (nl : FlatNode-F A B → A) (el : FlatExpr-F A B → B) (e : FlatExpr) → fold-FlatExpr A B nl el e ≡ at_node el e (fold-FlatNode A B nl el e.node)
expr_is {A} {B} nl el e = ap (fold-FlatExpr A B nl el) (sym (roll-out-FlatExpr e)) ∙ fold-roll-FlatExpr A B nl el (out-FlatExpr e)

at_kind : {A B : Type 0} (nl : FlatNode-F A B → A) (el : FlatExpr-F A B → B) (e : FlatExpr) (x : FlatNode) (l : A) → e.node ≡ x → fold-FlatNode A B nl el x ≡ l → fold-FlatExpr A B nl el e ≡ at_node el e l
at_kind {A} {B} nl el e x l q is = expr_is nl el e ∙ ap (at_node el e) (ap (fold-FlatNode A B nl el) q ∙ is)

pub at_Constant : {A B : Type 0} (nl : FlatNode-F A B → A) (el : FlatExpr-F A B → B) (e : FlatExpr) (bits : List Bool) → e.node ≡ n.Constant bits
    → fold-FlatExpr A B nl el e ≡ at_node el e (nl (FlatNode-F.Constant bits))
at_Constant {A} {B} nl el e bits q = at_kind nl el e (n.Constant bits) (nl (FlatNode-F.Constant bits)) q (ap (fold-FlatNode A B nl el) (sym (n.rolls-Constant bits)) ∙ fold-roll-FlatNode A B nl el (FlatNode-F.Constant bits))

pub at_Net : {A B : Type 0} (nl : FlatNode-F A B → A) (el : FlatExpr-F A B → B) (e : FlatExpr) (net : ℕ) → e.node ≡ n.Net net
    → fold-FlatExpr A B nl el e ≡ at_node el e (nl (FlatNode-F.Net net))
at_Net {A} {B} nl el e net q = at_kind nl el e (n.Net net) (nl (FlatNode-F.Net net)) q (ap (fold-FlatNode A B nl el) (sym (n.rolls-Net net)) ∙ fold-roll-FlatNode A B nl el (FlatNode-F.Net net))

pub at_Select : {A B : Type 0} (nl : FlatNode-F A B → A) (el : FlatExpr-F A B → B) (e : FlatExpr) (net : ℕ) (index : FlatExpr) (width : ℕ) → e.node ≡ n.Select net index width
    → fold-FlatExpr A B nl el e ≡ at_node el e (nl (FlatNode-F.Select net (fold-FlatExpr A B nl el index) width))
at_Select {A} {B} nl el e net index width q = at_kind nl el e (n.Select net index width) (nl (FlatNode-F.Select net (fold-FlatExpr A B nl el index) width)) q (ap (fold-FlatNode A B nl el) (sym (n.rolls-Select net index width)) ∙ fold-roll-FlatNode A B nl el (FlatNode-F.Select net index width))

pub at_Unary : {A B : Type 0} (nl : FlatNode-F A B → A) (el : FlatExpr-F A B → B) (e : FlatExpr) (op : FlatUnary) (a : FlatExpr) → e.node ≡ n.Unary op a
    → fold-FlatExpr A B nl el e ≡ at_node el e (nl (FlatNode-F.Unary op (fold-FlatExpr A B nl el a)))
at_Unary {A} {B} nl el e op a q = at_kind nl el e (n.Unary op a) (nl (FlatNode-F.Unary op (fold-FlatExpr A B nl el a))) q (ap (fold-FlatNode A B nl el) (sym (n.rolls-Unary op a)) ∙ fold-roll-FlatNode A B nl el (FlatNode-F.Unary op a))

pub at_Binary : {A B : Type 0} (nl : FlatNode-F A B → A) (el : FlatExpr-F A B → B) (e : FlatExpr) (op : FlatBinary) (a : FlatExpr) (b : FlatExpr) → e.node ≡ n.Binary op a b
    → fold-FlatExpr A B nl el e ≡ at_node el e (nl (FlatNode-F.Binary op (fold-FlatExpr A B nl el a) (fold-FlatExpr A B nl el b)))
at_Binary {A} {B} nl el e op a b q = at_kind nl el e (n.Binary op a b) (nl (FlatNode-F.Binary op (fold-FlatExpr A B nl el a) (fold-FlatExpr A B nl el b))) q (ap (fold-FlatNode A B nl el) (sym (n.rolls-Binary op a b)) ∙ fold-roll-FlatNode A B nl el (FlatNode-F.Binary op a b))

pub at_Choice : {A B : Type 0} (nl : FlatNode-F A B → A) (el : FlatExpr-F A B → B) (e : FlatExpr) (test : FlatExpr) (a : FlatExpr) (b : FlatExpr) → e.node ≡ n.Choice test a b
    → fold-FlatExpr A B nl el e ≡ at_node el e (nl (FlatNode-F.Choice (fold-FlatExpr A B nl el test) (fold-FlatExpr A B nl el a) (fold-FlatExpr A B nl el b)))
at_Choice {A} {B} nl el e test a b q = at_kind nl el e (n.Choice test a b) (nl (FlatNode-F.Choice (fold-FlatExpr A B nl el test) (fold-FlatExpr A B nl el a) (fold-FlatExpr A B nl el b))) q (ap (fold-FlatNode A B nl el) (sym (n.rolls-Choice test a b)) ∙ fold-roll-FlatNode A B nl el (FlatNode-F.Choice test a b))

pub at_Join : {A B : Type 0} (nl : FlatNode-F A B → A) (el : FlatExpr-F A B → B) (e : FlatExpr) (count : ℕ) (parts : List FlatExpr) → e.node ≡ n.Join count parts
    → fold-FlatExpr A B nl el e ≡ at_node el e (nl (FlatNode-F.Join count (map (fold-FlatExpr A B nl el) parts)))
at_Join {A} {B} nl el e count parts q = at_kind nl el e (n.Join count parts) (nl (FlatNode-F.Join count (map (fold-FlatExpr A B nl el) parts))) q (ap (fold-FlatNode A B nl el) (sym (n.rolls-Join count parts)) ∙ fold-roll-FlatNode A B nl el (FlatNode-F.Join count parts))

pub at_Resize : {A B : Type 0} (nl : FlatNode-F A B → A) (el : FlatExpr-F A B → B) (e : FlatExpr) (a : FlatExpr) (by_sign : Bool) → e.node ≡ n.Resize a by_sign
    → fold-FlatExpr A B nl el e ≡ at_node el e (nl (FlatNode-F.Resize (fold-FlatExpr A B nl el a) by_sign))
at_Resize {A} {B} nl el e a by_sign q = at_kind nl el e (n.Resize a by_sign) (nl (FlatNode-F.Resize (fold-FlatExpr A B nl el a) by_sign)) q (ap (fold-FlatNode A B nl el) (sym (n.rolls-Resize a by_sign)) ∙ fold-roll-FlatNode A B nl el (FlatNode-F.Resize a by_sign))

-- ---- statements

pub at_Block : {A B : Type 0} (sl : FlatStmt-F A B → A) (al : FlatArm-F A B → B) (x : FlatStmt) (body : List FlatStmt) → x ≡ s.Block body
    → fold-FlatStmt A B sl al x ≡ sl (FlatStmt-F.Block (map (fold-FlatStmt A B sl al) body))
at_Block {A} {B} sl al x body q = ap (fold-FlatStmt A B sl al) (q ∙ sym (s.rolls-Block body)) ∙ fold-roll-FlatStmt A B sl al (FlatStmt-F.Block body)

pub at_Assign : {A B : Type 0} (sl : FlatStmt-F A B → A) (al : FlatArm-F A B → B) (x : FlatStmt) (left : List FlatLeft) (val : FlatExpr) (later : Bool) → x ≡ s.Assign left val later
    → fold-FlatStmt A B sl al x ≡ sl (FlatStmt-F.Assign left val later)
at_Assign {A} {B} sl al x left val later q = ap (fold-FlatStmt A B sl al) (q ∙ sym (s.rolls-Assign left val later)) ∙ fold-roll-FlatStmt A B sl al (FlatStmt-F.Assign left val later)

pub at_If_None : {A B : Type 0} (sl : FlatStmt-F A B → A) (al : FlatArm-F A B → B) (x : FlatStmt) (test : FlatExpr) (a : FlatStmt) → x ≡ s.If test a None
    → fold-FlatStmt A B sl al x ≡ sl (FlatStmt-F.If test (fold-FlatStmt A B sl al a) None)
at_If_None {A} {B} sl al x test a q = ap (fold-FlatStmt A B sl al) (q ∙ sym (s.rolls-If test a None)) ∙ fold-roll-FlatStmt A B sl al (FlatStmt-F.If test a None)

pub at_If_Some : {A B : Type 0} (sl : FlatStmt-F A B → A) (al : FlatArm-F A B → B) (x : FlatStmt) (test : FlatExpr) (a : FlatStmt) (b : FlatStmt) → x ≡ s.If test a (Some b)
    → fold-FlatStmt A B sl al x ≡ sl (FlatStmt-F.If test (fold-FlatStmt A B sl al a) (Some (fold-FlatStmt A B sl al b)))
at_If_Some {A} {B} sl al x test a b q = ap (fold-FlatStmt A B sl al) (q ∙ sym (s.rolls-If test a (Some b))) ∙ fold-roll-FlatStmt A B sl al (FlatStmt-F.If test a (Some b))

pub at_Case_None : {A B : Type 0} (sl : FlatStmt-F A B → A) (al : FlatArm-F A B → B) (x : FlatStmt) (selector : FlatExpr) (arms : List FlatArm) → x ≡ s.Case selector arms None
    → fold-FlatStmt A B sl al x ≡ sl (FlatStmt-F.Case selector (map (fold-FlatArm A B sl al) arms) None)
at_Case_None {A} {B} sl al x selector arms q = ap (fold-FlatStmt A B sl al) (q ∙ sym (s.rolls-Case selector arms None)) ∙ fold-roll-FlatStmt A B sl al (FlatStmt-F.Case selector arms None)

pub at_Case_Some : {A B : Type 0} (sl : FlatStmt-F A B → A) (al : FlatArm-F A B → B) (x : FlatStmt) (selector : FlatExpr) (arms : List FlatArm) (b : FlatStmt) → x ≡ s.Case selector arms (Some b)
    → fold-FlatStmt A B sl al x ≡ sl (FlatStmt-F.Case selector (map (fold-FlatArm A B sl al) arms) (Some (fold-FlatStmt A B sl al b)))
at_Case_Some {A} {B} sl al x selector arms b q = ap (fold-FlatStmt A B sl al) (q ∙ sym (s.rolls-Case selector arms (Some b))) ∙ fold-roll-FlatStmt A B sl al (FlatStmt-F.Case selector arms (Some b))

pub arm_is : {A B : Type 0} (sl : FlatStmt-F A B → A) (al : FlatArm-F A B → B) (x : FlatArm)
    → fold-FlatArm A B sl al x ≡ al (record { labels = x.labels; body = fold-FlatStmt A B sl al x.body })
arm_is {A} {B} sl al x = ap (fold-FlatArm A B sl al) (sym (roll-out-FlatArm x)) ∙ fold-roll-FlatArm A B sl al (out-FlatArm x)
