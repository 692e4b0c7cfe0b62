-- The nets that each kind of statement assigns.
use Rattle.std.proofs.Common.{◌≡◌, ℕ, Bool, List, ◌++◌, map, Option, Some, None, refl, sym, ◌∙◌, ap}
use Rattle.flat_design.specs.declared.expr.FlatExpr.{FlatExpr}
use Rattle.flat_design.specs.declared.stmt.FlatLeft.{FlatLeft}
use Rattle.flat_design.specs.declared.stmt.FlatArm.{FlatArm}
use Rattle.flat_design.specs.declared.stmt.FlatStmt.{FlatStmt}
use Rattle.flat_design.specs.declared.stmt.FlatStmt.TheVariants as s
use Rattle.flat_raw.specs.Assigned.{stmt_layer, arm_layer, stmt_nets, arm_nets, option_nets, left_nets, all_nets}
use Rattle.flat_design.proofs.Folds as folds

pub nets_Block : (x : FlatStmt) (body : List FlatStmt) → x ≡ s.Block body → stmt_nets x ≡ all_nets (map stmt_nets body)
unfolding stmt_nets
nets_Block x body q = folds.at_Block stmt_layer arm_layer x body q

pub nets_Assign : (x : FlatStmt) (left : List FlatLeft) (val : FlatExpr) (later : Bool) → x ≡ s.Assign left val later → stmt_nets x ≡ left_nets left
unfolding stmt_nets
nets_Assign x left val later q = folds.at_Assign stmt_layer arm_layer x left val later q

pub nets_If : (x : FlatStmt) (test : FlatExpr) (a : FlatStmt) (other : Option FlatStmt) → x ≡ s.If test a other → stmt_nets x ≡ stmt_nets a ++ option_nets other
unfolding stmt_nets
nets_If x test a None q = folds.at_If_None stmt_layer arm_layer x test a q
nets_If x test a (Some b) q = folds.at_If_Some stmt_layer arm_layer x test a b q

pub nets_Case : (x : FlatStmt) (selector : FlatExpr) (arms : List FlatArm) (other : Option FlatStmt) → x ≡ s.Case selector arms other → stmt_nets x ≡ all_nets (map arm_nets arms) ++ option_nets other
unfolding stmt_nets arm_nets
nets_Case x selector arms None q = folds.at_Case_None stmt_layer arm_layer x selector arms q
nets_Case x selector arms (Some b) q = folds.at_Case_Some stmt_layer arm_layer x selector arms b q

pub arm_is : (x : FlatArm) → arm_nets x ≡ stmt_nets x.body
unfolding stmt_nets arm_nets
arm_is x = folds.arm_is stmt_layer arm_layer x
