-- The nets that each kind of statement assigns.
use Rattle.std.proofs.Common.{◌≡◌, Bool, List, ◌++◌, map, Option, Some, None}
use Rattle.flat_design.specs.declared.expr.FlatExpr.{FlatExpr}
use Rattle.flat_design.specs.declared.stmt.FlatLeft.{FlatLeft}
use Rattle.flat_design.specs.declared.stmt.FlatArm.{FlatArm}
use Rattle.flat_design.specs.declared.stmt.FlatStmt.{FlatStmt}
use Rattle.flat_design.specs.declared.stmt.FlatStmt.TheVariants as s
use Rattle.flat_raw.specs.Assigned.{arm_layer, left_nets, all_nets}
use Rattle.flat_races.specs.Assigns.{nets_if, kind_layer, nets_by, arm_nets_by, option_nets_by}
use Rattle.flat_design.proofs.Folds as folds

pub nets_Block : (b : Bool) (x : FlatStmt) (body : List FlatStmt) → x ≡ s.Block body → nets_by b x ≡ all_nets (map (nets_by b) body)
unfolding nets_by
nets_Block b x body q = folds.at_Block (kind_layer b) arm_layer x body q

pub nets_Assign : (b : Bool) (x : FlatStmt) (left : List FlatLeft) (val : FlatExpr) (later : Bool) → x ≡ s.Assign left val later → nets_by b x ≡ nets_if b later (left_nets left)
unfolding nets_by
nets_Assign b x left val later q = folds.at_Assign (kind_layer b) arm_layer x left val later q

pub nets_If : (b : Bool) (x : FlatStmt) (test : FlatExpr) (a : FlatStmt) (other : Option FlatStmt) → x ≡ s.If test a other → nets_by b x ≡ nets_by b a ++ option_nets_by b other
unfolding nets_by
nets_If b x test a None q = folds.at_If_None (kind_layer b) arm_layer x test a q
nets_If b x test a (Some o) q = folds.at_If_Some (kind_layer b) arm_layer x test a o q

pub nets_Case : (b : Bool) (x : FlatStmt) (selector : FlatExpr) (arms : List FlatArm) (other : Option FlatStmt) → x ≡ s.Case selector arms other → nets_by b x ≡ all_nets (map (arm_nets_by b) arms) ++ option_nets_by b other
unfolding nets_by arm_nets_by
nets_Case b x selector arms None q = folds.at_Case_None (kind_layer b) arm_layer x selector arms q
nets_Case b x selector arms (Some o) q = folds.at_Case_Some (kind_layer b) arm_layer x selector arms o q

pub arm_is : (b : Bool) (x : FlatArm) → arm_nets_by b x ≡ nets_by b x.body
unfolding nets_by arm_nets_by
arm_is b x = folds.arm_is (kind_layer b) arm_layer x
