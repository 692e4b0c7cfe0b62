-- What each kind of statement drives and costs.
use Rattle.std.proofs.Common.{◌≡◌, ℕ, ◌+◌, ◌*◌, Bool, ◌||◌, List, map, sum, Option, Some, None, refl, sym, ◌∙◌, ap}
use Rattle.flat_design.specs.declared.net.Net.{Net}
use Rattle.flat_design.specs.declared.expr.FlatExpr.{FlatExpr}
use Rattle.flat_design.specs.declared.stmt.FlatLeft.{FlatLeft}
use Rattle.flat_design.specs.declared.stmt.FlatArm.{FlatArm}
use Rattle.flat_design.specs.declared.stmt.FlatStmt.{FlatStmt}
use Rattle.flat_design.specs.declared.stmt.FlatStmt.TheVariants as s
use Rattle.flat_design.specs.Bits.{Set, bits_in}
use Rattle.flat_design.specs.Flows.{left_drives}
use Rattle.flat_design.specs.Prices.{Load, ArmLoad, load, load_layer, arm_layer, price, drives_of_all, arms_drive, assign_cost, if_load, case_load}
use Rattle.flat_loads.specs.Parts.{arm_load, other_drives, other_cost, if_bits, case_bits, arm_cost}
use Rattle.flat_design.proofs.Folds as folds

pub load_Block : (nets : List Net) (x : FlatStmt) (body : List FlatStmt) → x ≡ s.Block body → load nets x ≡ record { drives = drives_of_all (map (load nets) body); cost = sum (map (λ l. l.cost) (map (load nets) body)) }
unfolding load
load_Block nets x body q = folds.at_Block (load_layer nets) (arm_layer nets) x body q

pub load_Assign : (nets : List Net) (x : FlatStmt) (left : List FlatLeft) (val : FlatExpr) (later : Bool) → x ≡ s.Assign left val later → load nets x ≡ record { drives = left_drives nets left; cost = assign_cost nets left val }
unfolding load
load_Assign nets x left val later q = folds.at_Assign (load_layer nets) (arm_layer nets) x left val later q

pub load_If : (nets : List Net) (x : FlatStmt) (test : FlatExpr) (a : FlatStmt) (other : Option FlatStmt) → x ≡ s.If test a other
    → load nets x ≡ record { drives = λ i. (load nets a).drives i || other_drives nets other i; cost = (price nets test).cost + (load nets a).cost + other_cost nets other + (3 * if_bits nets a other + (price nets test).size) }
unfolding load
load_If nets x test a None q = folds.at_If_None (load_layer nets) (arm_layer nets) x test a q
load_If nets x test a (Some b) q = folds.at_If_Some (load_layer nets) (arm_layer nets) x test a b q

pub load_Case : (nets : List Net) (x : FlatStmt) (selector : FlatExpr) (arms : List FlatArm) (other : Option FlatStmt) → x ≡ s.Case selector arms other
    → load nets x ≡ record { drives = λ i. arms_drive (map (arm_load nets) arms) i || other_drives nets other i; cost = (price nets selector).cost + sum (map (arm_cost (case_bits nets arms other)) (map (arm_load nets) arms)) + other_cost nets other }
unfolding load arm_load
load_Case nets x selector arms None q = folds.at_Case_None (load_layer nets) (arm_layer nets) x selector arms q
load_Case nets x selector arms (Some b) q = folds.at_Case_Some (load_layer nets) (arm_layer nets) x selector arms b q

pub arm_is : (nets : List Net) (x : FlatArm) → arm_load nets x ≡ arm_layer nets (record { labels = x.labels; body = load nets x.body })
unfolding load arm_load
arm_is nets x = folds.arm_is (load_layer nets) (arm_layer nets) x
