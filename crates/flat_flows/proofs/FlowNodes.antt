-- The flow of a statement, by its kind.
use Rattle.std.proofs.Common.{◌≡◌, Bool, List, [], ◌∷◌, map, Option, Some, None, refl, ◌∙◌, ap}
use Rattle.std.specs.Prelude.{if◌then◌else◌}
use Rattle.flat_design.specs.declared.net.Net.{Net}
use Rattle.flat_design.specs.declared.expr.FlatExpr.{FlatExpr}
use Rattle.flat_design.specs.declared.stmt.FlatLeft.{FlatLeft}
use Rattle.flat_design.specs.declared.stmt.FlatArm.{FlatArm}
use Rattle.flat_design.specs.declared.stmt.FlatStmt.{FlatStmt}
use Rattle.flat_design.specs.declared.stmt.FlatStmt.TheVariants as s
use Rattle.flat_design.specs.declared.stmt.FlatStmt.TheFolds.{fold-FlatArm}
use Rattle.flat_design.specs.Reads.{reads}
use Rattle.flat_design.specs.Flows as f
use Rattle.flat_design.specs.Flows.{Flow, ArmFlow, flow, flow_layer, flow_arms, assign_flow, all_before, before, either, reading, label_reads, test_of, is_full, spread, no_path, idle}
use Rattle.flat_flows.specs.Arms.{tests_of, other_flow, arms_before, is_closed, default_flow}
use Rattle.flat_design.proofs.Folds as folds

unfoldable pub arm_flow : List Net → FlatArm → ArmFlow
arm_flow nets = fold-FlatArm Flow ArmFlow (flow_layer nets) (f.arm_layer nets)

arm_is : (nets : List Net) (a : FlatArm) → arm_flow nets a ≡ record { reads = label_reads nets a.labels; test = test_of nets a.labels; body = flow nets a.body }
unfolding arm_flow flow
arm_is nets a = folds.arm_is (flow_layer nets) (f.arm_layer nets) a

arms_are : (nets : List Net) (arms : List FlatArm) (g : Flow) → flow_arms (map (arm_flow nets) arms) g ≡ arms_before nets arms g
arms_are nets [] g = refl
arms_are nets (a ∷ arms) g = λ i. before (reading (arm_is nets a i).reads) (either (arm_is nets a i).body (arms_are nets arms g i))

tests_are : (nets : List Net) (arms : List FlatArm) → map (λ a. a.test) (map (arm_flow nets) arms) ≡ tests_of nets arms
tests_are nets [] = refl
tests_are nets (a ∷ arms) = λ i. (arm_is nets a i).test ∷ tests_are nets arms i

pub flow_Block : (nets : List Net) (x : FlatStmt) (body : List FlatStmt) → x ≡ s.Block body → flow nets x ≡ all_before (map (flow nets) body)
unfolding flow
flow_Block nets x body q = folds.at_Block (flow_layer nets) (f.arm_layer nets) x body q

pub flow_Assign : (nets : List Net) (x : FlatStmt) (left : List FlatLeft) (val : FlatExpr) (later : Bool) → x ≡ s.Assign left val later → flow nets x ≡ assign_flow nets left val later
unfolding flow
flow_Assign nets x left val later q = folds.at_Assign (flow_layer nets) (f.arm_layer nets) x left val later q

pub flow_If : (nets : List Net) (x : FlatStmt) (test : FlatExpr) (a : FlatStmt) (other : Option FlatStmt) → x ≡ s.If test a other → flow nets x ≡ before (reading (reads nets test)) (either (flow nets a) (other_flow nets other))
unfolding flow
flow_If nets x test a None q = folds.at_If_None (flow_layer nets) (f.arm_layer nets) x test a q
flow_If nets x test a (Some b) q = folds.at_If_Some (flow_layer nets) (f.arm_layer nets) x test a b q

pub flow_Case : (nets : List Net) (x : FlatStmt) (selector : FlatExpr) (arms : List FlatArm) (other : Option FlatStmt) → x ≡ s.Case selector arms other
    → flow nets x ≡ before (reading (reads nets selector)) (arms_before nets arms (default_flow nets (is_closed nets selector arms other) other))
unfolding flow arm_flow
flow_Case nets x selector arms None q =
    folds.at_Case_None (flow_layer nets) (f.arm_layer nets) x selector arms q
    ∙ ap (before (reading (reads nets selector))) (ap (λ tests. flow_arms (map (arm_flow nets) arms) (if is_full (spread selector) tests then no_path else idle)) (tests_are nets arms) ∙ arms_are nets arms (default_flow nets (is_closed nets selector arms None) None))
flow_Case nets x selector arms (Some b) q =
    folds.at_Case_Some (flow_layer nets) (f.arm_layer nets) x selector arms b q ∙ ap (before (reading (reads nets selector))) (arms_are nets arms (flow nets b))
