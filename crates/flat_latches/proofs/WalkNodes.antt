-- The walk over a statement, by its kind.
use Rattle.std.proofs.Common.{◌≡◌, ℕ, Bool, not, ◌||◌, List, [], ◌∷◌, map, Option, Some, None, refl, ◌∙◌, ap}
use Rattle.flat_design.specs.declared.net.Net.{Net}
use Rattle.flat_design.specs.declared.expr.FlatExpr.{FlatExpr}
use Rattle.flat_design.specs.declared.stmt.FlatLeft.{FlatLeft}
use Rattle.flat_design.specs.declared.stmt.FlatArm.{FlatArm}
use Rattle.flat_design.specs.declared.stmt.FlatStmt.{FlatStmt}
use Rattle.flat_design.specs.declared.stmt.FlatStmt.TheVariants as s
use Rattle.flat_design.specs.declared.stmt.FlatStmt.TheFolds.{fold-FlatArm}
use Rattle.flat_design.specs.Flows.{test_of, is_full, spread, left_fixes}
use Rattle.flat_paths.specs.Paths as w
use Rattle.flat_paths.specs.Paths.{Walk, ArmWalk, walk, walk_layer, walk_all, walk_if, walk_choice, walk_default}
use Rattle.flat_flows.specs.Arms.{tests_of, is_closed}
use Rattle.flat_latches.specs.Latches.{other_walk, default_walk, arm_walks}
use Rattle.flat_design.proofs.Folds as folds

unfoldable pub arm_walk : List Net → ℕ → FlatArm → ArmWalk
arm_walk nets i = fold-FlatArm Walk ArmWalk (walk_layer nets i) (w.arm_layer nets)

arm_is : (nets : List Net) (i : ℕ) (a : FlatArm) → arm_walk nets i a ≡ (test_of nets a.labels, walk nets i a.body)
unfolding arm_walk walk
arm_is nets i a = folds.arm_is (walk_layer nets i) (w.arm_layer nets) a

walks_are : (nets : List Net) (i : ℕ) (arms : List FlatArm) → map (λ a. a.1) (map (arm_walk nets i) arms) ≡ arm_walks nets i arms
walks_are nets i [] = refl
walks_are nets i (a ∷ arms) = λ j. (arm_is nets i a j).1 ∷ walks_are nets i arms j

tests_are : (nets : List Net) (i : ℕ) (arms : List FlatArm) → map (λ a. a.0) (map (arm_walk nets i) arms) ≡ tests_of nets arms
tests_are nets i [] = refl
tests_are nets i (a ∷ arms) = λ j. (arm_is nets i a j).0 ∷ tests_are nets i arms j

pub walk_Block : (nets : List Net) (i : ℕ) (x : FlatStmt) (body : List FlatStmt) → x ≡ s.Block body → walk nets i x ≡ walk_all (map (walk nets i) body)
unfolding walk
walk_Block nets i x body q = folds.at_Block (walk_layer nets i) (w.arm_layer nets) x body q

pub walk_Assign : (nets : List Net) (i : ℕ) (x : FlatStmt) (left : List FlatLeft) (val : FlatExpr) (later : Bool) → x ≡ s.Assign left val later → walk nets i x ≡ walk_if (later || not (left_fixes nets left i))
unfolding walk
walk_Assign nets i x left val later q = folds.at_Assign (walk_layer nets i) (w.arm_layer nets) x left val later q

pub walk_If : (nets : List Net) (i : ℕ) (x : FlatStmt) (test : FlatExpr) (a : FlatStmt) (other : Option FlatStmt) → x ≡ s.If test a other → walk nets i x ≡ walk_choice (walk nets i a ∷ []) (other_walk nets i other)
unfolding walk
walk_If nets i x test a None q = folds.at_If_None (walk_layer nets i) (w.arm_layer nets) x test a q
walk_If nets i x test a (Some b) q = folds.at_If_Some (walk_layer nets i) (w.arm_layer nets) x test a b q

pub walk_Case : (nets : List Net) (i : ℕ) (x : FlatStmt) (selector : FlatExpr) (arms : List FlatArm) (other : Option FlatStmt) → x ≡ s.Case selector arms other
    → walk nets i x ≡ walk_choice (arm_walks nets i arms) (default_walk nets i (is_closed nets selector arms other) other)
unfolding walk arm_walk
walk_Case nets i x selector arms None q =
    folds.at_Case_None (walk_layer nets i) (w.arm_layer nets) x selector arms q
    ∙ (λ j. walk_choice (walks_are nets i arms j) (walk_default (is_full (spread selector) (tests_are nets i arms j)) None))
walk_Case nets i x selector arms (Some b) q =
    folds.at_Case_Some (walk_layer nets i) (w.arm_layer nets) x selector arms b q ∙ ap (λ ws. walk_choice ws (walk nets i b)) (walks_are nets i arms)
