-- What the outermost `if` of a body tests, by the kind of statement.
use Rattle.std.proofs.Common.{◌≡◌, List, map, Option, Some, None, sym, ◌∙◌}
use Rattle.flat_design.specs.declared.expr.FlatExpr.{FlatExpr}
use Rattle.flat_design.specs.declared.stmt.FlatArm.{FlatArm}
use Rattle.flat_design.specs.declared.stmt.FlatStmt.{FlatStmt, out-FlatStmt, roll-out-FlatStmt, roll-FlatStmt}
use Rattle.flat_design.specs.declared.stmt.FlatStmt.TheVariants as s
use Rattle.flat_design.specs.declared.stmt.FlatStmt.TheOpen.{FlatStmt-F}
use Rattle.flat_design.proofs.Folds as folds
use Rattle.flat_clocks.specs.Roles.{outermost_tests, only_test, tests_edge, no_test, test_layer, arm_layer}

pub tests_Block : (x : FlatStmt) (body : List FlatStmt) → x ≡ s.Block body → outermost_tests x ≡ only_test (map outermost_tests body)
unfolding outermost_tests
tests_Block x body q = folds.at_Block test_layer arm_layer x body q

pub tests_If : (x : FlatStmt) (test : FlatExpr) (a : FlatStmt) (other : Option FlatStmt) → x ≡ s.If test a other → outermost_tests x ≡ (λ e. tests_edge e.edge e.net test)
unfolding outermost_tests
tests_If x test a None q = folds.at_If_None test_layer arm_layer x test a q
tests_If x test a (Some b) q = folds.at_If_Some test_layer arm_layer x test a b q

pub no_tests : (x : FlatStmt) → ((body : List FlatStmt) → x ≡ s.Block body → ⊥) → ((test : FlatExpr) (a : FlatStmt) (other : Option FlatStmt) → x ≡ s.If test a other → ⊥) → outermost_tests x ≡ no_test
unfolding outermost_tests
no_tests x h k = by (out-FlatStmt x) (sym (roll-out-FlatStmt x)) where
  by : (y : FlatStmt-F FlatStmt FlatArm) → x ≡ roll-FlatStmt y → outermost_tests x ≡ no_test
  by (FlatStmt-F.Block body) q = absurd (h body (q ∙ s.rolls-Block body))
  by (FlatStmt-F.Assign left val later) q = folds.at_Assign test_layer arm_layer x left val later (q ∙ s.rolls-Assign left val later)
  by (FlatStmt-F.If test a other) q = absurd (k test a other (q ∙ s.rolls-If test a other))
  by (FlatStmt-F.Case selector arms None) q = folds.at_Case_None test_layer arm_layer x selector arms (q ∙ s.rolls-Case selector arms None)
  by (FlatStmt-F.Case selector arms (Some o)) q = folds.at_Case_Some test_layer arm_layer x selector arms o (q ∙ s.rolls-Case selector arms (Some o))
