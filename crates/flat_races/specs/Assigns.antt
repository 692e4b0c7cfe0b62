-- The nets that a statement assigns by each kind of procedural assignment (IEEE 1364-2005, 9.2): blocking ones, by `=`, and
-- nonblocking ones, by `<=`.
use Rattle.std.specs.Prelude.{ℕ, Bool, true, false, List, [], ◌++◌, Option, Some, None, if◌then◌else◌}
use Rattle.flat_design.specs.declared.stmt.FlatArm.{FlatArm}
use Rattle.flat_design.specs.declared.stmt.FlatStmt.{FlatStmt}
use Rattle.flat_design.specs.declared.stmt.FlatStmt.TheOpen.{FlatStmt-F}
use Rattle.flat_design.specs.declared.stmt.FlatStmt.TheFolds.{fold-FlatStmt, fold-FlatArm}
use Rattle.flat_raw.specs.Assigned.{left_nets, all_nets, other_nets, arm_layer}

-- nonblocking ones, or blocking ones
abbrev pub nets_if : Bool → Bool → List ℕ → List ℕ
nets_if nonblocking later nets = if nonblocking then (if later then nets else []) else (if later then [] else nets)

abbrev pub kind_layer : Bool → FlatStmt-F (List ℕ) (List ℕ) → List ℕ
kind_layer nonblocking (FlatStmt-F.Block body) = all_nets body
kind_layer nonblocking (FlatStmt-F.Assign left val later) = nets_if nonblocking later (left_nets left)
kind_layer nonblocking (FlatStmt-F.If test then_ else_) = then_ ++ other_nets else_
kind_layer nonblocking (FlatStmt-F.Case selector arms other) = all_nets arms ++ other_nets other

-- in the order of the text, each as often as it stands there
unfoldable pub nets_by : Bool → FlatStmt → List ℕ
nets_by nonblocking = fold-FlatStmt (List ℕ) (List ℕ) (kind_layer nonblocking) arm_layer

unfoldable pub arm_nets_by : Bool → FlatArm → List ℕ
arm_nets_by nonblocking = fold-FlatArm (List ℕ) (List ℕ) (kind_layer nonblocking) arm_layer

abbrev pub option_nets_by : Bool → Option FlatStmt → List ℕ
option_nets_by nonblocking None = []
option_nets_by nonblocking (Some s) = nets_by nonblocking s

abbrev pub nonblocking_nets : FlatStmt → List ℕ
nonblocking_nets s = nets_by true s

abbrev pub blocking_nets : FlatStmt → List ℕ
blocking_nets s = nets_by false s
