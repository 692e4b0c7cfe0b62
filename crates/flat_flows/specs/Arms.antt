-- The branches of a statement by their trees.
use Rattle.std.specs.Prelude.{List, [], ◌∷◌, Bool, false, map, Option, Some, None, if◌then◌else◌}
use Rattle.flat_design.specs.declared.net.Net.{Net}
use Rattle.flat_design.specs.declared.expr.FlatExpr.{FlatExpr}
use Rattle.flat_design.specs.declared.stmt.FlatArm.{FlatArm}
use Rattle.flat_design.specs.declared.stmt.FlatStmt.{FlatStmt}
use Rattle.flat_design.specs.Flows.{LabelTest, Flow, test_of, flow, label_reads, before, either, reading, idle, no_path, is_full, spread}

-- the tests of the arms of a case
abbrev pub tests_of : List Net → List FlatArm → List LabelTest
tests_of nets arms = map (λ a. test_of nets a.labels) arms

-- the second branch of an `if`
abbrev pub other_flow : List Net → Option FlatStmt → Flow
other_flow nets None = idle
other_flow nets (Some s) = flow nets s

-- an arm before what is done where it doesn't match
abbrev pub arm_before : List Net → FlatArm → Flow → Flow
arm_before nets a rest = before (reading (label_reads nets a.labels)) (either (flow nets a.body) rest)

abbrev pub arms_before : List Net → List FlatArm → Flow → Flow
arms_before nets [] rest = rest
arms_before nets (a ∷ arms) rest = arm_before nets a (arms_before nets arms rest)

-- whether no path goes past the arms: there is no default, and the case is full
abbrev pub is_closed : List Net → FlatExpr → List FlatArm → Option FlatStmt → Bool
is_closed nets selector arms None = is_full (spread selector) (tests_of nets arms)
is_closed nets selector arms (Some s) = false

-- the default, or what stands in its place
abbrev pub default_flow : List Net → Bool → Option FlatStmt → Flow
default_flow nets closed None = if closed then no_path else idle
default_flow nets closed (Some s) = flow nets s
