-- Which event of a process is its clock and which its asynchronous reset (IEEE 1364-2005, 9.7.1 and 9.7.2; that the outermost `if`
-- tells the reset is the project's own).
use Rattle.std.specs.Prelude.{ℕ, Bool, false, List, [], ◌∷◌, Option, Some, None, ◌==◌, if◌then◌else◌}
use Rattle.flat_design.specs.declared.expr.FlatExpr.{FlatExpr}
use Rattle.flat_design.specs.declared.stmt.FlatStmt.{FlatStmt}
use Rattle.flat_design.specs.declared.stmt.FlatStmt.TheOpen.{FlatStmt-F, FlatArm-F}
use Rattle.flat_design.specs.declared.stmt.FlatStmt.TheFolds.{fold-FlatStmt}
use Rattle.flat_design.specs.declared.item.FlatEdge.{FlatEdge}
use Rattle.flat_design.specs.declared.item.FlatEdge.TheVariants as E
use Rattle.flat_design.specs.declared.item.FlatEvent.{FlatEvent}
use Rattle.flat_design.specs.declared.item.FlatItem.{FlatItem}
use Rattle.flat_design.specs.declared.item.FlatItem.TheVariants as I
use Rattle.flat_ties.specs.Shapes.{whole_net, inverted_net}
use Rattle.flat_clocks.specs.declared.role.Roles.{Roles}

abbrev pub is_net : ℕ → Option ℕ → Bool
is_net n None = false
is_net n (Some m) = m == n

-- an expression tests an event: it is the event's net where that rises, and its inversion where it falls
abbrev pub tests_edge : FlatEdge → ℕ → FlatExpr → Bool
tests_edge E.Rising n test = is_net n (whole_net test)
tests_edge E.Falling n test = is_net n (inverted_net test)
tests_edge E.Either n test = false

-- what a body tests, event by event
abbrev pub Test : Type 0
Test = FlatEvent → Bool

abbrev pub no_test : Test
no_test e = false

abbrev pub only_test : List Test → Test
only_test [] = no_test
only_test (t ∷ []) = t
only_test (t ∷ u ∷ tests) = no_test

abbrev pub test_layer : FlatStmt-F Test Test → Test
test_layer (FlatStmt-F.Block body) = only_test body
test_layer (FlatStmt-F.If test then_ else_) = λ e. tests_edge e.edge e.net test
test_layer _ = no_test

abbrev pub arm_layer : FlatArm-F Test Test → Test
arm_layer a = a.body

-- the outermost `if` of a body tests an event: the body is that `if`, or a block that has it alone
unfoldable pub outermost_tests : FlatStmt → Test
outermost_tests = fold-FlatStmt Test Test test_layer arm_layer

abbrev pub no_roles : Roles
no_roles = record { clock = None; reset = None }

-- a single event is the clock; of two, the one that the outermost `if` tests is the reset, the first of them where it tests both, and the
-- other is the clock
abbrev pub roles_of : List FlatEvent → FlatStmt → Roles
roles_of [] body = no_roles
roles_of (e ∷ []) body = record { clock = Some e; reset = None }
roles_of (e ∷ f ∷ []) body = if outermost_tests body e then record { clock = Some f; reset = Some e } else (if outermost_tests body f then record { clock = Some e; reset = Some f } else no_roles)
roles_of (e ∷ f ∷ g ∷ events) body = no_roles

abbrev pub item_roles : FlatItem → Roles
item_roles (I.Assign place targets left val connection) = no_roles
item_roles (I.Comb place targets body) = no_roles
item_roles (I.Clocked place targets events body) = roles_of events body
