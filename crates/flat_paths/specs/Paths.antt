-- Paths through a statement: one number per `if` and `case` met, in their order: 0 or 1 for the first or the other branch of an `if`;
-- for a case the number of the arm from 0, or the number of its arms for the default or where no label matches.
use Rattle.std.specs.Prelude.{◌≡◌, ℕ, zero, suc, Bool, true, not, ◌||◌, List, [], ◌∷◌, map, Option, Some, None, if◌then◌else◌}
use Rattle.flat_design.specs.declared.net.Net.{Net}
use Rattle.flat_design.specs.declared.stmt.FlatStmt.{FlatStmt}
use Rattle.flat_design.specs.declared.stmt.FlatStmt.TheOpen.{FlatStmt-F, FlatArm-F}
use Rattle.flat_design.specs.declared.stmt.FlatStmt.TheFolds.{fold-FlatStmt}
use Rattle.flat_design.specs.Flows.{LabelTest, test_of, is_full, spread, left_fixes, flow}

-- what is left of a path after a statement; None where it is no path through it, or one that assigns the bit
abbrev pub Walk : Type 0
Walk = List ℕ → Option (List ℕ)

abbrev pub stop : Walk
stop path = None

abbrev pub go_on : Walk
go_on path = Some path

-- an assignment, which assigns the bit or not; `<=` doesn't count
abbrev pub walk_if : Bool → Walk
walk_if leaves path = if leaves then Some path else None

abbrev pub walk_rest : Walk → Option (List ℕ) → Option (List ℕ)
walk_rest w None = None
walk_rest w (Some path) = w path

-- one after the other
abbrev pub walk_all : List Walk → Walk
walk_all [] path = Some path
walk_all (w ∷ ws) path = walk_rest (walk_all ws) (w path)

-- the branch of a number, the last one for what is left over
abbrev pub walk_branch : List Walk → Walk → ℕ → Walk
walk_branch [] other zero path = other path
walk_branch [] other (suc n) path = None
walk_branch (w ∷ ws) other zero path = w path
walk_branch (w ∷ ws) other (suc n) path = walk_branch ws other n path

abbrev pub walk_choice : List Walk → Walk → Walk
walk_choice ws other [] = None
walk_choice ws other (n ∷ path) = walk_branch ws other n path

abbrev pub walk_other : Option Walk → Walk
walk_other None = go_on
walk_other (Some w) = w

-- an arm: the test of its labels, and its body
abbrev pub ArmWalk : Type 0
ArmWalk = LabelTest × Walk

abbrev pub walk_default : Bool → Option Walk → Walk
walk_default full None = if full then stop else go_on
walk_default full (Some w) = w

abbrev pub walk_layer : List Net → ℕ → FlatStmt-F Walk ArmWalk → Walk
walk_layer nets i (FlatStmt-F.Block body) = walk_all body
walk_layer nets i (FlatStmt-F.Assign left val later) = walk_if (later || not (left_fixes nets left i))
walk_layer nets i (FlatStmt-F.If test then_ else_) = walk_choice (then_ ∷ []) (walk_other else_)
walk_layer nets i (FlatStmt-F.Case selector arms other) = walk_choice (map (λ a. a.1) arms) (walk_default (is_full (spread selector) (map (λ a. a.0) arms)) other)

abbrev pub arm_layer : List Net → FlatArm-F Walk ArmWalk → ArmWalk
arm_layer nets a = (test_of nets a.labels, a.body)

unfoldable pub walk : List Net → ℕ → FlatStmt → Walk
walk nets i = fold-FlatStmt Walk ArmWalk (walk_layer nets i) (arm_layer nets)

-- a whole path through the statement, on which the bit isn't assigned
abbrev pub IsLeaving : List Net → ℕ → FlatStmt → List ℕ → Type 0
IsLeaving nets i s path = walk nets i s path ≡ Some []

-- such a path leaves the bit unassigned
abbrev pub PathLeaves : Type 0
PathLeaves = (nets : List Net) (i : ℕ) (s : FlatStmt) (path : List ℕ) → IsLeaving nets i s path → (flow nets s).leaves i ≡ true

-- and what is left unassigned is left so by a path
abbrev pub LeavesByPath : Type 0
LeavesByPath = (nets : List Net) (i : ℕ) (s : FlatStmt) → (flow nets s).leaves i ≡ true → (path : List ℕ) × IsLeaving nets i s path
