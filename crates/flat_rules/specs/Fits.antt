-- Statements and items whose nets are there and whose expressions and left sides have the sizes and signs of the rules.
use Rattle.std.specs.Prelude.{ℕ, ◌+◌, Bool, true, false, ◌&&◌, ◌||◌, ◌==◌, nat_le, List, [], ◌∷◌, ◌++◌, length, Option, Some, None}
use Rattle.std.specs.List.{list_all}
use Rattle.flat_design.specs.declared.net.Net.{Net}
use Rattle.flat_design.specs.declared.expr.FlatExpr.{FlatExpr}
use Rattle.flat_design.specs.declared.stmt.FlatLeft.{FlatLeft}
use Rattle.flat_design.specs.declared.stmt.FlatLabel.{FlatLabel}
use Rattle.flat_design.specs.declared.stmt.FlatArm.{FlatArm}
use Rattle.flat_design.specs.declared.stmt.FlatStmt.{FlatStmt}
use Rattle.flat_design.specs.declared.stmt.FlatStmt.TheOpen.{FlatStmt-F, FlatArm-F}
use Rattle.flat_design.specs.declared.stmt.FlatStmt.TheFolds.{fold-FlatStmt, fold-FlatArm}
use Rattle.flat_design.specs.declared.item.FlatEvent.{FlatEvent}
use Rattle.flat_design.specs.declared.item.FlatItem.{FlatItem}
use Rattle.flat_design.specs.declared.item.FlatItem.TheVariants as I
use Rattle.flat_design.specs.Bits.{net_at}
use Rattle.flat_design.specs.Statements.{left_size}
use Rattle.flat_design.specs.Flows.{is_fixed}
use Rattle.flat_rules.specs.Rules.{rules, obeys, select_rule, is_net, widest}

-- a part of a left side: the whole net, or a select of it
abbrev pub place_fits : List Net → Net → ℕ → Option FlatExpr → Bool
place_fits nets net width None = width == net.width
place_fits nets net width (Some index) = select_rule net width (rules nets index)

abbrev pub part_fits : List Net → FlatLeft → Bool
part_fits nets l = is_net nets l.net && place_fits nets (net_at nets l.net) l.width l.index

-- a left side of at least one bit, with a value of its size
abbrev pub assign_fits : List Net → List FlatLeft → FlatExpr → Bool
assign_fits nets left val = list_all (part_fits nets) left && (obeys nets val && (val.size == left_size left))

-- a label at the size of the selector, with one entry a bit that tells whether it counts
abbrev pub label_fits : List Net → ℕ → FlatLabel → Bool
label_fits nets size l = obeys nets l.value && ((l.value.size == size) && (length l.care == size))

-- an arm, by the size of the selector
abbrev pub ArmFits : Type 0
ArmFits = ℕ → Bool

abbrev pub other_fits : Option Bool → Bool
other_fits None = true
other_fits (Some b) = b

abbrev pub stmt_layer : List Net → FlatStmt-F Bool ArmFits → Bool
stmt_layer nets (FlatStmt-F.Block body) = list_all (λ b. b) body
stmt_layer nets (FlatStmt-F.Assign left val later) = assign_fits nets left val
stmt_layer nets (FlatStmt-F.If test then_ else_) = obeys nets test && (then_ && other_fits else_)
stmt_layer nets (FlatStmt-F.Case selector arms other) = obeys nets selector && (list_all (λ a. a selector.size) arms && other_fits other)

abbrev pub arm_layer : List Net → FlatArm-F Bool ArmFits → ArmFits
arm_layer nets a size = list_all (label_fits nets size) a.labels && a.body

unfoldable pub stmt_fits : List Net → FlatStmt → Bool
stmt_fits nets = fold-FlatStmt Bool ArmFits (stmt_layer nets) (arm_layer nets)

unfoldable pub arm_fits : List Net → FlatArm → ArmFits
arm_fits nets = fold-FlatArm Bool ArmFits (stmt_layer nets) (arm_layer nets)

abbrev pub option_fits : List Net → Option FlatStmt → Bool
option_fits nets None = true
option_fits nets (Some s) = stmt_fits nets s

abbrev pub is_some_event : List FlatEvent → Bool
is_some_event [] = false
is_some_event (e ∷ events) = true

-- each index in the left side of an assignment is a `Constant`; a clocked item has an event
abbrev pub item_fits : List Net → FlatItem → Bool
item_fits nets (I.Assign place targets left val connection) = assign_fits nets left val && list_all (λ l. is_fixed nets l.index) left
item_fits nets (I.Comb place targets body) = stmt_fits nets body
item_fits nets (I.Clocked place targets events body) = stmt_fits nets body && (is_some_event events && list_all (λ e. is_net nets e.net) events)
