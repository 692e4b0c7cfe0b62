-- The nets that items assign.
use Rattle.std.specs.Prelude.{◌≡◌, ◌<◌, ◌+◌, ℕ, Bool, List, [], ◌∷◌, ◌++◌, map, length, Option, Some, None, slice_index, nat_lt, true}
use Rattle.std.specs.List.{list_all}
use Rattle.flat_design.specs.declared.stmt.FlatLeft.{FlatLeft}
use Rattle.flat_design.specs.declared.stmt.FlatArm.{FlatArm}
use Rattle.flat_design.specs.declared.stmt.FlatStmt.{FlatStmt}
use Rattle.flat_design.specs.declared.stmt.FlatStmt.TheOpen.{FlatStmt-F, FlatArm-F}
use Rattle.flat_design.specs.declared.stmt.FlatStmt.TheFolds.{fold-FlatStmt, fold-FlatArm}
use Rattle.flat_design.specs.declared.item.FlatItem.{FlatItem}
use Rattle.flat_design.specs.declared.item.FlatItem.TheVariants as I
use Rattle.flat_orders.specs.Orders.{among}

abbrev pub left_nets : List FlatLeft → List ℕ
left_nets left = map (λ l. l.net) left

abbrev pub all_nets : List (List ℕ) → List ℕ
all_nets [] = []
all_nets (ns ∷ nss) = ns ++ all_nets nss

abbrev pub other_nets : Option (List ℕ) → List ℕ
other_nets None = []
other_nets (Some ns) = ns

abbrev pub stmt_layer : FlatStmt-F (List ℕ) (List ℕ) → List ℕ
stmt_layer (FlatStmt-F.Block body) = all_nets body
stmt_layer (FlatStmt-F.Assign left val later) = left_nets left
stmt_layer (FlatStmt-F.If test then_ else_) = then_ ++ other_nets else_
stmt_layer (FlatStmt-F.Case selector arms other) = all_nets arms ++ other_nets other

abbrev pub arm_layer : FlatArm-F (List ℕ) (List ℕ) → List ℕ
arm_layer a = a.body

-- the nets that a statement assigns, in the order of the text, each as often as it stands there
unfoldable pub stmt_nets : FlatStmt → List ℕ
stmt_nets = fold-FlatStmt (List ℕ) (List ℕ) stmt_layer arm_layer

unfoldable pub arm_nets : FlatArm → List ℕ
arm_nets = fold-FlatArm (List ℕ) (List ℕ) stmt_layer arm_layer

abbrev pub option_nets : Option FlatStmt → List ℕ
option_nets None = []
option_nets (Some s) = stmt_nets s

abbrev pub item_nets : FlatItem → List ℕ
item_nets (I.Assign place targets left val connection) = left_nets left
item_nets (I.Comb place targets body) = stmt_nets body
item_nets (I.Clocked place targets events body) = stmt_nets body

abbrev pub clocked_item_nets : FlatItem → List ℕ
clocked_item_nets (I.Assign place targets left val connection) = []
clocked_item_nets (I.Comb place targets body) = []
clocked_item_nets (I.Clocked place targets events body) = stmt_nets body

-- the nets that the items assign, and those that the clocked ones assign
abbrev pub assigned_nets : List FlatItem → List ℕ
assigned_nets items = all_nets (map item_nets items)

abbrev pub clocked_nets : List FlatItem → List ℕ
clocked_nets items = all_nets (map clocked_item_nets items)

-- the targets of an item: the nets that it assigns, rising; each is one of so many nets
pub record AreTargets (bound : ℕ) (targets nets : List ℕ) : Type 0 where
  pub inside : list_all (λ n. nat_lt n bound) nets ≡ true
  pub rising : (j : ℕ) → j + 1 < length targets → slice_index targets j < slice_index targets (j + 1)
  pub same : (n : ℕ) → among n targets ≡ among n nets
