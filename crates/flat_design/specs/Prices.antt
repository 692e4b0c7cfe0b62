-- The cost of a design: a bound on the nodes that its circuit takes (this project's own).
use Rattle.std.specs.Prelude.{ℕ, ◌+◌, ◌*◌, Bool, true, false, ◌&&◌, ◌||◌, ◌==◌, min, if◌then◌else◌, List, [], ◌∷◌, map, sum, length, Option, Some, None}
use Rattle.std.specs.List.{list_all}
use Rattle.flat_design.specs.declared.net.Net.{Net}
use Rattle.flat_design.specs.declared.net.NetKind.{NetKind}
use Rattle.flat_design.specs.declared.net.NetKind.TheVariants as K
use Rattle.flat_design.specs.declared.expr.FlatExpr.{FlatExpr}
use Rattle.flat_design.specs.declared.expr.FlatUnary.{FlatUnary}
use Rattle.flat_design.specs.declared.expr.FlatUnary.TheVariants as U
use Rattle.flat_design.specs.declared.expr.FlatBinary.{FlatBinary}
use Rattle.flat_design.specs.declared.expr.FlatBinary.TheVariants as B
use Rattle.flat_design.specs.declared.expr.FlatNode.TheOpen.{FlatNode-F}
use Rattle.flat_design.specs.declared.expr.FlatNode.TheFolds.{fold-FlatExpr}
use Rattle.flat_design.specs.declared.stmt.FlatLeft.{FlatLeft}
use Rattle.flat_design.specs.declared.stmt.FlatStmt.{FlatStmt}
use Rattle.flat_design.specs.declared.stmt.FlatStmt.TheOpen.{FlatStmt-F, FlatArm-F}
use Rattle.flat_design.specs.declared.stmt.FlatStmt.TheFolds.{fold-FlatStmt}
use Rattle.flat_design.specs.declared.item.FlatItem.{FlatItem}
use Rattle.flat_design.specs.declared.item.FlatItem.TheVariants as I
use Rattle.flat_design.specs.Bits.{Set, net_at, bits_in, count_below}
use Rattle.flat_design.specs.Reads.{no_bits}
use Rattle.flat_design.specs.Flows.{left_drives}

-- an expression: its size, whether it is constant (it names no net), and its cost, which is 0 where it is constant
pub record Price : Type 0 where
  pub size : ℕ
  pub constant : Bool
  pub cost : ℕ

abbrev pub priced : ℕ → Bool → ℕ → Price
priced size constant cost = record { size = size; constant = constant; cost = if constant then 0 else cost }

-- at w bits
abbrev pub unary_cost : FlatUnary → ℕ → ℕ
unary_cost U.Plus w = 0
unary_cost U.Minus w = 10 * w
unary_cost U.Not w = 0
unary_cost _ w = 3 * w

-- a shift of w bits by an amount of a bits
abbrev pub shift_cost : ℕ → Price → ℕ
shift_cost w amount = if amount.constant then 0 else 3 * w * min amount.size 11 + amount.size + w

abbrev pub binary_cost : FlatBinary → Price → Price → ℕ
binary_cost B.Add a b = 10 * a.size
binary_cost B.Sub a b = 10 * a.size
binary_cost B.Mul a b = 12 * a.size * a.size
binary_cost B.ShiftLeft a b = shift_cost a.size b
binary_cost B.ShiftRight a b = shift_cost a.size b
binary_cost B.ShiftSigned a b = shift_cost a.size b
binary_cost B.Less a b = 10 * a.size
binary_cost B.LessEqual a b = 10 * a.size
binary_cost B.Greater a b = 10 * a.size
binary_cost B.GreaterEqual a b = 10 * a.size
binary_cost B.Equal a b = 4 * a.size
binary_cost B.NotEqual a b = 4 * a.size
binary_cost B.And a b = a.size
binary_cost B.Xor a b = 3 * a.size
binary_cost B.Xnor a b = 3 * a.size
binary_cost B.Or a b = a.size
binary_cost B.LogicalAnd a b = 3 * (a.size + b.size)
binary_cost B.LogicalOr a b = 3 * (a.size + b.size)

-- a select that is read, of a net of n bits
abbrev pub read_cost : ℕ → Price → ℕ
read_cost n index = if index.constant then 0 else 4 * n * min (index.size + 1) 12 + 12 * (index.size + 1)

-- a select of so many bits that is written
abbrev pub write_cost : ℕ → ℕ → Price → ℕ
write_cost n width index =
    if index.constant then 0
    else if width == 1 then n * (index.size + 4) + 12 * (index.size + 1)
    else 8 * n * min (index.size + 1) 12 + 4 * n + 12 * (index.size + 1)

abbrev pub cost_of_all : List Price → ℕ
cost_of_all parts = sum (map (λ p. p.cost) parts)

abbrev pub node_price : List Net → FlatNode-F (ℕ → Price) Price → ℕ → Price
node_price nets (FlatNode-F.Constant bits) size = priced size true 0
node_price nets (FlatNode-F.Net n) size = priced size false 0
node_price nets (FlatNode-F.Select n index width) size = priced size false (index.cost + read_cost (net_at nets n).width index)
node_price nets (FlatNode-F.Unary op a) size = priced size a.constant (a.cost + unary_cost op a.size)
node_price nets (FlatNode-F.Binary op a b) size = priced size (a.constant && b.constant) (a.cost + b.cost + binary_cost op a b)
node_price nets (FlatNode-F.Choice test then_ else_) size = priced size (test.constant && (then_.constant && else_.constant)) (test.cost + then_.cost + else_.cost + (3 * size + test.size))
node_price nets (FlatNode-F.Join count parts) size = priced size (list_all (λ p. p.constant) parts) (cost_of_all parts)
node_price nets (FlatNode-F.Resize a by_sign) size = priced size a.constant a.cost

unfoldable pub price : List Net → FlatExpr → Price
price nets = fold-FlatExpr (ℕ → Price) Price (node_price nets) (λ e. e.node e.size)

-- ---- statements

-- a statement: the bits that it drives, and its cost
pub record Load : Type 0 where
  pub drives : Set
  pub cost : ℕ

-- an arm: how many bits its labels have together, how many labels it has, what they cost, and its body
pub record ArmLoad : Type 0 where
  pub bits : ℕ
  pub labels : ℕ
  pub cost : ℕ
  pub body : Load

abbrev pub index_cost : List Net → Net → ℕ → Option FlatExpr → ℕ
index_cost nets net width None = 0
index_cost nets net width (Some index) = (price nets index).cost + write_cost net.width width (price nets index)

abbrev pub part_cost : List Net → FlatLeft → ℕ
part_cost nets l = index_cost nets (net_at nets l.net) l.width l.index

abbrev pub left_cost : List Net → List FlatLeft → ℕ
left_cost nets left = sum (map (part_cost nets) left)

abbrev pub assign_cost : List Net → List FlatLeft → FlatExpr → ℕ
assign_cost nets left val = left_cost nets left + (price nets val).cost

abbrev pub drives_of_all : List Load → Set
drives_of_all [] = no_bits
drives_of_all (l ∷ loads) = λ i. l.drives i || drives_of_all loads i

abbrev pub drives_of_other : Option Load → Set
drives_of_other None = no_bits
drives_of_other (Some l) = l.drives

abbrev pub cost_of_other : Option Load → ℕ
cost_of_other None = 0
cost_of_other (Some l) = l.cost

abbrev pub arms_drive : List ArmLoad → Set
arms_drive [] = no_bits
arms_drive (a ∷ arms) = λ i. a.body.drives i || arms_drive arms i

-- an `if` of b bits; a case of b bits, at each label
abbrev pub if_load : ℕ → Price → Load → Option Load → Load
if_load total test then_ else_ = record { drives = both; cost = test.cost + then_.cost + cost_of_other else_ + (3 * count_below total both + test.size) } where
  both : Set
  both i = then_.drives i || drives_of_other else_ i

abbrev pub case_load : ℕ → Price → List ArmLoad → Option Load → Load
case_load total selector arms other = record { drives = every; cost = selector.cost + sum (map (λ a. a.cost + a.body.cost + (4 * a.bits + 3 * (a.labels * count_below total every))) arms) + cost_of_other other } where
  every : Set
  every i = arms_drive arms i || drives_of_other other i

abbrev pub load_layer : List Net → FlatStmt-F Load ArmLoad → Load
load_layer nets (FlatStmt-F.Block body) = record { drives = drives_of_all body; cost = sum (map (λ l. l.cost) body) }
load_layer nets (FlatStmt-F.Assign left val later) = record { drives = left_drives nets left; cost = assign_cost nets left val }
load_layer nets (FlatStmt-F.If test then_ else_) = if_load (bits_in nets) (price nets test) then_ else_
load_layer nets (FlatStmt-F.Case selector arms other) = case_load (bits_in nets) (price nets selector) arms other

abbrev pub arm_layer : List Net → FlatArm-F Load ArmLoad → ArmLoad
arm_layer nets a = record { bits = sum (map (λ l. (price nets l.value).size) a.labels); labels = length a.labels; cost = sum (map (λ l. (price nets l.value).cost) a.labels); body = a.body }

unfoldable pub load : List Net → FlatStmt → Load
load nets = fold-FlatStmt Load ArmLoad (load_layer nets) (arm_layer nets)

-- ---- designs

unfoldable pub item_cost : List Net → FlatItem → ℕ
item_cost nets (I.Assign place targets left val connection) = assign_cost nets left val
item_cost nets (I.Comb place targets body) = (load nets body).cost
item_cost nets (I.Clocked place targets events body) = (load nets body).cost

-- each bit of an input, a hidden input and a register
abbrev pub is_source : NetKind → Bool
is_source K.Wire = false
is_source _ = true

abbrev pub source_bits : List Net → ℕ
source_bits nets = sum (map (λ n. if is_source n.kind then n.width else 0) nets)

-- the constant, the sources, and the items
abbrev pub design_cost : List Net → List FlatItem → ℕ
design_cost nets items = 1 + source_bits nets + sum (map (item_cost nets) items)

abbrev pub is_register : NetKind → Bool
is_register K.Register = true
is_register _ = false

abbrev pub register_bits : List Net → ℕ
register_bits nets = sum (map (λ n. if is_register n.kind then n.width else 0) nets)
