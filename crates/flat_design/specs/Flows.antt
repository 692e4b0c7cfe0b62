-- What a statement reads, leaves and drives, over all its paths at once: paths are sets of bits here and are never listed.
use Rattle.std.specs.Prelude.{map, ℕ, zero, suc, ◌^◌, Bool, true, false, not, ◌&&◌, ◌||◌, nat_le, if◌then◌else◌, List, [], ◌∷◌, Option, Some, None, is_some}
use Rattle.std.specs.List.{list_all, list_any}
use Rattle.bit_base.specs.Numbers.{low_bits, extended}
use Rattle.flat_design.specs.declared.expr.FlatNode.TheOpen.{FlatNode-F}
use Rattle.flat_design.specs.declared.expr.FlatNode.TheFolds.{fold-FlatExpr}
use Rattle.flat_design.specs.declared.net.Net.{Net}
use Rattle.flat_design.specs.declared.expr.FlatExpr.{FlatExpr}
use Rattle.flat_design.specs.declared.stmt.FlatLeft.{FlatLeft}
use Rattle.flat_design.specs.declared.stmt.FlatLabel.{FlatLabel}
use Rattle.flat_design.specs.declared.stmt.FlatStmt.{FlatStmt}
use Rattle.flat_design.specs.declared.stmt.FlatStmt.TheOpen.{FlatStmt-F, FlatArm-F}
use Rattle.flat_design.specs.declared.stmt.FlatStmt.TheFolds.{fold-FlatStmt}
use Rattle.flat_design.specs.Bits.{Set, Values, net_at, selected}
use Rattle.flat_design.specs.Reads.{reads, constant_in, select_bits, no_bits}
use Rattle.flat_design.specs.Statements.{matches_any}

pub record Flow : Type 0 where
  -- some path reads the bit before it has assigned it
  pub reads : Set
  -- some path leaves the bit unassigned
  pub leaves : Set
  -- some path may assign the bit
  pub drives : Set

-- one after the other
abbrev pub before : Flow → Flow → Flow
before a b = record { reads = λ i. a.reads i || (a.leaves i && b.reads i); leaves = λ i. a.leaves i && b.leaves i; drives = λ i. a.drives i || b.drives i }

-- the one or the other
abbrev pub either : Flow → Flow → Flow
either a b = record { reads = λ i. a.reads i || b.reads i; leaves = λ i. a.leaves i || b.leaves i; drives = λ i. a.drives i || b.drives i }

-- only reading
abbrev pub reading : Set → Flow
reading set = record { reads = set; leaves = λ i. true; drives = no_bits }

abbrev pub idle : Flow
idle = reading no_bits

abbrev pub all_before : List Flow → Flow
all_before [] = idle
all_before (f ∷ fs) = before f (all_before fs)

-- ---- assignments

-- the bits of a part of a left side: the whole net where its index isn't constant
abbrev pub select_drives : List Net → Net → ℕ → Option FlatExpr → Set
select_drives nets net width None = selected net (0, 0) width
select_drives nets net width (Some index) = select_bits net (constant_in nets index) width

abbrev pub part_drives : List Net → FlatLeft → Set
part_drives nets l = select_drives nets (net_at nets l.net) l.width l.index

abbrev pub left_drives : List Net → List FlatLeft → Set
left_drives nets left i = list_any (λ l. part_drives nets l i) left

-- the bits that a part is sure to write: none where its index isn't constant
abbrev pub is_fixed : List Net → Option FlatExpr → Bool
is_fixed nets None = true
is_fixed nets (Some index) = is_some (constant_in nets index)

abbrev pub part_fixes : List Net → FlatLeft → Set
part_fixes nets l i = is_fixed nets l.index && part_drives nets l i

abbrev pub left_fixes : List Net → List FlatLeft → Set
left_fixes nets left i = list_any (λ l. part_fixes nets l i) left

abbrev pub index_reads : List Net → Option FlatExpr → Set
index_reads nets None = no_bits
index_reads nets (Some index) = reads nets index

abbrev pub part_reads : List Net → FlatLeft → Set
part_reads nets l = index_reads nets l.index

abbrev pub left_reads : List Net → List FlatLeft → Set
left_reads nets left i = list_any (λ l. part_reads nets l i) left

-- `<=` doesn't count as having assigned
abbrev pub assign_flow : List Net → List FlatLeft → FlatExpr → Bool → Flow
assign_flow nets left val later = record { reads = λ i. reads nets val i || left_reads nets left i; leaves = λ i. later || not (left_fixes nets left i); drives = left_drives nets left }

-- ---- cases

-- the labels of an arm: whether they are constant, and whether one of them matches a word where they are
pub record LabelTest : Type 0 where
  pub constant : Bool
  pub matches : List Bool → Bool

-- what the labels of an arm read, their test, and the body
pub record ArmFlow : Type 0 where
  pub reads : Set
  pub test : LabelTest
  pub body : Flow

abbrev pub label_reads : List Net → List FlatLabel → Set
label_reads nets labels i = list_any (λ l. reads nets l.value i) labels

-- every number below the bound, as a word of so many bits, matches
abbrev pub all_match : ℕ → ℕ → (List Bool → Bool) → Bool
all_match zero size matches = true
all_match (suc n) size matches = all_match n size matches && matches (low_bits size n)

-- an expression of so many bits as an extension of one of fewer: how many, and the word that each word of these gives
pub record Spread : Type 0 where
  pub size : ℕ
  pub own : ℕ
  pub widen : List Bool → List Bool

abbrev pub unspread : ℕ → Spread
unspread size = record { size = size; own = size; widen = λ word. word }

abbrev pub spread_layer : FlatNode-F (ℕ → Spread) Spread → ℕ → Spread
spread_layer (FlatNode-F.Resize a by_sign) size = if nat_le a.size size then record { size = size; own = a.own; widen = λ word. extended size by_sign (a.widen word) } else unspread size
spread_layer _ size = unspread size

unfoldable pub spread : FlatExpr → Spread
spread = fold-FlatExpr (ℕ → Spread) Spread spread_layer (λ e. e.node e.size)

-- no word of the selector goes without a label: the labels are constant, the selector has at most 8 bits before it is extended, and
-- every value of these matches
abbrev pub is_full : Spread → List LabelTest → Bool
is_full s tests = nat_le s.own 8 && (list_all (λ t. t.constant) tests && all_match (2 ^ s.own) s.own (λ word. list_any (λ t. t.matches (s.widen word)) tests))

abbrev pub flow_arms : List ArmFlow → Flow → Flow
flow_arms [] other = other
flow_arms (a ∷ arms) other = before (reading a.reads) (either a.body (flow_arms arms other))

-- where no arm matches and there is no default: no path, where the case is full
abbrev pub no_path : Flow
no_path = record { reads = no_bits; leaves = no_bits; drives = no_bits }

abbrev pub flow_case : Spread → List ArmFlow → Option Flow → Flow
flow_case s arms None = flow_arms arms (if is_full s (map (λ a. a.test) arms) then no_path else idle)
flow_case s arms (Some other) = flow_arms arms other

abbrev pub flow_other : Option Flow → Flow
flow_other None = idle
flow_other (Some f) = f

abbrev pub flow_layer : List Net → FlatStmt-F Flow ArmFlow → Flow
flow_layer nets (FlatStmt-F.Block body) = all_before body
flow_layer nets (FlatStmt-F.Assign left val later) = assign_flow nets left val later
flow_layer nets (FlatStmt-F.If test then_ else_) = before (reading (reads nets test)) (either then_ (flow_other else_))
flow_layer nets (FlatStmt-F.Case selector arms other) = before (reading (reads nets selector)) (flow_case (spread selector) arms other)

-- no net has a true bit
abbrev pub no_values : Values
no_values i = false

abbrev pub test_of : List Net → List FlatLabel → LabelTest
test_of nets labels = record { constant = list_all (λ l. is_some (constant_in nets l.value)) labels; matches = λ word. matches_any nets no_values word labels }

abbrev pub arm_layer : List Net → FlatArm-F Flow ArmFlow → ArmFlow
arm_layer nets a = record { reads = label_reads nets a.labels; test = test_of nets a.labels; body = a.body }

unfoldable pub flow : List Net → FlatStmt → Flow
flow nets = fold-FlatStmt Flow ArmFlow (flow_layer nets) (arm_layer nets)
