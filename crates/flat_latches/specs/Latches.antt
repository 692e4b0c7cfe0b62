-- Latches: bits that a combinational process assigns and that one of its paths leaves unassigned (IEEE 1364.1-2002, 5.2.2.3).
use Rattle.std.specs.Prelude.{◌≡◌, ◌<◌, ℕ, Bool, true, false, List, ◌++◌, map, Option, Some, None, if◌then◌else◌}
use Rattle.bit_base.specs.declared.place.Place.{Place}
use Rattle.flat_design.specs.declared.net.Net.{Net}
use Rattle.flat_design.specs.declared.stmt.FlatArm.{FlatArm}
use Rattle.flat_design.specs.declared.stmt.FlatStmt.{FlatStmt}
use Rattle.flat_design.specs.declared.item.FlatItem.{FlatItem}
use Rattle.flat_design.specs.declared.item.FlatItem.TheVariants as I
use Rattle.flat_design.specs.Flows.{Flow, flow}
use Rattle.flat_paths.specs.Paths.{Walk, walk, stop, go_on, IsLeaving}

-- each bit that is assigned is assigned on every path
abbrev pub IsComplete : Flow → Type 0
IsComplete f = (i : ℕ) → f.drives i ≡ true → f.leaves i ≡ false

-- a path that leaves the bit, whatever comes after
abbrev pub LeadsOn : Walk → List ℕ → Type 0
LeadsOn w path = (rest : List ℕ) → w (path ++ rest) ≡ Some rest

-- the second branch of an `if`
abbrev pub other_walk : List Net → ℕ → Option FlatStmt → Walk
other_walk nets i None = go_on
other_walk nets i (Some s) = walk nets i s

-- the default of a case, or what stands in its place
abbrev pub default_walk : List Net → ℕ → Bool → Option FlatStmt → Walk
default_walk nets i closed None = if closed then stop else go_on
default_walk nets i closed (Some s) = walk nets i s

abbrev pub arm_walks : List Net → ℕ → List FlatArm → List Walk
arm_walks nets i arms = map (λ a. walk nets i a.body) arms

-- the least bit that the body of a combinational process assigns and leaves, with a path that leaves it
pub record IsLatch (nets : List Net) (item : FlatItem) (bit : ℕ) (path : List ℕ) : Type 0 where
  pub place : Place
  pub targets : List ℕ
  pub body : FlatStmt
  pub is : item ≡ I.Comb place targets body
  pub drives : (flow nets body).drives bit ≡ true
  pub leaves : IsLeaving nets bit body path
  pub least : (j : ℕ) → j < bit → (flow nets body).drives j ≡ true → (flow nets body).leaves j ≡ false

-- the item isn't a combinational process, or its body is complete
abbrev pub HasNoLatch : List Net → FlatItem → Type 0
HasNoLatch nets item = (place : Place) (targets : List ℕ) (body : FlatStmt) → item ≡ I.Comb place targets body → IsComplete (flow nets body)

-- the least number of a set; none where it has none
abbrev pub IsLeast : Option ℕ → (ℕ → Bool) → Type 0
IsLeast None set = (i : ℕ) → set i ≡ false
IsLeast (Some n) set = (set n ≡ true) × ((j : ℕ) → j < n → set j ≡ false)
