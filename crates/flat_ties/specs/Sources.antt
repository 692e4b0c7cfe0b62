-- The top input to which a chain of plain port connections leads from a net.
use Rattle.std.specs.Prelude.{◌≡◌, ◌<◌, ℕ, true, false, List, [], ◌∷◌, length, Option, Some, None}
use Rattle.flat_design.specs.declared.net.Net.{Net}
use Rattle.flat_design.specs.declared.item.FlatItem.{FlatItem}
use Rattle.flat_design.specs.Bits.{net_at}
use Rattle.flat_drives.specs.Drives.{is_input}
use Rattle.flat_ties.specs.Ties.{tied, net_in}

-- a net of the design that is no input of the top
pub record IsInner (nets : List Net) (m : ℕ) : Type 0 where
  pub there : m < length nets
  pub inner : is_input (net_at nets m).kind ≡ false

-- from a net over these to a top input, each tied to the next
abbrev pub LeadsTo : List Net → List FlatItem → ℕ → List ℕ → ℕ → Type 0
LeadsTo nets items m [] source = (m ≡ source) × (is_input (net_at nets m).kind ≡ true)
LeadsTo nets items m (n ∷ chain) source = IsInner nets m × ((tied items m ≡ Some n) × LeadsTo nets items n chain source)

pub record IsSource (nets : List Net) (items : List FlatItem) (m source : ℕ) : Type 0 where
  pub chain : List ℕ
  pub leads : LeadsTo nets items m chain source

-- the source of a net, None where there is none
abbrev pub IsSourceOf : List Net → List FlatItem → ℕ → Option ℕ → Type 0
IsSourceOf nets items m None = (source : ℕ) → IsSource nets items m source → ⊥
IsSourceOf nets items m (Some source) = IsSource nets items m source

-- the table has the source of each net
abbrev pub AreSources : List Net → List FlatItem → List (Option ℕ) → Type 0
AreSources nets items sources = (m : ℕ) → IsSourceOf nets items m (net_in sources m)

-- a net has one source at most
abbrev pub HasOneSource : Type 0
HasOneSource = (nets : List Net) (items : List FlatItem) (m a b : ℕ) → IsSource nets items m a → IsSource nets items m b → a ≡ b
