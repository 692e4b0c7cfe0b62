-- The least number of a kind, and tables of clocks. No public contract cites it.
use Rattle.std.specs.Prelude.{◌≡◌, ◌⊎◌, ◌≤◌, ℕ, Bool, true, List, [], ◌∷◌, ◌++◌, Option, Some, None, if◌then◌else◌}
use Rattle.flat_design.specs.declared.net.Net.{Net}
use Rattle.flat_design.specs.declared.item.FlatItem.{FlatItem}
use Rattle.flat_design.specs.Bits.{Set}
use Rattle.flat_design.specs.Systems.{item_flow}
use Rattle.flat_flows.specs.Tables.{in_table}
use Rattle.flat_drives.specs.Listed.{listed}
use Rattle.flat_ties.specs.Ties.{tie_of, net_in}
use Rattle.flat_clocks.specs.Events.{process_net}
use Rattle.flat_clocks.specs.Offences.{IsClockBit}

pub record IsLeast (P : ℕ → Type 0) (n : ℕ) : Type 0 where
  pub has : P n
  pub least : (m : ℕ) → P m → n ≤ m

abbrev pub IsLeastOf : (ℕ → Type 0) → Option ℕ → Type 0
IsLeastOf P None = (n : ℕ) → P n → ⊥
IsLeastOf P (Some n) = IsLeast P n

-- a bit of the set has the number in a table
pub record HasNumber (table : List (Option ℕ)) (bits : Set) (n : ℕ) : Type 0 where
  pub bit : ℕ
  pub at : net_in table bit ≡ Some n
  pub is : bits bit ≡ true

abbrev pub numbers_of : List (Option ℕ) → List ℕ → List ℕ
numbers_of table [] = []
numbers_of table (i ∷ bits) = listed (net_in table i) ++ numbers_of table bits

-- the clock that a net comes from, by a set of clocks
abbrev pub if_clock : List Bool → Option ℕ → Option ℕ
if_clock clocks None = None
if_clock clocks (Some n) = if in_table clocks n then Some n else None

abbrev pub clock_from : List (Option ℕ) → List Bool → ℕ → Option ℕ
clock_from sources clocks net = if_clock clocks (net_in sources net)

-- the table has the clock that each bit comes from
pub record AreClocks (nets : List Net) (sources : List (Option ℕ)) (items : List FlatItem) (table : List (Option ℕ)) : Type 0 where
  pub only : (bit n : ℕ) → net_in table bit ≡ Some n → IsClockBit nets sources items bit n
  pub all : (bit n : ℕ) → IsClockBit nets sources items bit n → net_in table bit ≡ Some n

-- an item that is no plain port connection reads a bit that has the number
pub record HasClock (nets : List Net) (table : List (Option ℕ)) (x : FlatItem) (n : ℕ) : Type 0 where
  pub other : tie_of x ≡ None
  pub number : HasNumber table (item_flow nets x).reads n

-- an item offends after these
abbrev pub OffendsBy : List Net → List (Option ℕ) → List (Option ℕ) → List FlatItem → FlatItem → ℕ → Type 0
OffendsBy nets sources table before x n = HasClock nets table x n ⊎ (((c : ℕ) → HasClock nets table x c → ⊥) × (process_net sources before x ≡ Some n))
