-- How many items read a net. No public contract cites it.
use Rattle.std.specs.Prelude.{◌≡◌, ◌<◌, ◌≤◌, ℕ, Bool, true, false, not, ◌==◌, ◌&&◌, ◌||◌, if◌then◌else◌, List, Option, Some, None, slice_index_or}
use Rattle.flat_design.specs.declared.net.Net.{Net}
use Rattle.flat_design.specs.declared.item.FlatItem.{FlatItem}
use Rattle.flat_design.specs.declared.item.FlatItem.TheVariants as I
use Rattle.flat_design.specs.Bits.{net_at}
use Rattle.flat_orders.specs.Orders.{among}
use Rattle.flat_races.specs.declared.readers.Readers.{Readers}
use Rattle.flat_races.specs.declared.readers.Readers.TheVariants as R
use Rattle.flat_races.specs.Assigns.{blocking_nets, nonblocking_nets}
use Rattle.flat_races.specs.Races.{ReadsNet}

-- the numbers of a set: none, one, or more than one
abbrev pub Count : (ℕ → Type 0) → Readers → Type 0
Count set R.Nobody = (j : ℕ) → set j → ⊥
Count set (R.One m) = set m × ((j : ℕ) → set j → j ≡ m)
Count set R.Several = (k : ℕ) → (j : ℕ) × ((j ≡ k → ⊥) × set j)

-- with one more number
abbrev pub joined_by : ℕ → Readers → Readers
joined_by k R.Nobody = R.One k
joined_by k (R.One m) = if m == k then R.One m else R.Several
joined_by k R.Several = R.Several

-- a number besides this one
abbrev pub has_other : ℕ → Readers → Bool
has_other k R.Nobody = false
has_other k (R.One m) = not (m == k)
has_other k R.Several = true

abbrev pub readers_of : List Readers → ℕ → Readers
readers_of table n = slice_index_or table n R.Nobody

-- the table has the readers of each net, among the items below a number
abbrev pub AreReaders : List Net → List FlatItem → ℕ → List Readers → Type 0
AreReaders nets items bound table = (n : ℕ) → Count (λ j. (j < bound) × ReadsNet nets items j n) (readers_of table n)

-- the nets at which an item races, by the table
abbrev pub racing : List Net → List Readers → ℕ → FlatItem → ℕ → Bool
racing nets table k (I.Assign place targets left val connection) n = false
racing nets table k (I.Comb place targets body) n = among n (nonblocking_nets body)
racing nets table k (I.Clocked place targets events body) n = among n (blocking_nets body) && (among n (nonblocking_nets body) || (has_other k (readers_of table n) || (net_at nets n).output))

-- the least number of a set, if it has one
abbrev pub IsLeastIn : (ℕ → Bool) → Option ℕ → Type 0
IsLeastIn set None = (n : ℕ) → set n ≡ false
IsLeastIn set (Some n) = (set n ≡ true) × ((m : ℕ) → set m ≡ true → n ≤ m)
