-- Offences of clocks and resets (refusal 211).
use Rattle.std.specs.Prelude.{◌≡◌, ◌⊎◌, ℕ, true, List, Option, Some, None, slice_get, take}
use Rattle.flat_design.specs.declared.net.Net.{Net}
use Rattle.flat_design.specs.declared.item.FlatItem.{FlatItem}
use Rattle.flat_design.specs.Bits.{net_at, of_net}
use Rattle.flat_design.specs.Systems.{item_flow}
use Rattle.flat_offences.specs.declared.offence.Offence.{Offence}
use Rattle.flat_offences.specs.Offences.{IsFirstOffence}
use Rattle.flat_ties.specs.Ties.{tie_of, net_in}
use Rattle.flat_ties.specs.Sources.{AreSources}
use Rattle.flat_clocks.specs.Signals.{is_clock}
use Rattle.flat_clocks.specs.Events.{process_net}

-- a bit of a net that comes from a clock, the net of a number
pub record IsClockBit (nets : List Net) (sources : List (Option ℕ)) (items : List FlatItem) (bit n : ℕ) : Type 0 where
  pub net : ℕ
  pub inside : of_net (net_at nets net) bit ≡ true
  pub source : net_in sources net ≡ Some n
  pub clock : is_clock sources items n ≡ true

-- the item of a number is no plain port connection, and reads a bit that comes from a clock
pub record ReadsClock (nets : List Net) (sources : List (Option ℕ)) (items : List FlatItem) (k n : ℕ) : Type 0 where
  pub item : FlatItem
  pub is : slice_get items k ≡ Some item
  pub other : tie_of item ≡ None
  pub bit : ℕ
  pub reads : (item_flow nets item).reads bit ≡ true
  pub clock : IsClockBit nets sources items bit n

-- the item of a number reads no clock, and offends by its events
pub record ClocksBadly (nets : List Net) (sources : List (Option ℕ)) (items : List FlatItem) (k n : ℕ) : Type 0 where
  pub item : FlatItem
  pub is : slice_get items k ≡ Some item
  pub unread : (c : ℕ) → ReadsClock nets sources items k c → ⊥
  pub carried : process_net sources (take k items) item ≡ Some n

-- the item of a number offends, and the net of a number is carried
abbrev pub Offends : List Net → List (Option ℕ) → List FlatItem → ℕ → ℕ → Type 0
Offends nets sources items k n = ReadsClock nets sources items k n ⊎ ClocksBadly nets sources items k n

-- the first offence of clocks and resets
pub record IsClockOffence (nets : List Net) (items : List FlatItem) (o : Offence) : Type 0 where
  pub sources : List (Option ℕ)
  pub are : AreSources nets items sources
  pub first : IsFirstOffence items (Offends nets sources items) o

pub record HasNoClockOffence (nets : List Net) (items : List FlatItem) : Type 0 where
  pub sources : List (Option ℕ)
  pub are : AreSources nets items sources
  pub none : (k n : ℕ) → Offends nets sources items k n → ⊥
