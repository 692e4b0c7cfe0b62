-- The clock and the reset of a design (IEEE 1364-2005, 9.7; that there is one clock, and one asynchronous reset at most, is this
-- project's own).
use Rattle.std.specs.Prelude.{◌≡◌, ℕ, Bool, true, false, List, [], ◌∷◌, Option, Some, None, slice_set}
use Rattle.flat_design.specs.declared.net.Net.{Net}
use Rattle.flat_design.specs.declared.net.NetKind.{NetKind}
use Rattle.flat_design.specs.declared.net.NetKind.TheVariants as K
use Rattle.flat_design.specs.declared.item.FlatItem.{FlatItem}
use Rattle.flat_design.specs.Bits.{net_at}
use Rattle.flat_raw.specs.Raw.{IsRaw}
use Rattle.flat_ties.specs.Sources.{AreSources}
use Rattle.flat_clocks.specs.declared.signal.Signal.{Signal}
use Rattle.flat_clocks.specs.Roles.{is_net}
use Rattle.flat_clocks.specs.Signals.{item_clock, item_reset}

abbrev pub or_signal : Option Signal → Option Signal → Option Signal
or_signal None other = other
or_signal (Some s) other = Some s

-- the clock, and the reset, of the first process that has one
abbrev pub first_clock : List (Option ℕ) → List FlatItem → Option Signal
first_clock sources [] = None
first_clock sources (x ∷ items) = or_signal (item_clock sources x) (first_clock sources items)

abbrev pub first_reset : List (Option ℕ) → List FlatItem → Option Signal
first_reset sources [] = None
first_reset sources (x ∷ items) = or_signal (item_reset sources x) (first_reset sources items)

abbrev pub signal_net : Option Signal → Option ℕ
signal_net None = None
signal_net (Some s) = Some s.net

-- the net of the clock
abbrev pub clock_net : List (Option ℕ) → List FlatItem → Option ℕ
clock_net sources items = signal_net (first_clock sources items)

-- a net as the clock
abbrev pub as_clock : Net → Net
as_clock n = record { path = n.path; width = n.width; lsb = n.lsb; first = n.first; kind = K.Clock; output = n.output }

-- the nets with one of them as the clock
abbrev pub with_clock : List Net → Option ℕ → List Net
with_clock nets None = nets
with_clock nets (Some n) = slice_set nets n (as_clock (net_at nets n))

-- the nets of a design with its clock marked
pub record AreMarked (nets : List Net) (items : List FlatItem) (marked : List Net) : Type 0 where
  pub sources : List (Option ℕ)
  pub are : AreSources nets items sources
  pub is : marked ≡ with_clock nets (clock_net sources items)

-- the clock and the reset of a design, by the sources of its nets
abbrev pub IsClock : List Net → List FlatItem → Option ℕ → Type 0
IsClock nets items clock = (sources : List (Option ℕ)) → AreSources nets items sources → clock ≡ clock_net sources items

abbrev pub IsReset : List Net → List FlatItem → Option Signal → Type 0
IsReset nets items reset = (sources : List (Option ℕ)) → AreSources nets items sources → reset ≡ first_reset sources items

abbrev pub is_clock_kind : NetKind → Bool
is_clock_kind K.Clock = true
is_clock_kind _ = false

-- the clock's net alone is marked
abbrev pub IsMarkedAt : List Net → Option ℕ → Type 0
IsMarkedAt nets clock = (n : ℕ) → is_clock_kind (net_at nets n).kind ≡ is_net n clock

-- nets and items that fit each other, as elaboration makes them, but that the clock is marked
pub record IsOfRaw (nets : List Net) (items : List FlatItem) (clock : Option ℕ) : Type 0 where
  pub raw : List Net
  pub fits : IsRaw raw items
  pub is : nets ≡ with_clock raw clock
