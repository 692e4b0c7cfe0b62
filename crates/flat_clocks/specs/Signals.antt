-- The clock and the reset of a process as top inputs.
use Rattle.std.specs.Prelude.{ℕ, Bool, true, false, not, ◌||◌, List, Option, Some, None, ◌==◌}
use Rattle.std.specs.List.{list_any}
use Rattle.bit_base.specs.Operators as bits
use Rattle.flat_design.specs.declared.item.FlatEdge.{FlatEdge}
use Rattle.flat_design.specs.declared.item.FlatEdge.TheVariants as E
use Rattle.flat_design.specs.declared.item.FlatEvent.{FlatEvent}
use Rattle.flat_design.specs.declared.item.FlatItem.{FlatItem}
use Rattle.flat_ties.specs.Ties.{net_in}
use Rattle.flat_clocks.specs.declared.signal.Signal.{Signal}
use Rattle.flat_clocks.specs.declared.signal.Seen.{Seen}
use Rattle.flat_clocks.specs.declared.signal.Seen.TheVariants as S
use Rattle.flat_clocks.specs.Roles.{item_roles}

abbrev pub rises : FlatEdge → Bool
rises E.Rising = true
rises _ = false

abbrev pub signal_by : Option ℕ → Bool → Option Signal
signal_by None high = None
signal_by (Some net) high = Some (record { net = net; high = high })

-- the clock by a table of the sources of nets; its edge doesn't count
abbrev pub clock_signal : List (Option ℕ) → Option FlatEvent → Option Signal
clock_signal sources None = None
clock_signal sources (Some e) = signal_by (net_in sources e.net) true

-- the reset, which is active high where its event rises
abbrev pub reset_signal : List (Option ℕ) → Option FlatEvent → Option Signal
reset_signal sources None = None
reset_signal sources (Some e) = signal_by (net_in sources e.net) (rises e.edge)

abbrev pub item_clock : List (Option ℕ) → FlatItem → Option Signal
item_clock sources x = clock_signal sources (item_roles x).clock

abbrev pub item_reset : List (Option ℕ) → FlatItem → Option Signal
item_reset sources x = reset_signal sources (item_roles x).reset

-- two signals that are there and aren't the same
abbrev pub differ : Option Signal → Option Signal → Bool
differ None b = false
differ (Some a) None = false
differ (Some a) (Some b) = not (a.net == b.net) || bits.differ a.high b.high

-- the net of a signal is this one
abbrev pub is_of : ℕ → Option Signal → Bool
is_of n None = false
is_of n (Some s) = n == s.net

-- a process of these has the net as its clock
abbrev pub is_clock : List (Option ℕ) → List FlatItem → ℕ → Bool
is_clock sources items n = list_any (λ x. is_of n (item_clock sources x)) items

-- a signal differs from one that was seen
abbrev pub differs_from : Seen → Option Signal → Bool
differs_from S.Nothing b = false
differs_from (S.One a) b = differ (Some a) b
differs_from S.Several None = false
differs_from S.Several (Some b) = true
