-- Offences by the events of a process (refusal 211, but for reads of the clock).
use Rattle.std.specs.Prelude.{ℕ, Bool, true, false, ◌&&◌, ◌||◌, List, [], ◌∷◌, Option, Some, None, is_none, ◌==◌, if◌then◌else◌}
use Rattle.std.specs.List.{list_any}
use Rattle.flat_design.specs.declared.item.FlatEdge.{FlatEdge}
use Rattle.flat_design.specs.declared.item.FlatEdge.TheVariants as E
use Rattle.flat_design.specs.declared.item.FlatEvent.{FlatEvent}
use Rattle.flat_design.specs.declared.item.FlatItem.{FlatItem}
use Rattle.flat_design.specs.declared.item.FlatItem.TheVariants as I
use Rattle.flat_ties.specs.Ties.{net_in}
use Rattle.flat_clocks.specs.declared.role.Roles.{Roles}
use Rattle.flat_clocks.specs.declared.signal.Signal.{Signal}
use Rattle.flat_clocks.specs.Roles.{item_roles}
use Rattle.flat_clocks.specs.Signals.{item_clock, item_reset, differ}

-- an event without an edge
abbrev pub lacks_edge : FlatEdge → Bool
lacks_edge E.Either = true
lacks_edge _ = false

-- a clock that falls
abbrev pub falls_edge : FlatEdge → Bool
falls_edge E.Falling = true
falls_edge _ = false

abbrev pub falls : Option FlatEvent → Bool
falls None = false
falls (Some e) = falls_edge e.edge

-- another clock, or another reset, than a process of these has
abbrev pub other_clock : List (Option ℕ) → List FlatItem → Option Signal → Bool
other_clock sources before s = list_any (λ x. differ (item_clock sources x) s) before

abbrev pub other_reset : List (Option ℕ) → List FlatItem → Option Signal → Bool
other_reset sources before s = list_any (λ x. differ (item_reset sources x) s) before

-- the clock, and the reset, of an item offends after these items
abbrev pub clock_offends : List (Option ℕ) → List FlatItem → FlatItem → Bool
clock_offends sources before x = falls (item_roles x).clock || other_clock sources before (item_clock sources x)

abbrev pub reset_offends : List (Option ℕ) → List FlatItem → FlatItem → Bool
reset_offends sources before x = other_reset sources before (item_reset sources x)

-- an event is about the net of the clock, or of the reset
abbrev pub is_role : Option FlatEvent → FlatEvent → Bool
is_role None e = false
is_role (Some r) e = r.net == e.net

-- an event offends: it has no edge, its net comes from no top input, or it is the clock or the reset, and that offends
abbrev pub event_offends : List (Option ℕ) → Roles → Bool → Bool → FlatEvent → Bool
event_offends sources roles clock reset e = (lacks_edge e.edge || is_none (net_in sources e.net)) || ((clock && is_role roles.clock e) || (reset && is_role roles.reset e))

-- the net of the first event that offends
abbrev pub offending_net : (FlatEvent → Bool) → List FlatEvent → Option ℕ
offending_net offends [] = None
offending_net offends (e ∷ events) = if offends e then Some e.net else offending_net offends events

-- the net of the first event, where there are several and no clock can be told: over two, or no outermost `if` on the reset
abbrev pub unclear_net : List FlatEvent → Roles → Option ℕ
unclear_net [] roles = None
unclear_net (e ∷ []) roles = None
unclear_net (e ∷ f ∷ events) roles = if is_none roles.clock then Some e.net else None

abbrev pub or_net : Option ℕ → Option ℕ → Option ℕ
or_net None other = other
or_net (Some n) other = Some n

abbrev pub item_events : FlatItem → List FlatEvent
item_events (I.Assign place targets left val connection) = []
item_events (I.Comb place targets body) = []
item_events (I.Clocked place targets events body) = events

abbrev pub events_net : List (Option ℕ) → Roles → Bool → Bool → List FlatEvent → Option ℕ
events_net sources roles clock reset events = or_net (offending_net (event_offends sources roles clock reset) events) (unclear_net events roles)

-- the net that is carried where an item offends by its events, after these items: that of the first event that offends, else of the first
abbrev pub process_net : List (Option ℕ) → List FlatItem → FlatItem → Option ℕ
process_net sources before x = events_net sources (item_roles x) (clock_offends sources before x) (reset_offends sources before x) (item_events x)
