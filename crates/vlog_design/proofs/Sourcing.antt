-- Sources of nets that are alike, and the clock by them.
use Rattle.std.proofs.Common.{◌≡◌, inl, inr, ℕ, ◌<◌, Bool, true, ◌||◌, ◌&&◌, List, [], ◌∷◌, take, Option, Some, None, refl, sym, ◌∙◌, ap, subst}
use Rattle.std.specs.Prelude.{is_none, if◌then◌else◌}
use Rattle.std.specs.List.{list_any}
use Rattle.flat_design.specs.declared.net.Net.{Net}
use Rattle.flat_design.specs.declared.item.FlatItem.{FlatItem}
use Rattle.flat_design.specs.declared.item.FlatEvent.{FlatEvent}
use Rattle.flat_design.specs.Bits.{net_at}
use Rattle.flat_drives.specs.Drives.{is_input}
use Rattle.flat_ties.specs.Ties.{net_in}
use Rattle.flat_ties.specs.Sources.{LeadsTo, IsSource, IsSourceOf, AreSources}
use Rattle.flat_ties.proofs.Chains.{one_source}
use Rattle.flat_clocks.specs.declared.signal.Signal.{Signal}
use Rattle.flat_clocks.specs.declared.role.Roles.{Roles}
use Rattle.flat_clocks.specs.Roles.{item_roles}
use Rattle.flat_clocks.specs.Signals.{rises, signal_by, clock_signal, reset_signal, item_clock, item_reset, differ, is_of, is_clock}
use Rattle.flat_clocks.specs.Events.{lacks_edge, falls, clock_offends, reset_offends, is_role, event_offends, offending_net, unclear_net, or_net, item_events, process_net}
use Rattle.flat_clocks.specs.Offences.{IsClockBit, ReadsClock, Offends}
use Rattle.vlog_design.specs.Clocks.{or_signal, first_clock, first_reset, signal_net, clock_net, with_clock, IsClock, IsReset}
use Rattle.vlog_design.proofs.Alike.{AllAlike, IsInputNet, alike_at, alike_length, all_back, marked_alike}

-- ---- nets that are alike have the same sources

leads : (ms ns : List Net) (items : List FlatItem) → AllAlike ms ns → (m source : ℕ) (chain : List ℕ) → LeadsTo ms items m chain source → LeadsTo ns items m chain source
leads ms ns items h m source [] l = (l.0, sym (alike_at ms ns h m).input ∙ l.1)
leads ms ns items h m source (n ∷ chain) l = (
  record { there = subst (λ k. m < k) (alike_length ms ns h) l.0.there; inner = sym (alike_at ms ns h m).input ∙ l.0.inner },
  (l.1.0, leads ms ns items h n source chain l.1.1),
)

source_alike : (ms ns : List Net) (items : List FlatItem) → AllAlike ms ns → (m source : ℕ) → IsSource ms items m source → IsSource ns items m source
source_alike ms ns items h m source s = record { chain = s.chain; leads = leads ms ns items h m source s.chain s.leads }

source_of_alike : (ms ns : List Net) (items : List FlatItem) → AllAlike ms ns → (m : ℕ) (o : Option ℕ) → IsSourceOf ms items m o → IsSourceOf ns items m o
source_of_alike ms ns items h m None s = λ source k. s source (source_alike ns ms items (all_back ms ns h) m source k)
source_of_alike ms ns items h m (Some source) s = source_alike ms ns items h m source s

pub sources_alike : (ms ns : List Net) (items : List FlatItem) (sources : List (Option ℕ)) → AllAlike ms ns → AreSources ms items sources → AreSources ns items sources
sources_alike ms ns items sources h are m = source_of_alike ms ns items h m (net_in sources m) (are m)

-- ---- two tables of sources say the same

source_is : (nets : List Net) (items : List FlatItem) (m : ℕ) (a b : Option ℕ) → IsSourceOf nets items m a → IsSourceOf nets items m b → a ≡ b
source_is nets items m None None h k = refl
source_is nets items m None (Some s) h k = absurd (h s k)
source_is nets items m (Some s) None h k = absurd (k s h)
source_is nets items m (Some s) (Some t) h k = ap Some (one_source nets items m s t h k)

-- the same net for each number
abbrev pub Agree : List (Option ℕ) → List (Option ℕ) → Type 0
Agree a b = (m : ℕ) → net_in a m ≡ net_in b m

pub sources_agree : (nets : List Net) (items : List FlatItem) (a b : List (Option ℕ)) → AreSources nets items a → AreSources nets items b → Agree a b
sources_agree nets items a b h k m = source_is nets items m (net_in a m) (net_in b m) (h m) (k m)

clock_agrees : (a b : List (Option ℕ)) → Agree a b → (e : Option FlatEvent) → clock_signal a e ≡ clock_signal b e
clock_agrees a b h None = refl
clock_agrees a b h (Some e) = ap (λ o. signal_by o true) (h e.net)

reset_agrees : (a b : List (Option ℕ)) → Agree a b → (e : Option FlatEvent) → reset_signal a e ≡ reset_signal b e
reset_agrees a b h None = refl
reset_agrees a b h (Some e) = ap (λ o. signal_by o (rises e.edge)) (h e.net)

item_clocks : (a b : List (Option ℕ)) → Agree a b → (x : FlatItem) → item_clock a x ≡ item_clock b x
item_clocks a b h x = clock_agrees a b h (item_roles x).clock

item_resets : (a b : List (Option ℕ)) → Agree a b → (x : FlatItem) → item_reset a x ≡ item_reset b x
item_resets a b h x = reset_agrees a b h (item_roles x).reset

pub first_clocks : (a b : List (Option ℕ)) → Agree a b → (items : List FlatItem) → first_clock a items ≡ first_clock b items
first_clocks a b h [] = refl
first_clocks a b h (x ∷ items) = λ i. or_signal (item_clocks a b h x i) (first_clocks a b h items i)

pub first_resets : (a b : List (Option ℕ)) → Agree a b → (items : List FlatItem) → first_reset a items ≡ first_reset b items
first_resets a b h [] = refl
first_resets a b h (x ∷ items) = λ i. or_signal (item_resets a b h x i) (first_resets a b h items i)

-- ---- and have the same offences

any_alike : {A : Type 0} (f g : A → Bool) → ((x : A) → f x ≡ g x) → (xs : List A) → list_any f xs ≡ list_any g xs
any_alike f g h [] = refl
any_alike f g h (x ∷ xs) = λ i. h x i || any_alike f g h xs i

is_clocks : (a b : List (Option ℕ)) → Agree a b → (items : List FlatItem) (n : ℕ) → is_clock a items n ≡ is_clock b items n
is_clocks a b h items n = any_alike _ _ (λ x. ap (is_of n) (item_clocks a b h x)) items

clocks_offend : (a b : List (Option ℕ)) → Agree a b → (before : List FlatItem) (x : FlatItem) → clock_offends a before x ≡ clock_offends b before x
clocks_offend a b h before x = λ i. falls (item_roles x).clock || any_alike (λ y. differ (item_clock a y) (item_clock a x)) (λ y. differ (item_clock b y) (item_clock b x)) (λ y j. differ (item_clocks a b h y j) (item_clocks a b h x j)) before i

resets_offend : (a b : List (Option ℕ)) → Agree a b → (before : List FlatItem) (x : FlatItem) → reset_offends a before x ≡ reset_offends b before x
resets_offend a b h before x = any_alike (λ y. differ (item_reset a y) (item_reset a x)) (λ y. differ (item_reset b y) (item_reset b x)) (λ y j. differ (item_resets a b h y j) (item_resets a b h x j)) before

events_offend : (a b : List (Option ℕ)) → Agree a b → (roles : Roles) (p q s t : Bool) → p ≡ q → s ≡ t → (e : FlatEvent) → event_offends a roles p s e ≡ event_offends b roles q t e
events_offend a b h roles p q s t u w e = λ i. (lacks_edge e.edge || is_none (h e.net i)) || ((u i && is_role roles.clock e) || (w i && is_role roles.reset e))

nets_offend : (f g : FlatEvent → Bool) → ((e : FlatEvent) → f e ≡ g e) → (events : List FlatEvent) → offending_net f events ≡ offending_net g events
nets_offend f g h [] = refl
nets_offend f g h (e ∷ events) = λ i. if h e i then Some e.net else nets_offend f g h events i

process_nets : (a b : List (Option ℕ)) → Agree a b → (before : List FlatItem) (x : FlatItem) → process_net a before x ≡ process_net b before x
process_nets a b h before x = ap (λ o. or_net o (unclear_net (item_events x) (item_roles x)))
    (nets_offend _ _ (events_offend a b h (item_roles x) _ _ _ _ (clocks_offend a b h before x) (resets_offend a b h before x)) (item_events x))

bit_agrees : (nets : List Net) (a b : List (Option ℕ)) → Agree a b → (items : List FlatItem) (bit n : ℕ) → IsClockBit nets a items bit n → IsClockBit nets b items bit n
bit_agrees nets a b h items bit n c = record { net = c.net; inside = c.inside; source = sym (h c.net) ∙ c.source; clock = sym (is_clocks a b h items n) ∙ c.clock }

reads_agree : (nets : List Net) (a b : List (Option ℕ)) → Agree a b → (items : List FlatItem) (k n : ℕ) → ReadsClock nets a items k n → ReadsClock nets b items k n
reads_agree nets a b h items k n r = record { item = r.item; is = r.is; other = r.other; bit = r.bit; reads = r.reads; clock = bit_agrees nets a b h items r.bit n r.clock }

agree_back : (a b : List (Option ℕ)) → Agree a b → Agree b a
agree_back a b h m = sym (h m)

pub offends_agree : (nets : List Net) (a b : List (Option ℕ)) → Agree a b → (items : List FlatItem) (k n : ℕ) → Offends nets a items k n → Offends nets b items k n
offends_agree nets a b h items k n (inl r) = inl (reads_agree nets a b h items k n r)
offends_agree nets a b h items k n (inr c) = inr (record {
  item = c.item;
  is = c.is;
  unread = λ m r. c.unread m (reads_agree nets b a (agree_back a b h) items k m r);
  carried = sym (process_nets a b h (take k items) c.item) ∙ c.carried;
})

-- ---- the clock is an input

input_of : (nets : List Net) (items : List FlatItem) (m source : ℕ) (chain : List ℕ) → LeadsTo nets items m chain source → is_input (net_at nets source).kind ≡ true
input_of nets items m source [] l = ap (λ k. is_input (net_at nets k).kind) (sym l.0) ∙ l.1
input_of nets items m source (n ∷ chain) l = input_of nets items n source chain l.1.1

input_source : (nets : List Net) (items : List FlatItem) (m : ℕ) (o : Option ℕ) (high : Bool) → IsSourceOf nets items m o → IsInputNet nets (signal_net (signal_by o high))
input_source nets items m None high s = tt
input_source nets items m (Some source) high s = input_of nets items m source s.chain s.leads

input_clock : (nets : List Net) (items : List FlatItem) (sources : List (Option ℕ)) → AreSources nets items sources → (e : Option FlatEvent) → IsInputNet nets (signal_net (clock_signal sources e))
input_clock nets items sources are None = tt
input_clock nets items sources are (Some e) = input_source nets items e.net (net_in sources e.net) true (are e.net)

input_or : (nets : List Net) (a b : Option Signal) → IsInputNet nets (signal_net a) → IsInputNet nets (signal_net b) → IsInputNet nets (signal_net (or_signal a b))
input_or nets None b h k = k
input_or nets (Some s) b h k = h

first_input : (nets : List Net) (items : List FlatItem) (sources : List (Option ℕ)) → AreSources nets items sources → (some : List FlatItem) → IsInputNet nets (clock_net sources some)
first_input nets items sources are [] = tt
first_input nets items sources are (x ∷ some) = input_or nets (item_clock sources x) (first_clock sources some) (input_clock nets items sources are (item_roles x).clock) (first_input nets items sources are some)

pub clock_input : (nets : List Net) (items : List FlatItem) (sources : List (Option ℕ)) → AreSources nets items sources → IsInputNet nets (clock_net sources items)
clock_input nets items sources are = first_input nets items sources are items

-- ---- of marked nets

pub marked_sources : (nets : List Net) (items : List FlatItem) (sources : List (Option ℕ)) → AreSources nets items sources → AreSources (with_clock nets (clock_net sources items)) items sources
marked_sources nets items sources are = sources_alike nets _ items sources (marked_alike nets (clock_net sources items) (clock_input nets items sources are)) are

pub is_the_clock : (nets : List Net) (items : List FlatItem) (sources : List (Option ℕ)) → AreSources nets items sources → IsClock nets items (clock_net sources items)
is_the_clock nets items sources are others k = ap signal_net (first_clocks sources others (sources_agree nets items sources others are k) items)

pub is_the_reset : (nets : List Net) (items : List FlatItem) (sources : List (Option ℕ)) → AreSources nets items sources → IsReset nets items (first_reset sources items)
is_the_reset nets items sources are others k = first_resets sources others (sources_agree nets items sources others are k) items
