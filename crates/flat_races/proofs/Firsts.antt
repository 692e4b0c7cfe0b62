-- The first race from the first nets at which the items race.
use Rattle.std.proofs.Common.{◌≡◌, ◌⊎◌, inl, inr, ℕ, ◌≤◌, ◌<◌, Bool, true, false, not, ◌&&◌, ◌||◌, ◌==◌, List, length, Option, Some, None, refl, sym, ◌∙◌, subst, eq-eqb, arith}
use Rattle.std.specs.Prelude.{slice_get, nat_lt, IfSome, IfNone}
use Rattle.std.proofs.lemmas.Bool.{eqb-true}
use Rattle.std.proofs.lemmas.Bool.Decides.{nat_tests}
use Rattle.std.proofs.lemmas.Option.{slice_get_within, slice_get-get_or}
use Rattle.bit_base.specs.Places.{is_before}
use Rattle.flat_design.specs.declared.net.Net.{Net}
use Rattle.flat_design.specs.declared.item.FlatItem.{FlatItem}
use Rattle.flat_design.specs.declared.item.FlatItem.TheVariants as I
use Rattle.flat_design.specs.Bits.{net_at}
use Rattle.flat_design.specs.Systems.{place_of}
use Rattle.flat_orders.specs.Orders.{among}
use Rattle.flat_offences.specs.declared.offence.Offence.{Offence}
use Rattle.flat_offences.specs.Offences.{comes_first, offence_of, IsFirstOffence, Found}
use Rattle.flat_races.specs.declared.readers.Readers.{Readers}
use Rattle.flat_races.specs.declared.readers.Readers.TheVariants as R
use Rattle.flat_races.specs.Assigns.{blocking_nets, nonblocking_nets}
use Rattle.flat_races.specs.Races.{ReadsNet, IsReadElsewhere, RacesAt, Races, AreBlockingNetsOwn}
use Rattle.flat_races.specs.Readers.{Count, has_other, readers_of, AreReaders, racing, IsLeastIn}
use Rattle.flat_races.proofs.Counts.{some_same, differ}

or_by : (a b : Bool) → a || b ≡ true → (a ≡ true) ⊎ (b ≡ true)
or_by true b h = inl refl
or_by false b h = inr h

or_left : (a b : Bool) → a ≡ true → a || b ≡ true
or_left true b h = refl
or_left false b h = absurd (cc h)

or_right : (a b : Bool) → b ≡ true → a || b ≡ true
or_right true b h = refl
or_right false b h = h

and_left : (a b : Bool) → a && b ≡ true → a ≡ true
and_left true b h = refl
and_left false b h = absurd (cc h)

and_right : (a b : Bool) → a && b ≡ true → b ≡ true
and_right true b h = h
and_right false b h = absurd (cc h)

and_both : (a b : Bool) → a ≡ true → b ≡ true → a && b ≡ true
and_both true b h k = k
and_both false b h k = absurd (cc h)

not_same : (m k : ℕ) → not (m == k) ≡ true → m ≡ k → ⊥
not_same m k h e = differ (m == k) (eq-eqb m k e) (off (m == k) h) where
  off : (b : Bool) → not b ≡ true → b ≡ false
  off true h = absurd (cc h)
  off false h = refl

are_other : (m k : ℕ) → (m ≡ k → ⊥) → not (m == k) ≡ true
are_other m k h = by (m == k) refl where
  by : (b : Bool) → m == k ≡ b → not b ≡ true
  by true e = absurd (h (eqb-true m k e))
  by false e = refl

other_of : (set : ℕ → Type 0) (k : ℕ) (r : Readers) → Count set r → has_other k r ≡ true → (j : ℕ) × ((j ≡ k → ⊥) × set j)
other_of set k R.Nobody h e = absurd (cc e)
other_of set k (R.One m) h e = (m, (not_same m k e, h.0))
other_of set k R.Several h e = h k

has_of : (set : ℕ → Type 0) (k j : ℕ) (r : Readers) → Count set r → (j ≡ k → ⊥) → set j → has_other k r ≡ true
has_of set k j R.Nobody h other there = absurd (h j there)
has_of set k j (R.One m) h other there = are_other m k (λ e. other (h.1 j there ∙ e))
has_of set k j R.Several h other there = refl

-- ---- by the table

elsewhere_of : (nets : List Net) (items : List FlatItem) (table : List Readers) (k n : ℕ) → AreReaders nets items (length items) table → has_other k (readers_of table n) ≡ true → IsReadElsewhere nets items k n
elsewhere_of nets items table k n are h = let o = other_of (λ j. (j < length items) × ReadsNet nets items j n) k (readers_of table n) (are n) h in record { reader = o.0; other = o.1.0; reads = o.1.1.1 }

of_elsewhere : (nets : List Net) (items : List FlatItem) (table : List Readers) (k n : ℕ) → AreReaders nets items (length items) table → IsReadElsewhere nets items k n → has_other k (readers_of table n) ≡ true
of_elsewhere nets items table k n are h =
    has_of (λ j. (j < length items) × ReadsNet nets items j n) k h.reader (readers_of table n) (are n) h.other (slice_get_within items h.reader h.reads.item h.reads.is, h.reads)

races_of : (nets : List Net) (items : List FlatItem) (table : List Readers) (k n : ℕ) (x : FlatItem) → AreReaders nets items (length items) table → racing nets table k x n ≡ true → RacesAt nets items k x n
races_of nets items table k n (I.Assign place targets left val connection) are h = absurd (cc h)
races_of nets items table k n (I.Comb place targets body) are h = h
races_of nets items table k n (I.Clocked place targets events body) are h = (
  and_left (among n (blocking_nets body)) _ h,
  elim (or_by (among n (nonblocking_nets body)) _ (and_right (among n (blocking_nets body)) _ h)) [
    | inl both ↦ inl both
    | inr rest ↦ inr (elim (or_by (has_other k (readers_of table n)) _ rest) [ inl read ↦ inl (elsewhere_of nets items table k n are read) | inr out ↦ inr out ])
  ],
)

of_races : (nets : List Net) (items : List FlatItem) (table : List Readers) (k n : ℕ) (x : FlatItem) → AreReaders nets items (length items) table → RacesAt nets items k x n → racing nets table k x n ≡ true
of_races nets items table k n (I.Assign place targets left val connection) are h = absurd h
of_races nets items table k n (I.Comb place targets body) are h = h
of_races nets items table k n (I.Clocked place targets events body) are h = and_both (among n (blocking_nets body)) _ h.0 (elim h.1 [
  | inl both ↦ or_left (among n (nonblocking_nets body)) _ both
  | inr rest ↦ or_right (among n (nonblocking_nets body)) _ (elim rest [
    | inl read ↦ or_left (has_other k (readers_of table n)) _ (of_elsewhere nets items table k n are read)
    | inr out ↦ or_right (has_other k (readers_of table n)) _ out
  ])
])

-- ---- the first

abbrev pub AreLeast : List Net → List Readers → List FlatItem → List (Option ℕ) → Type 0
AreLeast nets table items found = (k : ℕ) (x : FlatItem) (o : Option ℕ) → slice_get items k ≡ Some x → slice_get found k ≡ Some o → IsLeastIn (racing nets table k x) o

by_test : (a b : Bool) (m n r : ℕ) → m ≤ n → a || (b && nat_lt m r) ≡ false → a || (b && nat_lt n r) ≡ false
by_test true b m n r h k = k
by_test false true m n r h k = grind (arith, nat_tests)
by_test false false m n r h k = refl

later_net : (x : FlatItem) (m n : ℕ) (o : Offence) → m ≤ n → comes_first (offence_of x m) o ≡ false → comes_first (offence_of x n) o ≡ false
later_net x m n o h k = by_test (is_before (place_of x) o.place) (not (is_before o.place (place_of x))) m n o.net h k

-- a net was found for an item that races, and it is no later
found_first : (nets : List Net) (table : List Readers) (items : List FlatItem) (found : List (Option ℕ)) (k n : ℕ) (x : FlatItem) → AreReaders nets items (length items) table → length found ≡ length items → AreLeast nets table items found
    → slice_get items k ≡ Some x → Races nets items k n → (m : ℕ) × (Found found k m × (m ≤ n))
found_first nets table items found k n x are long least at h =
    let inside = slice_get_within items k x at in
    by _ (slice_get-get_or found k None (omega arith)) (least k x _ at (slice_get-get_or found k None (omega arith))) where
      here : racing nets table k x n ≡ true
      here = of_races nets items table k n x are (subst (λ y. RacesAt nets items k y n) (some_same (sym h.is ∙ at)) h.races)

      by : (o : Option ℕ) → slice_get found k ≡ Some o → IsLeastIn (racing nets table k x) o → (m : ℕ) × (Found found k m × (m ≤ n))
      by None is l = absurd (differ _ here (l n))
      by (Some m) is l = (m, (is, l.1 n here))

first_is : (nets : List Net) (table : List Readers) (items : List FlatItem) (found : List (Option ℕ)) (o : Offence) → AreReaders nets items (length items) table → length found ≡ length items → AreLeast nets table items found → IsFirstOffence items (Found found) o
    → IsFirstOffence items (Races nets items) o
first_is nets table items found o are long least h = record {
  number = h.number;
  item = h.item;
  there = h.there;
  is = h.is;
  offence = record { item = h.item; is = h.there; races = races_of nets items table h.number o.net h.item are (least h.number h.item (Some o.net) h.there h.offence).0 };
  first = λ k n x at g. let f = found_first nets table items found k n x are long least at g in later_net x f.0 n o f.1.1 (h.first k f.0 x at f.1.0);
}

pub answer_first : (nets : List Net) (table : List Readers) (items : List FlatItem) (found : List (Option ℕ)) (best : Option Offence) → AreReaders nets items (length items) table → length found ≡ length items → AreLeast nets table items found
    → IfSome best (λ o. IsFirstOffence items (Found found) o) → IfSome best (λ o. IsFirstOffence items (Races nets items) o)
answer_first nets table items found None are long least h = tt
answer_first nets table items found (Some o) are long least h = first_is nets table items found o are long least h

pub answer_none : (nets : List Net) (table : List Readers) (items : List FlatItem) (found : List (Option ℕ)) (best : Option Offence) → AreReaders nets items (length items) table → length found ≡ length items → AreLeast nets table items found
    → IfNone best ((k n : ℕ) → Found found k n → ⊥) → IfNone best ((k n : ℕ) → Races nets items k n → ⊥)
answer_none nets table items found None are long least h = λ k n g. let f = found_first nets table items found k n g.item are long least g.is g in h k f.0 f.1.0
answer_none nets table items found (Some o) are long least h = tt

-- ---- nets that clocked processes assign by `=`

pub are_own : (nets : List Net) (items : List FlatItem) → ((k n : ℕ) → Races nets items k n → ⊥) → AreBlockingNetsOwn nets items
are_own nets items none = record {
  unread = λ k n place targets events body at b r. none k n (record { item = I.Clocked place targets events body; is = at; races = (b, inr (inl r)) });
  no_output = λ k n place targets events body at b. off (net_at nets n).output (λ out. none k n (record { item = I.Clocked place targets events body; is = at; races = (b, inr (inr out)) }));
} where
  off : (b : Bool) → (b ≡ true → ⊥) → b ≡ false
  off true h = absurd (h refl)
  off false h = refl

pub answer_own : (nets : List Net) (items : List FlatItem) (best : Option Offence) → IfNone best ((k n : ℕ) → Races nets items k n → ⊥) → IfNone best (AreBlockingNetsOwn nets items)
answer_own nets items None h = are_own nets items h
answer_own nets items (Some o) h = tt

-- ---- the least

pub least_in : (numbers : List ℕ) (set : ℕ → Bool) (o : Option ℕ) → ((n : ℕ) → among n numbers ≡ set n) → IfSome o (λ n. among n numbers ≡ true) → IfSome o (λ n. (m : ℕ) → among m numbers ≡ true → n ≤ m) → IfNone o ((m : ℕ) → among m numbers ≡ false) → IsLeastIn set o
least_in numbers set None is some least none = λ n. sym (is n) ∙ none n
least_in numbers set (Some n) is some least none = (sym (is n) ∙ some, λ m h. least m (is m ∙ h))
