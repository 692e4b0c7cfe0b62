-- The first offence of clocks from the nets that are carried, item by item.
use Rattle.std.proofs.Common.{◌≡◌, inl, inr, ℕ, ◌≤◌, Bool, true, false, not, ◌&&◌, ◌||◌, List, length, take, Option, Some, None, refl, sym, ◌∙◌, ap, subst, arith}
use Rattle.std.specs.Prelude.{slice_get, nat_lt, IfSome, IfNone}
use Rattle.std.proofs.lemmas.Bool.Decides.{nat_tests}
use Rattle.std.proofs.lemmas.Option.{slice_get_within, slice_get-get_or}
use Rattle.bit_base.specs.Places.{is_before}
use Rattle.flat_design.specs.declared.net.Net.{Net}
use Rattle.flat_design.specs.declared.item.FlatItem.{FlatItem}
use Rattle.flat_design.specs.Systems.{place_of, item_flow}
use Rattle.flat_offences.specs.declared.offence.Offence.{Offence}
use Rattle.flat_offences.specs.Offences.{comes_first, offence_of, IsFirstOffence, Found}
use Rattle.flat_drives.proofs.Steps.{some_same}
use Rattle.flat_ties.specs.Ties.{tie_of}
use Rattle.flat_ties.specs.Sources.{AreSources}
use Rattle.flat_clocks.specs.Events.{process_net}
use Rattle.flat_clocks.specs.Least.{IsLeastOf, HasClock, AreClocks, OffendsBy}
use Rattle.flat_clocks.specs.Offences.{ReadsClock, Offends, IsClockOffence, HasNoClockOffence}

-- ---- one item

pub read_offends : (nets : List Net) (sources table : List (Option ℕ)) (before : List FlatItem) (x : FlatItem) (o : Option ℕ) (c : ℕ) → o ≡ Some c → IsLeastOf (HasClock nets table x) o → IsLeastOf (OffendsBy nets sources table before x) (Some c)
read_offends nets sources table before x o c e h =
    let k : IsLeastOf (HasClock nets table x) (Some c) = subst (IsLeastOf (HasClock nets table x)) e h in
    record { has = inl k.has; least = λ m d. elim d [ inl r ↦ k.least m r | inr p ↦ absurd (p.0 c k.has) ] }

pub process_offends : (nets : List Net) (sources table : List (Option ℕ)) (before : List FlatItem) (x : FlatItem) (r o : Option ℕ) → r ≡ None → IsLeastOf (HasClock nets table x) r → o ≡ process_net sources before x → IsLeastOf (OffendsBy nets sources table before x) o
process_offends nets sources table before x r o e h is = by o is where
  none : (c : ℕ) → HasClock nets table x c → ⊥
  none = subst (IsLeastOf (HasClock nets table x)) e h

  by : (o : Option ℕ) → o ≡ process_net sources before x → IsLeastOf (OffendsBy nets sources table before x) o
  by None is = λ n d. elim d [ inl k ↦ none n k | inr p ↦ cc (is ∙ p.1) ]
  by (Some n) is = record {
    has = inr (none, sym is);
    least = λ m d. elim d [ inl k ↦ absurd (none m k) | inr p ↦ let q : n ≡ m = some_same (is ∙ p.1) in omega arith ];
  }

-- ---- the offences by a table of clocks

to_reads : (nets : List Net) (sources table : List (Option ℕ)) (items : List FlatItem) (k n : ℕ) (x : FlatItem) → AreClocks nets sources items table → slice_get items k ≡ Some x → HasClock nets table x n → ReadsClock nets sources items k n
to_reads nets sources table items k n x are at h = record { item = x; is = at; other = h.other; bit = h.number.bit; reads = h.number.is; clock = are.only h.number.bit n h.number.at }

from_reads : (nets : List Net) (sources table : List (Option ℕ)) (items : List FlatItem) (k n : ℕ) (x : FlatItem) → AreClocks nets sources items table → slice_get items k ≡ Some x → ReadsClock nets sources items k n → HasClock nets table x n
from_reads nets sources table items k n x are at h =
    let e : h.item ≡ x = some_same (sym h.is ∙ at) in
    record { other = ap tie_of (sym e) ∙ h.other; number = record { bit = h.bit; at = are.all h.bit n h.clock; is = subst (λ y. (item_flow nets y).reads h.bit ≡ true) e h.reads } }

to_offence : (nets : List Net) (sources table : List (Option ℕ)) (items : List FlatItem) (k n : ℕ) (x : FlatItem) → AreClocks nets sources items table → slice_get items k ≡ Some x → OffendsBy nets sources table (take k items) x n → Offends nets sources items k n
to_offence nets sources table items k n x are at (inl h) = inl (to_reads nets sources table items k n x are at h)
to_offence nets sources table items k n x are at (inr h) = inr (record { item = x; is = at; unread = λ c r. h.0 c (from_reads nets sources table items k c x are at r); carried = h.1 })

from_offence : (nets : List Net) (sources table : List (Option ℕ)) (items : List FlatItem) (k n : ℕ) (x : FlatItem) → AreClocks nets sources items table → slice_get items k ≡ Some x → Offends nets sources items k n → OffendsBy nets sources table (take k items) x n
from_offence nets sources table items k n x are at (inl h) = inl (from_reads nets sources table items k n x are at h)
from_offence nets sources table items k n x are at (inr h) =
    inr ((λ c r. h.unread c (to_reads nets sources table items k c x are at r)), subst (λ y. process_net sources (take k items) y ≡ Some n) (some_same (sym h.is ∙ at)) h.carried)

-- ---- the first

abbrev pub AreNets : List Net → List (Option ℕ) → List (Option ℕ) → List FlatItem → List (Option ℕ) → Type 0
AreNets nets sources table items found = (k : ℕ) (x : FlatItem) (o : Option ℕ) → slice_get items k ≡ Some x → slice_get found k ≡ Some o → IsLeastOf (OffendsBy nets sources table (take k items) x) o

by_test : (a b : Bool) (m n r : ℕ) → m ≤ n → a || (b && nat_lt m r) ≡ false → a || (b && nat_lt n r) ≡ false
by_test true b m n r h k = k
by_test false true m n r h k = grind (arith, nat_tests)
by_test false false m n r h k = refl

later_net : (x : FlatItem) (m n : ℕ) (o : Offence) → m ≤ n → comes_first (offence_of x m) o ≡ false → comes_first (offence_of x n) o ≡ false
later_net x m n o h k = by_test (is_before (place_of x) o.place) (not (is_before o.place (place_of x))) m n o.net h k

item_of : (nets : List Net) (sources : List (Option ℕ)) (items : List FlatItem) (k n : ℕ) → Offends nets sources items k n → (x : FlatItem) × (slice_get items k ≡ Some x)
item_of nets sources items k n (inl h) = (h.item, h.is)
item_of nets sources items k n (inr h) = (h.item, h.is)

found_first : (nets : List Net) (sources table : List (Option ℕ)) (items : List FlatItem) (found : List (Option ℕ)) (k n : ℕ) → AreClocks nets sources items table → length found ≡ length items → AreNets nets sources table items found → Offends nets sources items k n
    → (m : ℕ) × (Found found k m × (m ≤ n))
found_first nets sources table items found k n are long each h = at_item (item_of nets sources items k n h) where
  at_item : (x : FlatItem) × (slice_get items k ≡ Some x) → (m : ℕ) × (Found found k m × (m ≤ n))
  at_item (x, at) = let inside = slice_get_within items k x at in by _ (slice_get-get_or found k None (omega arith)) (each k x _ at (slice_get-get_or found k None (omega arith))) where
    by : (o : Option ℕ) → slice_get found k ≡ Some o → IsLeastOf (OffendsBy nets sources table (take k items) x) o → (m : ℕ) × (Found found k m × (m ≤ n))
    by None is l = absurd (l n (from_offence nets sources table items k n x are at h))
    by (Some m) is l = (m, (is, l.least n (from_offence nets sources table items k n x are at h)))

first_is : (nets : List Net) (sources table : List (Option ℕ)) (items : List FlatItem) (found : List (Option ℕ)) (o : Offence) → AreClocks nets sources items table → length found ≡ length items → AreNets nets sources table items found → IsFirstOffence items (Found found) o → IsFirstOffence items (Offends nets sources items) o
first_is nets sources table items found o are long each h = record {
  number = h.number;
  item = h.item;
  there = h.there;
  is = h.is;
  offence = let l : IsLeastOf (OffendsBy nets sources table (take h.number items) h.item) (Some o.net) = each h.number h.item (Some o.net) h.there h.offence in to_offence nets sources table items h.number o.net h.item are h.there l.has;
  first = λ k n x at g. let f = found_first nets sources table items found k n are long each g in later_net x f.0 n o f.1.1 (h.first k f.0 x at f.1.0);
}

pub answer_first : (nets : List Net) (sources table : List (Option ℕ)) (items : List FlatItem) (found : List (Option ℕ)) (best : Option Offence) → AreSources nets items sources → AreClocks nets sources items table → length found ≡ length items → AreNets nets sources table items found → IfSome best (λ o. IsFirstOffence items (Found found) o) → IfSome best (λ o. IsClockOffence nets items o)
answer_first nets sources table items found None own are long each h = tt
answer_first nets sources table items found (Some o) own are long each h = record { sources = sources; are = own; first = first_is nets sources table items found o are long each h }

pub answer_none : (nets : List Net) (sources table : List (Option ℕ)) (items : List FlatItem) (found : List (Option ℕ)) (best : Option Offence) → AreSources nets items sources → AreClocks nets sources items table → length found ≡ length items → AreNets nets sources table items found → IfNone best ((k n : ℕ) → Found found k n → ⊥) → IfNone best (HasNoClockOffence nets items)
answer_none nets sources table items found None own are long each h = record { sources = sources; are = own; none = λ k n g. let f = found_first nets sources table items found k n are long each g in h k f.0 f.1.0 }
answer_none nets sources table items found (Some o) own are long each h = tt
