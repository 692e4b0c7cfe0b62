-- The first offence of drivers from the least nets of the items.
use Rattle.std.proofs.Common.{◌≡◌, ◌⊎◌, inl, inr, ℕ, ◌≤◌, ◌<◌, Bool, true, false, not, ◌&&◌, ◌||◌, List, length, take, Option, Some, None, refl, sym, ◌∙◌, ap, subst, arith}
use Rattle.std.specs.Prelude.{slice_get, nat_lt, IfSome, IfNone}
use Rattle.std.proofs.lemmas.Bool.Decides.{nat_tests}
use Rattle.std.proofs.lemmas.Option.{slice_get_within, slice_get-get_or}
use Rattle.bit_base.specs.Places.{is_before}
use Rattle.flat_design.specs.declared.net.Net.{Net}
use Rattle.flat_design.specs.declared.item.FlatItem.{FlatItem}
use Rattle.flat_design.specs.Systems.{place_of}
use Rattle.flat_offences.specs.declared.offence.Offence.{Offence}
use Rattle.flat_offences.specs.Offences.{comes_first, offence_of, IsFirstOffence, Found}
use Rattle.flat_offences.specs.Owners.{AreOwners}
use Rattle.flat_drives.specs.Drives.{offending, Offends}
use Rattle.flat_drives.specs.Least.{HasNet, IsLeast, IsLeastNet}
use Rattle.flat_drives.proofs.Steps.{some_same}

abbrev pub AreLeast : List Net → List FlatItem → List ℕ → List (Option ℕ) → Type 0
AreLeast nets items owners found = (k : ℕ) (x : FlatItem) (o : Option ℕ) → slice_get items k ≡ Some x → slice_get found k ≡ Some o → IsLeastNet owners (offending nets (take k items) items x) o

-- of a later net
by_test : (a b : Bool) (m n r : ℕ) → m ≤ n → a || (b && nat_lt m r) ≡ false → a || (b && nat_lt n r) ≡ false
by_test true b m n r h k = k
by_test false true m n r h k = grind (arith, nat_tests)
by_test false false m n r h k = refl

later_net : (x : FlatItem) (m n : ℕ) (o : Offence) → m ≤ n → comes_first (offence_of x m) o ≡ false → comes_first (offence_of x n) o ≡ false
later_net x m n o h k = by_test (is_before (place_of x) o.place) (not (is_before o.place (place_of x))) m n o.net h k

offends_of : (nets : List Net) (items : List FlatItem) (owners : List ℕ) (k n : ℕ) (x : FlatItem) → AreOwners nets owners → slice_get items k ≡ Some x → HasNet owners (offending nets (take k items) items x) n → Offends nets items k n
offends_of nets items owners k n x own at h = record { item = x; is = at; bit = h.bit; inside = own.only h.bit n h.at; offends = h.is }

has_of : (nets : List Net) (items : List FlatItem) (owners : List ℕ) (k n : ℕ) (x : FlatItem) → AreOwners nets owners → slice_get items k ≡ Some x → Offends nets items k n → HasNet owners (offending nets (take k items) items x) n
has_of nets items owners k n x own at h =
    record { bit = h.bit; at = own.all h.bit n h.inside; is = subst (λ y. offending nets (take k items) items y h.bit ≡ true) (some_same (sym h.is ∙ at)) h.offends }

-- a net was found for an item that offends, and it is no later
pub found_first : (nets : List Net) (items : List FlatItem) (owners : List ℕ) (found : List (Option ℕ)) (k n : ℕ) (x : FlatItem) → AreOwners nets owners → length found ≡ length items → AreLeast nets items owners found → slice_get items k ≡ Some x → Offends nets items k n
    → (m : ℕ) × (Found found k m × (m ≤ n))
found_first nets items owners found k n x own long least at h =
    let inside = slice_get_within items k x at in
    by _ (slice_get-get_or found k None (omega arith)) (least k x _ at (slice_get-get_or found k None (omega arith))) where
      by : (o : Option ℕ) → slice_get found k ≡ Some o → IsLeastNet owners (offending nets (take k items) items x) o → (m : ℕ) × (Found found k m × (m ≤ n))
      by None is l = absurd (l n (has_of nets items owners k n x own at h))
      by (Some m) is l = (m, (is, l.least n (has_of nets items owners k n x own at h)))

first_is : (nets : List Net) (items : List FlatItem) (owners : List ℕ) (found : List (Option ℕ)) (o : Offence) → AreOwners nets owners → length found ≡ length items → AreLeast nets items owners found → IsFirstOffence items (Found found) o → IsFirstOffence items (Offends nets items) o
first_is nets items owners found o own long least h = record {
  number = h.number;
  item = h.item;
  there = h.there;
  is = h.is;
  offence = let l : IsLeast owners (offending nets (take h.number items) items h.item) o.net = least h.number h.item (Some o.net) h.there h.offence in offends_of nets items owners h.number o.net h.item own h.there l.has;
  first = λ k n x at g. let f = found_first nets items owners found k n x own long least at g in later_net x f.0 n o f.1.1 (h.first k f.0 x at f.1.0);
}

pub answer_first : (nets : List Net) (items : List FlatItem) (owners : List ℕ) (found : List (Option ℕ)) (best : Option Offence) → AreOwners nets owners → length found ≡ length items → AreLeast nets items owners found → IfSome best (λ o. IsFirstOffence items (Found found) o) → IfSome best (λ o. IsFirstOffence items (Offends nets items) o)
answer_first nets items owners found None own long least h = tt
answer_first nets items owners found (Some o) own long least h = first_is nets items owners found o own long least h

pub answer_none : (nets : List Net) (items : List FlatItem) (owners : List ℕ) (found : List (Option ℕ)) (best : Option Offence) → AreOwners nets owners → length found ≡ length items → AreLeast nets items owners found → IfNone best ((k n : ℕ) → Found found k n → ⊥) → IfNone best ((k n : ℕ) → Offends nets items k n → ⊥)
answer_none nets items owners found None own long least h = λ k n g. let f = found_first nets items owners found k n g.item own long least g.is g in h k f.0 f.1.0
answer_none nets items owners found (Some o) own long least h = tt
