-- The first latch from the first nets of the items.
use Rattle.std.proofs.Common.{◌≡◌, ℕ, ◌≤◌, Bool, true, false, not, ◌&&◌, ◌||◌, List, length, Option, Some, None, refl, sym, ◌∙◌, ap, subst, arith}
use Rattle.std.specs.Prelude.{slice_get, nat_lt, IfSome, IfNone}
use Rattle.std.proofs.lemmas.Bool.Decides.{nat_tests}
use Rattle.std.proofs.lemmas.Option.{slice_get_within, slice_get-get_or}
use Rattle.bit_base.specs.Places.{is_before}
use Rattle.flat_design.specs.declared.net.Net.{Net}
use Rattle.flat_design.specs.declared.item.FlatItem.{FlatItem}
use Rattle.flat_design.specs.Systems.{place_of}
use Rattle.flat_offences.specs.declared.offence.Offence.{Offence}
use Rattle.flat_offences.specs.Offences.{comes_first, offence_of, IsFirstOffence, Found}
use Rattle.flat_latched.specs.declared.item.NetLatch.{NetLatch}
use Rattle.flat_latched.specs.Latched.{LeavesNet, Latches, IsFirstLatch}
use Rattle.flat_latched.specs.Least.{HasNone, IsNetOf, IsItemNet, IsItemLatch, IsAt}

pub some_same : {A : Type 0} {a b : A} → Some a ≡ Some b → a ≡ b
some_same {A} {a} {b} e = cc

abbrev pub AreNets : List Net → List FlatItem → List (Option ℕ) → Type 0
AreNets nets items found = (k : ℕ) (x : FlatItem) (o : Option ℕ) → slice_get items k ≡ Some x → slice_get found k ≡ Some o → IsNetOf nets x o

-- of a later net
by_test : (a b : Bool) (m n r : ℕ) → m ≤ n → a || (b && nat_lt m r) ≡ false → a || (b && nat_lt n r) ≡ false
by_test true b m n r h k = k
by_test false true m n r h k = grind (arith, nat_tests)
by_test false false m n r h k = refl

later_net : (x : FlatItem) (m n : ℕ) (o : Offence) → m ≤ n → comes_first (offence_of x m) o ≡ false → comes_first (offence_of x n) o ≡ false
later_net x m n o h k = by_test (is_before (place_of x) o.place) (not (is_before o.place (place_of x))) m n o.net h k

-- a net was found for an item that has a latch, and it is no later
found_first : (nets : List Net) (items : List FlatItem) (found : List (Option ℕ)) (k n : ℕ) (x : FlatItem) → length found ≡ length items → AreNets nets items found → slice_get items k ≡ Some x → Latches nets items k n → (m : ℕ) × (Found found k m × (m ≤ n))
found_first nets items found k n x long each at h =
    let inside = slice_get_within items k x at in
    by _ (slice_get-get_or found k None (omega arith)) (each k x _ at (slice_get-get_or found k None (omega arith))) where
      here : LeavesNet nets x n h.path
      here = subst (λ y. LeavesNet nets y n h.path) (some_same (sym h.is ∙ at)) h.leaves

      by : (o : Option ℕ) → slice_get found k ≡ Some o → IsNetOf nets x o → (m : ℕ) × (Found found k m × (m ≤ n))
      by None is l = absurd (l n h.path here)
      by (Some m) is l = (m, (is, l.least n h.path here))

pub no_latch : (nets : List Net) (items : List FlatItem) (found : List (Option ℕ)) → length found ≡ length items → AreNets nets items found → ((k n : ℕ) → Found found k n → ⊥) → (k n : ℕ) → Latches nets items k n → ⊥
no_latch nets items found long each none k n h = let f = found_first nets items found k n h.item long each h.is h in none k f.0 f.1.0

-- the net that was found is that of the latch
same_net : (m n : ℕ) → m ≤ n → n ≤ m → m ≡ n
same_net m n a b = omega arith

pub first_latch : (nets : List Net) (items : List FlatItem) (found : List (Option ℕ)) (o : Offence) (x : FlatItem) (l : NetLatch) → length found ≡ length items → AreNets nets items found → IsFirstOffence items (Found found) o → IsAt items found o x → IsItemLatch nets x l
    → IsFirstLatch nets items o l.path.items
first_latch nets items found o x l long each h at is = record {
  first = record {
    number = at.number;
    item = x;
    there = at.there;
    is = λ i. record { place = at.place i; net = o.net };
    offence = record { item = x; is = at.there; path = l.path.items; leaves = leaves };
    first = λ j n y there g. let f = found_first nets items found j n y long each there g in later_net y f.0 n o f.1.1 (h.first j f.0 y there f.1.0);
  };
  path_leaves = leaves;
} where
  own : IsItemNet nets x o.net
  own = each at.number x (Some o.net) at.there at.net

  leaves : LeavesNet nets x o.net l.path.items
  leaves = subst (λ n. LeavesNet nets x n l.path.items) (same_net l.net o.net (is.least o.net own.path own.leaves) (own.least l.net l.path.items is.leaves)) is.leaves

-- an item with the net has a latch
pub has_latch : (nets : List Net) (items : List FlatItem) (found : List (Option ℕ)) (o : Offence) (x : FlatItem) → AreNets nets items found → IsAt items found o x → HasNone nets x → ⊥
has_latch nets items found o x each at none = let own : IsItemNet nets x o.net = each at.number x (Some o.net) at.there at.net in none o.net own.path own.leaves

-- the first offence stands at such an item
pub is_somewhere : (items : List FlatItem) (found : List (Option ℕ)) (o : Offence) → (h : IsFirstOffence items (Found found) o) → IsAt items found o h.item
is_somewhere items found o h = record { number = h.number; there = h.there; place = ap (λ p. p.place) h.is; net = h.offence }

-- ---- answers

pub from_some : {A : Type 0} (o : Option A) (x : A) (P : A → Type 0) → o ≡ Some x → IfSome o P → P x
from_some None x P e h = absurd (cc e)
from_some (Some y) x P e h = subst P (some_same e) h

pub no_some : {A : Type 0} (o : Option A) (P : Type 0) → ((x : A) → o ≡ Some x → ⊥) → IfNone o P → P
no_some None P out h = h
no_some (Some x) P out h = absurd (out x refl)
