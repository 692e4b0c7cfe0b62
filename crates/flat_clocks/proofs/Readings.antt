-- Bits that come from clocks, and the least clock that is read.
use Rattle.std.proofs.Common.{◌≡◌, ◌⊎◌, inl, inr, ℕ, zero, suc, ◌≤◌, Bool, true, false, ◌||◌, ◌==◌, List, [], ◌∷◌, ◌++◌, map, Option, Some, None, refl, sym, ◌∙◌, ap, eq-eqb}
use Rattle.std.specs.Prelude.{slice_get, IfSome, IfNone, if◌then◌else◌, is_some}
use Rattle.std.proofs.lemmas.Bool.{eqb-true}
use Rattle.flat_design.specs.declared.net.Net.{Net}
use Rattle.flat_design.specs.declared.item.FlatItem.{FlatItem}
use Rattle.flat_design.specs.Bits.{Set}
use Rattle.flat_design.specs.Systems.{item_flow}
use Rattle.flat_orders.specs.Orders.{among}
use Rattle.flat_flows.specs.Tables.{in_table}
use Rattle.flat_offences.specs.Owners.{AreOwners}
use Rattle.flat_drives.specs.Listed.{listed}
use Rattle.flat_ties.specs.Ties.{net_in, tie_of}
use Rattle.flat_clocks.specs.Signals.{is_clock}
use Rattle.flat_clocks.specs.Least.{IsLeastOf, HasNumber, HasClock, numbers_of, if_clock, clock_from, AreClocks}

or_by : (a b : Bool) → a || b ≡ true → (a ≡ true) ⊎ (b ≡ true)
or_by true b h = inl refl
or_by false b h = inr h

or_left : (a b : Bool) → a ≡ true → a || b ≡ true
or_left true b h = refl
or_left false b h = cc

or_right : (a b : Bool) → b ≡ true → a || b ≡ true
or_right true b h = refl
or_right false b h = h

-- ---- the least number of listed bits

abbrev Listed : List ℕ → Set
Listed bits i = among i bits

more_has : (table : List (Option ℕ)) (bits : List ℕ) (i n : ℕ) → HasNumber table (Listed bits) n → HasNumber table (Listed (i ∷ bits)) n
more_has table bits i n h = record { bit = h.bit; at = h.at; is = or_right (i == h.bit) (among h.bit bits) h.is }

from_more : (table : List (Option ℕ)) (bits : List ℕ) (i n : ℕ) → (among n (numbers_of table bits) ≡ true → HasNumber table (Listed bits) n) → (o : Option ℕ) → net_in table i ≡ o → among n (listed o ++ numbers_of table bits) ≡ true → HasNumber table (Listed (i ∷ bits)) n
from_more table bits i n rest None e k = more_has table bits i n (rest k)
from_more table bits i n rest (Some m) e k = elim (or_by (m == n) (among n (numbers_of table bits)) k) [
  | inl q ↦ record { bit = i; at = e ∙ ap Some (eqb-true m n q); is = or_left (i == i) (among i bits) (eq-eqb i i refl) }
  | inr more ↦ more_has table bits i n (rest more)
]

from_list : (table : List (Option ℕ)) (bits : List ℕ) (n : ℕ) → among n (numbers_of table bits) ≡ true → HasNumber table (Listed bits) n
from_list table [] n h = cc
from_list table (i ∷ bits) n h = from_more table bits i n (from_list table bits n) (net_in table i) refl h

to_list : (table : List (Option ℕ)) (bits : List ℕ) (i n : ℕ) → net_in table i ≡ Some n → among i bits ≡ true → among n (numbers_of table bits) ≡ true
to_list table [] i n at h = cc
to_list table (j ∷ bits) i n at h = elim (or_by (j == i) (among i bits) h) [
  | inl q ↦ here (net_in table j) (ap (net_in table) (eqb-true j i q) ∙ at)
  | inr rest ↦ there (net_in table j) (to_list table bits i n at rest)
] where
  here : (o : Option ℕ) → o ≡ Some n → among n (listed o ++ numbers_of table bits) ≡ true
  here None e = cc
  here (Some m) e = or_left (m == n) _ (eq-eqb m n cc)

  there : (o : Option ℕ) → among n (numbers_of table bits) ≡ true → among n (listed o ++ numbers_of table bits) ≡ true
  there None k = k
  there (Some m) k = or_right (m == n) _ k

pub least_is : (table : List (Option ℕ)) (bits numbers : List ℕ) (o : Option ℕ) → numbers ≡ numbers_of table bits → IfSome o (λ n. among n numbers ≡ true) → IfSome o (λ n. (m : ℕ) → among m numbers ≡ true → n ≤ m) → IfNone o ((m : ℕ) → among m numbers ≡ false)
    → IsLeastOf (HasNumber table (Listed bits)) o
least_is table bits numbers None is s l none = λ m h. differ (among m numbers) (ap (among m) is ∙ to_list table bits h.bit m h.at h.is) (none m) where
  differ : (b : Bool) → b ≡ true → b ≡ false → ⊥
  differ b h k = cc
least_is table bits numbers (Some n) is s l none = record { has = from_list table bits n (ap (among n) (sym is) ∙ s); least = λ m h. l m (ap (among m) is ∙ to_list table bits h.bit m h.at h.is) }

-- ---- what an item reads

to_read : (nets : List Net) (table : List (Option ℕ)) (x : FlatItem) (bits : Set) (n : ℕ) → tie_of x ≡ None → ((i : ℕ) → bits i ≡ (item_flow nets x).reads i) → HasNumber table bits n → HasClock nets table x n
to_read nets table x bits n other e h = record { other = other; number = record { bit = h.bit; at = h.at; is = sym (e h.bit) ∙ h.is } }

from_read : (nets : List Net) (table : List (Option ℕ)) (x : FlatItem) (bits : Set) (n : ℕ) → ((i : ℕ) → bits i ≡ (item_flow nets x).reads i) → HasClock nets table x n → HasNumber table bits n
from_read nets table x bits n e h = record { bit = h.number.bit; at = h.number.at; is = e h.number.bit ∙ h.number.is }

pub least_read : (nets : List Net) (table : List (Option ℕ)) (x : FlatItem) (bits : Set) (o : Option ℕ) → tie_of x ≡ None → ((i : ℕ) → bits i ≡ (item_flow nets x).reads i) → IsLeastOf (HasNumber table bits) o → IsLeastOf (HasClock nets table x) o
least_read nets table x bits None other e h = λ n k. h n (from_read nets table x bits n e k)
least_read nets table x bits (Some n) other e h = record { has = to_read nets table x bits n other e h.has; least = λ m k. h.least m (from_read nets table x bits m e k) }

pub tied_reads_none : (nets : List Net) (table : List (Option ℕ)) (x : FlatItem) → is_some (tie_of x) ≡ true → (n : ℕ) → HasClock nets table x n → ⊥
tied_reads_none nets table x h n k = by (tie_of x) h k.other where
  by : {A : Type 0} (o : Option A) → is_some o ≡ true → o ≡ None → ⊥
  by {A} None h e = cc h
  by {A} (Some a) h e = cc e

pub untied : {A : Type 0} (o : Option A) → is_some o ≡ false → o ≡ None
untied {A} None h = refl
untied {A} (Some a) h = absurd (cc h)

-- ---- tables of clocks

if_by : (b : Bool) (k n : ℕ) → (if b then Some k else None) ≡ Some n → (k ≡ n) × (b ≡ true)
if_by true k n h = (cc, refl)
if_by false k n h = absurd (cc h)

if_out : (clocks : List Bool) (s : Option ℕ) (n : ℕ) → if_clock clocks s ≡ Some n → (s ≡ Some n) × (in_table clocks n ≡ true)
if_out clocks None n h = absurd (cc h)
if_out clocks (Some k) n h = let r = if_by (in_table clocks k) k n h in (ap Some r.0, sym (ap (in_table clocks) r.0) ∙ r.1)

if_in : (clocks : List Bool) (s : Option ℕ) (n : ℕ) → s ≡ Some n → in_table clocks n ≡ true → if_clock clocks s ≡ Some n
if_in clocks s n e h = ap (if_clock clocks) e ∙ ap (λ b. if b then Some n else None) h

mapped_out : (f : ℕ → Option ℕ) (xs : List ℕ) (i n : ℕ) → net_in (map f xs) i ≡ Some n → (m : ℕ) × ((slice_get xs i ≡ Some m) × (f m ≡ Some n))
mapped_out f [] i n h = absurd (cc h)
mapped_out f (x ∷ xs) zero n h = (x, (refl, h))
mapped_out f (x ∷ xs) (suc i) n h = mapped_out f xs i n h

some_same : {A : Type 0} {a b : A} → Some a ≡ Some b → a ≡ b
some_same {A} {a} {b} e = cc

mapped_in : (f : ℕ → Option ℕ) (xs : List ℕ) (i m n : ℕ) → slice_get xs i ≡ Some m → f m ≡ Some n → net_in (map f xs) i ≡ Some n
mapped_in f [] i m n at h = absurd (cc at)
mapped_in f (x ∷ xs) zero m n at h = ap f (some_same at) ∙ h
mapped_in f (x ∷ xs) (suc i) m n at h = mapped_in f xs i m n at h

pub are_clocks : (nets : List Net) (sources : List (Option ℕ)) (items : List FlatItem) (owners : List ℕ) (clocks : List Bool) (table : List (Option ℕ)) → AreOwners nets owners → ((n : ℕ) → in_table clocks n ≡ is_clock sources items n) → table ≡ map (clock_from sources clocks) owners
    → AreClocks nets sources items table
are_clocks nets sources items owners clocks table own are e = record {
  only = λ bit n h.
      let r = mapped_out (clock_from sources clocks) owners bit n (ap (λ t. net_in t bit) (sym e) ∙ h) in
      let s = if_out clocks (net_in sources r.0) n r.1.1 in
      record { net = r.0; inside = own.only bit r.0 r.1.0; source = s.0; clock = sym (are n) ∙ s.1 };
  all = λ bit n h. ap (λ t. net_in t bit) e ∙ mapped_in (clock_from sources clocks) owners bit h.net n (own.all bit h.net h.inside) (if_in clocks (net_in sources h.net) n h.source (are n ∙ h.clock));
}
