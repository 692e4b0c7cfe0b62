-- The least net of listed bits.
use Rattle.std.proofs.Common.{◌≡◌, ◌⊎◌, inl, inr, ℕ, ◌≤◌, Bool, true, false, ◌||◌, ◌==◌, List, [], ◌∷◌, ◌++◌, Option, Some, None, refl, sym, ◌∙◌, ap, subst, eq-eqb}
use Rattle.std.specs.Prelude.{slice_get, IfSome, IfNone}
use Rattle.std.specs.List.{list_any}
use Rattle.std.proofs.lemmas.Bool.{eqb-true}
use Rattle.flat_design.specs.Bits.{Set}
use Rattle.flat_orders.specs.Orders.{among}
use Rattle.flat_drives.specs.Listed.{listed, nets_of}
use Rattle.flat_drives.specs.Least.{HasNet, IsLeast, IsLeastNet}

or_by : (a b : Bool) → a || b ≡ true → (a ≡ true) ⊎ (b ≡ true)
or_by true b h = inl refl
or_by false b h = inr h

or_left : (a b : Bool) → a ≡ true → a || b ≡ true
or_left true b h = refl
or_left false b h = cc

or_right : (a b : Bool) → b ≡ true → a || b ≡ true
or_right true b h = refl
or_right false b h = h

abbrev pub Listed : List ℕ → Set
Listed bits i = among i bits

more_has : (owners bits : List ℕ) (i n : ℕ) → HasNet owners (Listed bits) n → HasNet owners (Listed (i ∷ bits)) n
more_has owners bits i n h = record { bit = h.bit; at = h.at; is = or_right (i == h.bit) (among h.bit bits) h.is }

from_more : (owners bits : List ℕ) (i n : ℕ) → (among n (nets_of owners bits) ≡ true → HasNet owners (Listed bits) n) → (o : Option ℕ) → slice_get owners i ≡ o → among n (listed o ++ nets_of owners bits) ≡ true → HasNet owners (Listed (i ∷ bits)) n
from_more owners bits i n rest None e k = more_has owners bits i n (rest k)
from_more owners bits i n rest (Some m) e k = elim (or_by (m == n) (among n (nets_of owners bits)) k) [
  | inl q ↦ record { bit = i; at = e ∙ ap Some (eqb-true m n q); is = or_left (i == i) (among i bits) (eq-eqb i i refl) }
  | inr more ↦ more_has owners bits i n (rest more)
]

-- a net in the list has a bit of the list
pub from_list : (owners bits : List ℕ) (n : ℕ) → among n (nets_of owners bits) ≡ true → HasNet owners (Listed bits) n
from_list owners [] n h = cc
from_list owners (i ∷ bits) n h = from_more owners bits i n (from_list owners bits n) (slice_get owners i) refl h

pub to_list : (owners bits : List ℕ) (i n : ℕ) → slice_get owners i ≡ Some n → among i bits ≡ true → among n (nets_of owners bits) ≡ true
to_list owners [] i n at h = cc
to_list owners (j ∷ bits) i n at h = elim (or_by (j == i) (among i bits) h) [
  | inl q ↦ here (slice_get owners j) (ap (slice_get owners) (eqb-true j i q) ∙ at)
  | inr rest ↦ there (slice_get owners j) (to_list owners bits i n at rest)
] where
  here : (o : Option ℕ) → o ≡ Some n → among n (listed o ++ nets_of owners bits) ≡ true
  here None e = cc
  here (Some m) e = or_left (m == n) _ (eq-eqb m n cc)

  there : (o : Option ℕ) → among n (nets_of owners bits) ≡ true → among n (listed o ++ nets_of owners bits) ≡ true
  there None k = k
  there (Some m) k = or_right (m == n) _ k

pub least_is : (owners bits nets : List ℕ) (o : Option ℕ) → nets ≡ nets_of owners bits → IfSome o (λ n. among n nets ≡ true) → IfSome o (λ n. (m : ℕ) → among m nets ≡ true → n ≤ m) → IfNone o ((m : ℕ) → among m nets ≡ false)
    → IsLeastNet owners (Listed bits) o
least_is owners bits nets None is s l none = λ m h. differ (among m nets) (ap (among m) is ∙ to_list owners bits h.bit m h.at h.is) (none m) where
  differ : (b : Bool) → b ≡ true → b ≡ false → ⊥
  differ b h k = cc
least_is owners bits nets (Some n) is s l none = record { has = from_list owners bits n (ap (among n) (sym is) ∙ s); least = λ m h. l m (ap (among m) is ∙ to_list owners bits h.bit m h.at h.is) }

same_has : (owners : List ℕ) (f g : Set) (n : ℕ) → ((i : ℕ) → f i ≡ g i) → HasNet owners f n → HasNet owners g n
same_has owners f g n e h = record { bit = h.bit; at = h.at; is = sym (e h.bit) ∙ h.is }

pub least_same : (owners : List ℕ) (f g : Set) (o : Option ℕ) → ((i : ℕ) → f i ≡ g i) → IsLeastNet owners f o → IsLeastNet owners g o
least_same owners f g None e h = λ m k. h m (same_has owners g f m (λ i. sym (e i)) k)
least_same owners f g (Some n) e h = record { has = same_has owners f g n e h.has; least = λ m k. h.least m (same_has owners g f m (λ i. sym (e i)) k) }
