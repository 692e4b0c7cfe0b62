-- The first of the loops that were found so far, by the places of their first nodes.
use Rattle.std.specs.Prelude.{◌≡◌, ◌<◌, ◌⊎◌, ℕ, true, false, List, Option, Some, None, slice_get}
use Rattle.bit_base.specs.declared.place.Place.{Place}
use Rattle.bit_base.specs.Places.{is_before}
use Rattle.flat_loops.specs.Graphs.{Graph}
use Rattle.flat_cycles.specs.Rounds.{IsRound, IsShut}
use Rattle.flat_ordered.specs.declared.first.Best.{Best}

-- a node at a place comes before another
abbrev pub Comes : Place → ℕ → Place → ℕ → Type 0
Comes q m p n = (is_before q p ≡ true) ⊎ ((is_before p q ≡ false) × (m < n))

-- the loop begins at the node of a number, and no node below the bound that comes before it begins one
pub record IsBest (graph : Graph) (places : List Place) (bound : ℕ) (b : Best) : Type 0 where
  pub below : b.number < bound
  pub at : slice_get places b.number ≡ Some b.place
  pub round : IsRound graph b.number b.round.items
  pub first : (m : ℕ) (q : Place) → m < bound → slice_get places m ≡ Some q → Comes q m b.place b.number → IsShut graph m

abbrev pub AreShut : Graph → ℕ → Type 0
AreShut graph bound = (m : ℕ) → m < bound → IsShut graph m

abbrev pub IsSoFar : Graph → List Place → ℕ → Option Best → Type 0
IsSoFar graph places bound None = AreShut graph bound
IsSoFar graph places bound (Some b) = IsBest graph places bound b

-- the loop that begins at the node, or the other where none does
abbrev pub IsNext : Graph → ℕ → Place → Option Best → Option Best → Type 0
IsNext graph number place other found = (IsShut graph number × (found ≡ other)) ⊎ ((b : Best) × ((found ≡ Some b) × ((b.number ≡ number) × ((b.place ≡ place) × IsRound graph number b.round.items))))
