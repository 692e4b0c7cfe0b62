-- Bus words that two registers have in common, and where that is refused: at the later of the two.
use Rattle.std.specs.Prelude.{◌≡◌, ◌≢◌, ℕ, false, if◌then◌else◌, List, Some, slice_get}
use Rattle.bit_base.specs.declared.place.Place.{Place}
use Rattle.bit_base.specs.Places.{is_before}
use Rattle.rdl_words.specs.Spots.{Spot}

-- the one of two places that doesn't stand before the other
abbrev pub later : Place → Place → Place
later p q = if is_before q p then p else q

-- two words of a list have one address; a register has each of its words once
pub record IsClash (words : List Spot) (p : Place) : Type 0 where
  pub first : ℕ
  pub second : ℕ
  pub a : Spot
  pub b : Spot
  pub apart : first ≢ second
  pub here : slice_get words first ≡ Some a
  pub there : slice_get words second ≡ Some b
  pub same : a.address ≡ b.address
  pub place : p ≡ later a.place b.place

-- the first of them
pub record IsFirstClash (words : List Spot) (p : Place) : Type 0 where
  pub is : IsClash words p
  pub first : (q : Place) → IsClash words q → is_before q p ≡ false

abbrev pub HasNone : List Spot → Type 0
HasNone words = (p : Place) → IsClash words p → ⊥
