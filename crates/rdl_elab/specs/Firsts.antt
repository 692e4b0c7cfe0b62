-- The first of places that have a property.
use Rattle.std.specs.Prelude.{◌≡◌, false, Option, Some, None}
use Rattle.bit_base.specs.declared.place.Place.{Place}
use Rattle.bit_base.specs.Places.{is_before, earlier}

-- a place that has it, and none before does; none only where no place has it
pub record IsFirstOf (P : Place → Type 0) (found : Option Place) : Type 0 where
  pub some : (p : Place) → found ≡ Some p → P p
  pub first : (p q : Place) → found ≡ Some p → P q → is_before q p ≡ false
  pub none : (q : Place) → found ≡ None → P q → ⊥

-- of two places that may be missing the one that stands before the other
abbrev pub earlier_of : Option Place → Option Place → Option Place
earlier_of None b = b
earlier_of (Some p) None = Some p
earlier_of (Some p) (Some q) = Some (earlier p q)
