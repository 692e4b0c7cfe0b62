-- The order of places: by file, then by line, then by column.
use Rattle.std.specs.Prelude.{◌≡◌, ℕ, Bool, true, false, ◌&&◌, ◌||◌, ◌==◌, nat_lt, if◌then◌else◌, List, Contains, Some, slice_get}
use Rattle.bit_base.specs.declared.place.Place.{Place}

-- the first stands before the second
abbrev pub is_before : Place → Place → Bool
is_before p q = nat_lt p.file q.file || (p.file == q.file && (nat_lt p.line q.line || (p.line == q.line && nat_lt p.column q.column)))

-- the one of the two that stands before the other
abbrev pub earlier : Place → Place → Place
earlier p q = if is_before q p then q else p

-- one of the places, and none of them stands before it
pub record IsFirst (p : Place) (places : List Place) : Type 0 where
  pub among : Contains places p
  pub before : (k : ℕ) (q : Place) → slice_get places k ≡ Some q → is_before q p ≡ false

-- no place stands before itself
abbrev pub NotBeforeItself : Type 0
NotBeforeItself = (p : Place) → is_before p p ≡ false

-- what stands before a place stands before all that it stands before
abbrev pub BeforeGoesOn : Type 0
BeforeGoesOn = (p q r : Place) → is_before p q ≡ true → is_before q r ≡ true → is_before p r ≡ true

-- of two unlike places one stands before the other
abbrev pub OneIsBefore : Type 0
OneIsBefore = (p q : Place) → is_before p q ≡ false → is_before q p ≡ false → p ≡ q
