-- Sets of numbers as tables: what is past the table is out.
use Rattle.std.specs.Prelude.{◌≡◌, ℕ, Bool, false, not, ◌&&◌, ◌||◌, List, slice_index_or}

abbrev pub in_table : List Bool → ℕ → Bool
in_table table i = slice_index_or table i false

-- the table has grown by those of a set that aren't shut out
abbrev pub Grows : List Bool → (ℕ → Bool) → List Bool → List Bool → Type 0
Grows old set shut new = (i : ℕ) → in_table new i ≡ (in_table old i || (set i && not (in_table shut i)))

-- the table has grown by a set
abbrev pub Gains : List Bool → (ℕ → Bool) → List Bool → Type 0
Gains old set new = (i : ℕ) → in_table new i ≡ (in_table old i || set i)
