-- Emptying a table by the list of its members.
use Rattle.std.specs.Prelude.{ℕ, Bool, false, List, [], ◌∷◌, slice_set}

-- the table without these numbers, the last of them first
abbrev pub cleared : List ℕ → List Bool → List Bool
cleared [] table = table
cleared (number ∷ numbers) table = slice_set (cleared numbers table) number false
