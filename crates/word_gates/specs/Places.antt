-- The table of the operators of one place: by its number, what each says of two bits, and how many gates it adds at most.
use Rattle.std.specs.Prelude.{ℕ, Bool, not, ◌&&◌, ◌||◌, ◌==◌, if◌then◌else◌, List, [], ◌∷◌}
use Rattle.bit_base.specs.Operators.{differ}

-- 0 is `&`, 1 is `|`, 2 is `^`, 3 is `~^` (IEEE 1364-2005, 5.1.10)
abbrev pub place_of : ℕ → Bool → Bool → Bool
place_of operator x y =
    if operator == 0 then x && y else (if operator == 1 then x || y else (if operator == 2 then differ x y else not (differ x y)))

-- gates of a place
abbrev pub gates_of : ℕ → ℕ
gates_of operator = if operator == 0 then 1 else (if operator == 1 then 1 else 3)

-- a bit with each of a list in turn
abbrev pub chained : (Bool → Bool → Bool) → Bool → List Bool → Bool
chained f x [] = x
chained f x (y ∷ ys) = chained f (f x y) ys
