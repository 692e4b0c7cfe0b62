-- Plain decimal numbers of any length (this project's own): without a sign, and without a zero before other digits.
use Rattle.std.specs.Prelude.{ℕ, ◌+◌, ◌-◌, ◌*◌, ◌^◌, ◌==◌, Bool, not, ◌&&◌, if◌then◌else◌, nat_le, nat_lt, min, Option, Some, None, List, [], ◌∷◌, length, slice_index}
use Rattle.std.specs.List.{list_all}

abbrev pub is_digit : ℕ → Bool
is_digit byte = nat_le 48 byte && nat_le byte 57

-- the value of digits that stand behind digits of this value
abbrev pub value_from : ℕ → List ℕ → ℕ
value_from n [] = n
value_from n (d ∷ ds) = value_from (10 * n + (d - 48)) ds

-- at least one digit, and no zero before others
abbrev pub is_plain : List ℕ → Bool
is_plain word = nat_lt 0 (length word) && not (nat_lt 1 (length word) && slice_index word 0 == 48) && list_all is_digit word

-- the number that a word is, if it is one; numbers from 2^32 - 1 on count as this one, which is the number of no clause
-- and of no variable
unfoldable pub number_of : List ℕ → Option ℕ
number_of word = if is_plain word then Some (min (value_from 0 word) (2 ^ 32 - 1)) else None
