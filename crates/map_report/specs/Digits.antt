-- Hexadecimal digits, in lower case (this project's own).
use Rattle.std.specs.Prelude.{ℕ, zero, suc, ◌*◌, ◌/◌, ◌%◌, ◌^◌, List, [], ◌∷◌, slice_index_or, codes}

abbrev pub digit_at : ℕ → ℕ
digit_at d = slice_index_or (codes "0123456789abcdef") d 0

-- the lowest digits of a number, so many, the highest first
abbrev pub hex_of : ℕ → ℕ → List ℕ
hex_of zero n = []
hex_of (suc count) n = digit_at (n / 2 ^ (4 * count) % 16) ∷ hex_of count n
