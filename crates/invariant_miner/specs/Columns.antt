-- Latches listed by keys of their columns. The column of a latch is what it is in all sample states; latches with one
-- column have one key, and a latch has the key of the opposite of its own opposite.
use Rattle.std.specs.Prelude.{◌≡◌, ℕ, zero, suc, ◌-◌, ◌*◌, ◌%◌, ◌^◌, ◌<◌, Bool, true, false, eqb, List, [], length, slice_index, slice_index_or, bit_and, bit_xor}
use Rattle.std.specs.List.{filter, range_with_len}
use Rattle.std.specs.Int.{w64, bit_not}

-- a latch in a row, or its opposite, in the runs with `live` 1
abbrev pub masked : Bool → List ℕ → ℕ → ℕ
masked true row n = bit_and (slice_index row 0) (bit_not w64 (slice_index row n))
masked false row n = bit_and (slice_index row 0) (slice_index row n)

-- the key after one word more
unfoldable pub mixed : ℕ → ℕ → ℕ
mixed key word = bit_xor key word * 11400714819323198485 % 2 ^ 64

-- the key of the column of a latch, or of its opposite, in the first rows
abbrev pub column_key : List (List ℕ) → Bool → ℕ → ℕ → ℕ
column_key rows inverted n zero = 0
column_key rows inverted n (suc k) = mixed (column_key rows inverted n k) (masked inverted (slice_index_or rows k []) n)

-- the list of a latch, of so many
abbrev pub column_place : List (List ℕ) → ℕ → Bool → ℕ → ℕ
column_place rows size inverted n = column_key rows inverted n (length rows) % size

-- so many lists of the latches from 1 to n - 1 in rising order, each latch in its list
pub record AreColumns (rows : List (List ℕ)) (size n : ℕ) (lists : List (List ℕ)) : Type 0 where
  pub count : length lists ≡ size
  pub each : (b : ℕ) → b < size → slice_index_or lists b [] ≡ filter (λ m. eqb (column_place rows size false m) b) (range_with_len 1 (n - 1))

-- the words of the rows are of 64 bits
pub record AreWords (rows : List (List ℕ)) : Type 0 where
  pub each : (k i : ℕ) → slice_index (slice_index_or rows k []) i < 2 ^ 64
