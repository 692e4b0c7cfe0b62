-- Sixty-four runs at once: run r has bit r of each word.
use Rattle.std.specs.Prelude.{ℕ, ◌/◌, ◌%◌, ◌^◌, Bool, eqb, List, map, slice_index}

-- bit r of a word
unfoldable pub bit : ℕ → ℕ → Bool
bit r w = eqb (w / 2 ^ r % 2) 1

-- the bits of run r, one for each word
abbrev pub lane : ℕ → List ℕ → List Bool
lane r words = map (bit r) words

-- bit r of word i of a table
abbrev pub lane_at : ℕ → List ℕ → ℕ → Bool
lane_at r words i = bit r (slice_index words i)
