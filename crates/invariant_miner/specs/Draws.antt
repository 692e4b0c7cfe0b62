-- The words of the generator xoshiro256++, seeded from 64 bits, one after the other.
use Rattle.std.specs.Prelude.{ℕ, zero, suc, List}
use Rattle.rand_xoshiro.specs.Xoshiro256.{plus_plus, of_seed}
use Rattle.rand_xoshiro.specs.SplitMix64.{splitmix_seed}

-- the generator's state for a seed
unfoldable pub seeded : ℕ → List ℕ
seeded seed = of_seed (splitmix_seed 32 seed)

-- the word that a state gives, and the state after it
unfoldable pub word : List ℕ → ℕ
word state = (plus_plus state).0

unfoldable pub next : List ℕ → List ℕ
next state = (plus_plus state).1

-- the state after so many words, and the word that it then gives
unfoldable pub later : ℕ → List ℕ → List ℕ
later zero state = state
later (suc count) state = later count (next state)

abbrev pub word_at : List ℕ → ℕ → ℕ
word_at state i = word (later i state)
