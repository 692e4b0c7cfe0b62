-- The words of the generator xoshiro256++, seeded from 64 bits, one after the other.
use Rattle.std.specs.Prelude.{ℕ, zero, suc, ◌%◌, ◌==◌, Bool, List, [], ◌∷◌, map}
use Rattle.rand_xoshiro.specs.Xoshiro256.{plus_plus, of_seed}
use Rattle.rand_xoshiro.specs.SplitMix64.{splitmix_seed}

-- the state of a seed, and the word and the next state of a state
unfoldable pub seeded : ℕ → List ℕ
seeded seed = of_seed (splitmix_seed 32 seed)

unfoldable pub word : List ℕ → ℕ
word state = (plus_plus state).0

unfoldable pub next_state : List ℕ → List ℕ
next_state state = (plus_plus state).1

abbrev pub words_from : ℕ → List ℕ → List ℕ
words_from zero state = []
words_from (suc count) state = word state ∷ words_from count (next_state state)

-- the lowest bits of so many words
unfoldable pub drawn_bits : ℕ → ℕ → List Bool
drawn_bits seed count = map (λ w. w % 2 == 1) (words_from count (seeded seed))
