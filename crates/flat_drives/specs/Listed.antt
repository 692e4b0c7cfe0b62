-- The nets of listed bits.
use Rattle.std.specs.Prelude.{ℕ, List, [], ◌∷◌, ◌++◌, Option, Some, None, slice_get}

abbrev pub listed : Option ℕ → List ℕ
listed None = []
listed (Some n) = n ∷ []

abbrev pub nets_of : List ℕ → List ℕ → List ℕ
nets_of owners [] = []
nets_of owners (i ∷ bits) = listed (slice_get owners i) ++ nets_of owners bits
