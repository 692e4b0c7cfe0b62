-- The addresses of words are those of their spots.
use Rattle.std.proofs.Common.{◌≡◌, ℕ, List, [], ◌∷◌, map, refl, ap}
use Rattle.rdl_words.specs.declared.word.Word.{Word}
use Rattle.rdl_words.specs.Words.{spot}
use Rattle.rdl_numbers.specs.Orders.{address_of}

pub addresses : (ws : List Word) → map (λ (w : Word). w.address) ws ≡ map address_of (map spot ws)
addresses [] = refl
addresses (w ∷ ws) = ap (λ (xs : List ℕ). w.address ∷ xs) (addresses ws)
