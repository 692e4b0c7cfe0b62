-- The words of a line that are still to be read.
use Rattle.std.specs.Prelude.{◌≡◌, ℕ, Bool, true, false, Option, Some, None, List, [], ◌∷◌}
use Rattle.std.specs.Borrow.{Bor}
use Rattle.cert_text.specs.Lines.{words_of}

abbrev pub words_left : Bool → List ℕ → List (List ℕ)
words_left true text = words_of text
words_left false text = []

-- the next word is taken, if there is one
abbrev pub TakesWord : List (List ℕ) → Option (Bor (List ℕ)) → List (List ℕ) → Type 0
TakesWord old (Some word) new = old ≡ word.now ∷ new
TakesWord old None new = old ≡ []
