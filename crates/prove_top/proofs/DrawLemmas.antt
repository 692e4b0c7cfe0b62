-- One more drawn word.
use Rattle.std.proofs.Common.{◌≡◌, ℕ, suc, ◌+◌, ◌-◌, ◌<◌, List, [], ◌∷◌, ◌++◌, ◌∙◌, ap, zero, Bool, length, map, append_assoc, refl, arith}
use Rattle.std.proofs.lemmas.List.{length-map}
use Rattle.prove_top.specs.Draws.{word, next_state, words_from}

pub words_from-more : (words state : List ℕ) (count i : ℕ) → i < count
    → (words ++ word state ∷ []) ++ words_from (count - (i + 1)) (next_state state) ≡ words ++ words_from (count - i) state
words_from-more words state count i below =
    let e : count - i ≡ suc (count - (i + 1)) = omega arith in rw (append_assoc, e) refl

length-words_from : (count : ℕ) (state : List ℕ) → length (words_from count state) ≡ count
length-words_from zero state = refl
length-words_from (suc count) state = ap suc (length-words_from count (next_state state))

pub drawn_length : (f : ℕ → Bool) (count : ℕ) (state : List ℕ) → length (map f (words_from count state)) ≡ count
drawn_length f count state = length-map (words_from count state) f ∙ length-words_from count state
