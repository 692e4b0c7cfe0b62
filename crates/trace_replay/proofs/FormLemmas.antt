-- The form of a line by the number of its words.
use Rattle.std.proofs.Common.{◌≡◌, ◌≢◌, ℕ, ◌+◌, ◌-◌, ◌≤◌, ◌==◌, Bool, true, false, ◌&&◌, List, [], ◌∷◌, length, map, take, drop, get_or, refl, sym, ◌∙◌, ap, arith, codes}
use Rattle.std.specs.List.{list_all, count_by, slice_split}
use Rattle.std.specs.Borrow.{Bor}
use Rattle.std.specs.Str.{bytes_eq}
use Rattle.std.proofs.lemmas.Bool.{and_left, and_right, and_from, ne_eqb, eq-eqb}
use Rattle.std.proofs.lemmas.List.{take_rest, length-map}
use Rattle.std.proofs.lemmas.List.Folds.{list_all-map}
use Rattle.std.proofs.lemmas.List.Splits.{length-slice_split}
use Rattle.trace_replay.specs.Lines.{words_of, is_field, are_start_words, are_edge_words, has_start_form, has_edge_form}

abbrev pub is_blank : ℕ → Bool
is_blank byte = byte == 32

and_is_right : (a b : Bool) → a ≡ true → (a && b) ≡ b
and_is_right a b h = rw h refl

start-other : (words : List (List ℕ)) → length words ≢ 3 → are_start_words words ≡ false
start-other [] other = refl
start-other (a ∷ []) other = refl
start-other (a ∷ b ∷ []) other = refl
start-other (a ∷ b ∷ c ∷ []) other = absurd (other refl)
start-other (a ∷ b ∷ c ∷ d ∷ words) other = refl

edge-other : (words : List (List ℕ)) → length words ≢ 7 → are_edge_words words ≡ false
edge-other [] other = refl
edge-other (word ∷ fields) other =
    and_left (bytes_eq word (codes "edge") && length fields == 6) (list_all is_field fields)
    (and_right (bytes_eq word (codes "edge")) (length fields == 6) (ne_eqb (length fields) 6 (λ same. other (omega arith))))

pub start-blanks : (line : List ℕ) → count_by is_blank line ≢ 2 → has_start_form line ≡ false
start-blanks line other = start-other (words_of line) (λ same. other (omega (arith, length-slice_split is_blank line)))

pub edge-blanks : (line : List ℕ) → count_by is_blank line ≢ 6 → has_edge_form line ≡ false
edge-blanks line other = edge-other (words_of line) (λ same. other (omega (arith, length-slice_split is_blank line)))

-- the words of a line, seen through references: the first is `edge`, and the others are fields
pub edge-words : (line : List ℕ) (words : List (Bor (List ℕ))) (d : Bor (List ℕ)) → count_by is_blank line ≡ 6 → map (λ w. w.now) words ≡ words_of line
    → 1 ≤ length words → bytes_eq (get_or words 0 d).now (codes "edge") ≡ true
    → list_all (λ w. is_field w.now) (take (length words - 1) (drop 1 words)) ≡ has_edge_form line
edge-words line [] d six same some first = absurd (omega arith)
edge-words line (word ∷ fields) d six same some first =
    let n : length fields ≡ 6 = omega (arith, ap length same, length-slice_split is_blank line, length-map (word ∷ fields) (λ (w : Bor (List ℕ)). w.now)) in
    let shown = map (λ (w : Bor (List ℕ)). w.now) fields in
    let counted : (length shown == 6) ≡ true = eq-eqb (length shown) 6 (length-map fields (λ (w : Bor (List ℕ)). w.now) ∙ n) in
    ap (list_all (λ (w : Bor (List ℕ)). is_field w.now)) (take_rest (word ∷ fields) 1)
    ∙ sym (list_all-map is_field (λ (w : Bor (List ℕ)). w.now) fields)
    ∙ sym (and_is_right (bytes_eq word.now (codes "edge") && length shown == 6) (list_all is_field shown) (and_from _ _ first counted))
    ∙ ap are_edge_words same
