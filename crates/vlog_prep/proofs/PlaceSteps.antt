-- That a place that moves on byte by byte is the place after the bytes.
use Rattle.std.proofs.Common.{◌≡◌, ℕ, ◌+◌, ◌≤◌, Bool, true, false, List, [], ◌∷◌, ◌++◌, length, cond, refl, sym, ◌∙◌, ap, arith, append_assoc}
use Rattle.std.specs.Prelude.{◌==◌, not, reverse, count_by}
use Rattle.std.specs.List.{prefix_len}
use Rattle.std.proofs.lemmas.List.{append-nil, reverse-append, length-reverse}
use Rattle.std.proofs.lemmas.List.Sums.{sum_by-append, count_by-le-length, prefix_len-le-length}
use Rattle.bit_base.specs.declared.place.Place.{Place}
use Rattle.vlog_prep.specs.Lexemes.{is_in_line}
use Rattle.vlog_prep.specs.Places.{next_place, moved}
use Rattle.vlog_prep.specs.Places.{place_after}

next_by : (file : ℕ) (feed : Bool) (n k : ℕ) → ◌≡◌ {A = Place} (record { file = file; line = 1 + (n + (0 + cond feed 1 0)); column = 1 + cond (not feed) (1 + k) 0 })
    (cond feed (record { file = file; line = (1 + n) + 1; column = 1 }) (record { file = file; line = 1 + n; column = (1 + k) + 1 }))
next_by file true n k = let e : 1 + (n + 1) ≡ (1 + n) + 1 = omega arith in rw e refl
next_by file false n k = let e : 1 + (n + 0) ≡ 1 + n = omega arith in let f : 1 + (1 + k) ≡ (1 + k) + 1 = omega arith in rw (e, f) refl

place_after-next : (file : ℕ) (front : List ℕ) (b : ℕ) → place_after file (front ++ b ∷ []) ≡ next_place (place_after file front) b
unfolding place_after
place_after-next file front b =
    rw (sum_by-append (λ c. cond (c == 10) 1 0) front (b ∷ []), reverse-append front (b ∷ [])) (next_by file (b == 10) (count_by (λ c. c == 10) front) (prefix_len is_in_line (reverse front)))

pub moved-after : (file : ℕ) (front text : List ℕ) → moved (place_after file front) text ≡ place_after file (front ++ text)
moved-after file front [] = ap (place_after file) (sym (append-nil front))
moved-after file front (b ∷ bs) = ap (λ p. moved p bs) (sym (place_after-next file front b)) ∙ moved-after file (front ++ b ∷ []) bs ∙ ap (place_after file) (append_assoc front (b ∷ []) bs)

pub line-within : (file : ℕ) (front : List ℕ) → (place_after file front).line ≤ 1 + length front
unfolding place_after
line-within file front = omega (arith, count_by-le-length (λ c. c == 10) front)

pub column-within : (file : ℕ) (front : List ℕ) → (place_after file front).column ≤ 1 + length front
unfolding place_after
column-within file front = omega (arith, prefix_len-le-length is_in_line (reverse front), length-reverse front)
