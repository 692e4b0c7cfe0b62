-- Places in a file.
use Rattle.std.specs.Prelude.{ℕ, ◌+◌, ◌==◌, if◌then◌else◌, List, [], ◌∷◌, reverse, count_by}
use Rattle.std.specs.List.{prefix_len}
use Rattle.bit_base.specs.declared.place.Place.{Place}
use Rattle.vlog_prep.specs.Lexemes.{is_in_line}

-- The place after these bytes: one line more than line feeds, one column more than bytes behind the last line feed.
unfoldable pub place_after : ℕ → List ℕ → Place
place_after file front = record { file = file; line = 1 + count_by (λ b. b == 10) front; column = 1 + prefix_len is_in_line (reverse front) }

-- How a place moves on, byte by byte. That this is the place after the bytes is proved in proofs/PlaceSteps.
abbrev pub next_place : Place → ℕ → Place
next_place p b = if b == 10 then record { file = p.file; line = p.line + 1; column = 1 } else record { file = p.file; line = p.line; column = p.column + 1 }

abbrev pub moved : Place → List ℕ → Place
moved p [] = p
moved p (b ∷ bs) = moved (next_place p b) bs
