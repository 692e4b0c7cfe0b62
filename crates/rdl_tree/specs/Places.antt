-- How a place moves on, byte by byte. That this is the place after the bytes is proved in proofs/Places.
use Rattle.std.specs.Prelude.{ℕ, ◌+◌, ◌==◌, if◌then◌else◌, List, [], ◌∷◌}
use Rattle.bit_base.specs.declared.place.Place.{Place}

abbrev pub next_place : Place → ℕ → Place
next_place p b = if b == 10 then record { file = p.file; line = p.line + 1; column = 1 } else record { file = p.file; line = p.line; column = p.column + 1 }

abbrev pub moved : Place → List ℕ → Place
moved p [] = p
moved p (b ∷ bs) = moved (next_place p b) bs
