-- Pieces of fixed texts.
use Rattle.std.specs.Prelude.{ℕ, ◌-◌, ◌==◌, if◌then◌else◌, Option, Some, None, List, ◌++◌, length, take, drop}
use Rattle.std.specs.List.{position}
use Rattle.std.specs.Str.{bytes_eq}

-- the text between a head and a tail, where the bytes are the head, that text and the tail
abbrev pub between : List ℕ → List ℕ → List ℕ → List ℕ
between head tail bytes = take (length bytes - length head - length tail) (drop (length head) bytes)

unfoldable pub middle_of : List ℕ → List ℕ → List ℕ → Option (List ℕ)
middle_of head tail bytes =
    if bytes_eq bytes (head ++ (between head tail bytes ++ tail)) then Some (between head tail bytes) else None

-- the bytes before the first mark, all where there is none
abbrev pub before_place : Option ℕ → List ℕ → List ℕ
before_place (Some place) bytes = take place bytes
before_place None bytes = bytes

abbrev pub before_mark : ℕ → List ℕ → List ℕ
before_mark mark bytes = before_place (position (λ byte. byte == mark) bytes) bytes
