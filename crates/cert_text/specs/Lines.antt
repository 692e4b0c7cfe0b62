-- The lines of a certificate (this project's own), each with one space between words.
use Rattle.std.specs.Prelude.{ℕ, ◌+◌, ◌-◌, ◌*◌, ◌==◌, nat_le, nat_lt, Bool, true, false, not, ◌&&◌, if◌then◌else◌, Option, Some, None, option_map, List, [], ◌∷◌, ◌++◌, length, take, get_or, codes}
use Rattle.std.specs.Option.{option_and_then}
use Rattle.std.specs.List.{list_any, slice_split}
use Rattle.std.specs.Str.{bytes_eq}
use Rattle.std.specs.Fmt.{decimal}
use Rattle.unroll_cnf.specs.declared.latch_literal.LatchLiteral.{LatchLiteral}
use Rattle.cert_text.specs.Numbers.{number_of}

-- a text cut at its line feeds: the lines, each of which had its line feed, and what stands behind the last one
abbrev pub pieces_of : List ℕ → List (List ℕ)
pieces_of bytes = slice_split (λ byte. byte == 10) bytes

abbrev pub lines_of : List ℕ → List (List ℕ)
lines_of bytes = take (length (pieces_of bytes) - 1) (pieces_of bytes)

abbrev pub tail_of : List ℕ → List ℕ
tail_of bytes = get_or (pieces_of bytes) (length (pieces_of bytes) - 1) []

-- the words of a line, cut at its spaces
abbrev pub words_of : List ℕ → List (List ℕ)
words_of line = slice_split (λ byte. byte == 32) line

-- what each word says, where all of them say something
abbrev pub each_of : {A : Type 0} → (List ℕ → Option A) → List (List ℕ) → Option (List A)
each_of f [] = Some []
each_of f (w ∷ ws) = option_and_then (λ x. option_map (λ xs. x ∷ xs) (each_of f ws)) (f w)

-- NAME NUMBER
abbrev pub number_after : List ℕ → List (List ℕ) → Option ℕ
number_after name [] = None
number_after name (word ∷ []) = None
number_after name (word ∷ number ∷ []) = if bytes_eq word name then number_of number else None
number_after name (word ∷ number ∷ next ∷ more) = None

-- a latch from 1 to n, plain or with a minus sign
abbrev pub latch_of : ℕ → Bool → Option ℕ → Option LatchLiteral
latch_of n negated None = None
latch_of n negated (Some v) = if nat_lt 0 v && nat_le v n then Some (record { latch = v - 1; negated = negated }) else None

unfoldable pub literal_of : ℕ → List ℕ → Option LatchLiteral
literal_of n [] = None
literal_of n (c ∷ cs) = if c == 45 then latch_of n true (number_of cs) else latch_of n false (number_of (c ∷ cs))

-- no literal stands twice
abbrev pub code_of : LatchLiteral → ℕ
code_of l = 2 * l.latch + (if l.negated then 1 else 0)

abbrev pub are_apart : List LatchLiteral → Bool
are_apart [] = true
are_apart (l ∷ ls) = not (list_any (λ m. code_of m == code_of l) ls) && are_apart ls

abbrev pub if_apart : List LatchLiteral → Option (List LatchLiteral)
if_apart d = if are_apart d then Some d else None

-- `c` and the literals of a clause, none twice, over n latches
abbrev pub clause_words : ℕ → List (List ℕ) → Option (List LatchLiteral)
clause_words n [] = None
clause_words n (word ∷ ws) = if bytes_eq word (codes "c") then option_and_then if_apart (each_of (literal_of n) ws) else None

unfoldable pub clause_of : ℕ → List ℕ → Option (List LatchLiteral)
clause_of n line = clause_words n (words_of line)

-- numbers up to the word `/`, and the words behind it
abbrev pub is_slash : List ℕ → Bool
is_slash word = bytes_eq word (codes "/")

abbrev pub before_slash : List (List ℕ) → Option (List ℕ × List (List ℕ))
before_slash [] = None
before_slash (w ∷ ws) = if is_slash w then Some ([], ws) else option_and_then (λ n. option_map (λ r. (n ∷ r.0, r.1)) (before_slash ws)) (number_of w)

abbrev pub with_pivots : List ℕ × List (List ℕ) → Option (List ℕ × List ℕ)
with_pivots r = if nat_lt 0 (length r.0) then option_map (λ pivots. (r.0, pivots)) (each_of number_of r.1) else None

-- `r`, at least one number, `/`, and numbers: the clauses' numbers and the pivots of a chain
abbrev pub chain_words : List (List ℕ) → Option (List ℕ × List ℕ)
chain_words [] = None
chain_words (word ∷ ws) = if bytes_eq word (codes "r") then option_and_then with_pivots (before_slash ws) else None

unfoldable pub chain_of : List ℕ → Option (List ℕ × List ℕ)
chain_of line = chain_words (words_of line)

-- the line that comes behind the chains of query j: that of the next query, or the last line
unfoldable pub due_after : ℕ → ℕ → List ℕ
due_after k j = if nat_lt j k then codes "q base " ++ decimal (j + 1) else (if j == k then codes "q step" else codes "end")
