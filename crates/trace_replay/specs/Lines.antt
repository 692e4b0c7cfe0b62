-- The form of the lines of a trace text (this project's own), where names and numbers of digits are left
-- open.
use Rattle.std.specs.Prelude.{ℕ, zero, suc, ◌+◌, ◌==◌, nat_lt, Bool, true, false, ◌&&◌, ◌||◌, Option, Some, None, List, [], ◌∷◌, length, drop, codes}
use Rattle.std.specs.List.{list_all, position, slice_split}
use Rattle.std.specs.Str.{bytes_eq}
use Rattle.trace_replay.specs.declared.trace.TheConstants.{EDGE_LIMIT}
use Rattle.trace_replay.specs.TraceText.{header_line}

-- the lines of a text, cut at its line feeds: what follows the last one is a line without one
abbrev pub lines_of : List ℕ → List (List ℕ)
lines_of bytes = slice_split (λ byte. byte == 10) bytes

-- the words of a line, cut at its blanks
abbrev pub words_of : List ℕ → List (List ℕ)
words_of line = slice_split (λ byte. byte == 32) line

-- one or more binary digits
abbrev pub is_binary : ℕ → Bool
is_binary byte = byte == 0x30 || byte == 0x31

abbrev pub all_binary : List ℕ → Bool
all_binary word = list_all is_binary word

abbrev pub are_digits : List ℕ → Bool
are_digits word = nat_lt 0 (length word) && all_binary word

-- NAME=BITS: a name before the first sign of equality, and digits after it
abbrev pub is_field_at : Option ℕ → List ℕ → Bool
is_field_at None word = false
is_field_at (Some place) word = nat_lt 0 place && are_digits (drop (place + 1) word)

abbrev pub is_field : List ℕ → Bool
is_field word = is_field_at (position (λ byte. byte == 0x3D) word) word

-- `start PATH BITS`
abbrev pub are_start_words : List (List ℕ) → Bool
are_start_words (word ∷ path ∷ bits ∷ []) = bytes_eq word (codes "start") && nat_lt 0 (length path) && are_digits bits
are_start_words _ = false

abbrev pub has_start_form : List ℕ → Bool
has_start_form line = are_start_words (words_of line)

-- `edge` and a NAME=BITS for each of six inputs
abbrev pub are_edge_words : List (List ℕ) → Bool
are_edge_words [] = false
are_edge_words (word ∷ fields) = bytes_eq word (codes "edge") && length fields == 6 && list_all is_field fields

abbrev pub has_edge_form : List ℕ → Bool
has_edge_form line = are_edge_words (words_of line)

-- the form that is due at a place of a text, counted from 0: the first line, the start, then edges
unfoldable pub has_form : ℕ → List ℕ → Bool
has_form zero line = bytes_eq line header_line
has_form (suc zero) line = has_start_form line
has_form (suc (suc edge)) line = nat_lt edge EDGE_LIMIT && has_edge_form line
