-- What a text is made of: blanks, comments, attributes, tokens, directives and continued lines (IEEE 1364-2005, clauses 3 and 19).
use Rattle.std.specs.Prelude.{◌≡◌, ◌≤◌, ℕ, Bool, true, false, ◌&&◌, ◌||◌, not, ◌==◌, if◌then◌else◌, List, [], ◌∷◌, ◌++◌, length}
use Rattle.std.specs.List.{list_all}
use Rattle.vlog_tree.specs.Spelling.{is_nil, is_identifier, is_number, is_system, is_mark}
use Rattle.vlog_prep.specs.declared.lexeme.Lexeme.{Lexeme}
use Rattle.vlog_prep.specs.declared.lexeme.Lexeme.TheVariants.{Blank, Passed, Continued, Tick, Identifier, Numeral, SystemName, Symbol}

-- 3.2, white space: space, tab, carriage return, line feed.
abbrev pub is_blank : ℕ → Bool
is_blank b = (b == 32) || (b == 9) || (b == 13) || (b == 10)

abbrev pub is_in_line : ℕ → Bool
is_in_line b = not (b == 10)

abbrev pub is_one_blank : List ℕ → Bool
is_one_blank (b ∷ []) = is_blank b
is_one_blank _ = false

-- A text that ends at its first `last` behind a `*`.
abbrev pub ends_at : ℕ → ℕ → List ℕ → Bool
ends_at last before [] = false
ends_at last before (b ∷ bs) = if (before == 42) && (b == last) then is_nil bs else ends_at last b bs

-- 3.3, comments: `//` to the end of the line, which isn't part of it, and `/*` to the next `*/`.
abbrev pub is_line_comment : List ℕ → Bool
is_line_comment (b ∷ c ∷ bs) = (b == 47) && (c == 47) && list_all is_in_line bs
is_line_comment _ = false

abbrev pub is_block_comment : List ℕ → Bool
is_block_comment (b ∷ c ∷ bs) = (b == 47) && (c == 42) && ends_at 47 0 bs
is_block_comment _ = false

-- 3.8, attributes: `(*` to the next `*)`.
abbrev pub is_attribute : List ℕ → Bool
is_attribute (b ∷ c ∷ bs) = (b == 40) && (c == 42) && ends_at 41 0 bs
is_attribute _ = false

-- 19, directives and uses of macros: a grave accent and an identifier.
abbrev pub is_tick : List ℕ → Bool
is_tick [] = false
is_tick (b ∷ bs) = (b == 96) && is_identifier bs

-- 19.3.1: a `\` directly before the line feed.
abbrev pub is_continued : List ℕ → Bool
is_continued (b ∷ c ∷ []) = (b == 92) && (c == 10)
is_continued _ = false

abbrev pub is_lexeme : Lexeme → List ℕ → Bool
is_lexeme Blank w = is_one_blank w
is_lexeme Passed w = is_line_comment w || is_block_comment w || is_attribute w
is_lexeme Continued w = is_continued w
is_lexeme Tick w = is_tick w
is_lexeme Identifier w = is_identifier w
is_lexeme Numeral w = is_number w
is_lexeme SystemName w = is_system w
is_lexeme Symbol w = is_mark w

-- Only blanks stand before a `)`, which comes.
abbrev pub only_blanks : List ℕ → Bool
only_blanks [] = false
only_blanks (b ∷ bs) = (b == 41) || (is_blank b && only_blanks bs)

-- A comment or an attribute begins here: `//`, `/*`, or a `(*` behind which not only blanks stand before the next `)`.
abbrev pub opens : List ℕ → Bool
opens (b ∷ c ∷ bs) = ((b == 47) && ((c == 47) || (c == 42))) || ((b == 40) && (c == 42) && not (only_blanks bs))
opens _ = false

abbrev pub is_passed : Lexeme → Bool
is_passed Passed = true
is_passed _ = false

-- A front of `rest` that is spelled as the lexeme. Where a comment or an attribute begins nothing else stands.
abbrev pub stands : List ℕ → Lexeme → List ℕ → Bool
stands rest lexeme w = is_lexeme lexeme w && (if opens rest then is_passed lexeme else not (is_passed lexeme))

-- The longest match: `text` stands in front of `rest`, before `after`, and nothing longer stands there.
pub record IsLongest (rest : List ℕ) (lexeme : Lexeme) (text after : List ℕ) : Type 0 where
  pub front : rest ≡ text ++ after
  pub spelled : stands rest lexeme text ≡ true
  pub longest : (other : Lexeme) (longer more : List ℕ) → rest ≡ longer ++ more → stands rest other longer ≡ true → length longer ≤ length text

-- Nothing stands in front of `rest`.
abbrev pub BeginsNone : List ℕ → Type 0
BeginsNone rest = (lexeme : Lexeme) (text more : List ℕ) → rest ≡ text ++ more → stands rest lexeme text ≡ false
