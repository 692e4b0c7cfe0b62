-- How long the lexeme in front of a text is. That this is the longest match is proved in proofs/Longest.
use Rattle.std.specs.Prelude.{ℕ, ◌+◌, ◌&&◌, ◌||◌, ◌==◌, nat_lt, nat_le, if◌then◌else◌, List, [], ◌∷◌, take, drop, max, Option, Some, None, option_map}
use Rattle.std.specs.List.{prefix_len, list_any}
use Rattle.vlog_tree.specs.Spelling.{is_among, is_letter, is_name_byte, is_digit, base_of, is_some_digit, is_mark_byte, is_mark_pair, is_mark_triple}
use Rattle.vlog_prep.specs.declared.lexeme.Lexeme.{Lexeme}
use Rattle.vlog_prep.specs.declared.lexeme.Lexeme.TheVariants.{Blank, Passed, Continued, Tick, Identifier, Numeral, SystemName, Symbol}
use Rattle.vlog_prep.specs.Lexemes.{is_blank, is_in_line, opens}

-- How long the front of digits and `_` is that ends in a digit, 0 where there is none.
unfoldable pub more_digits : ℕ → List ℕ → ℕ
more_digits base [] = 0
more_digits base (b ∷ bs) =
    if is_digit base b then 1 + more_digits base bs
    else if (b == 95) && nat_lt 0 (more_digits base bs) then 1 + more_digits base bs
    else 0

unfoldable pub digits_len : ℕ → List ℕ → ℕ
digits_len base [] = 0
digits_len base (b ∷ bs) = if is_digit base b then 1 + more_digits base bs else 0

-- The same with what stands before it; 0 where nothing is there.
abbrev pub behind : ℕ → ℕ → ℕ
behind before len = if nat_lt 0 len then before + len else 0

unfoldable pub unknown_len : List ℕ → ℕ
unknown_len [] = 0
unknown_len (b ∷ bs) = if is_among (120 ∷ 88 ∷ []) b then 1 else 0

unfoldable pub based_len : List ℕ → ℕ
based_len [] = 0
based_len (letter ∷ digits) = behind 1 (max (digits_len (base_of letter) digits) (if base_of letter == 10 then unknown_len digits else 0))

unfoldable pub signed_len : List ℕ → ℕ
signed_len [] = 0
signed_len (b ∷ bs) = if is_among (115 ∷ 83 ∷ []) b then behind 1 (based_len bs) else based_len (b ∷ bs)

unfoldable pub quote_len : List ℕ → ℕ
quote_len [] = 0
quote_len (b ∷ bs) = if b == 39 then behind 1 (signed_len bs) else 0

unfoldable pub number_len : List ℕ → ℕ
number_len text =
    let n = digits_len 10 text in
    let m = quote_len (drop n text) in
    if nat_lt 0 m && ((n == 0) || list_any is_some_digit (take n text)) then n + m else n

-- How long the front is that ends at the first `last` behind a `*`.
unfoldable pub closing_len : ℕ → ℕ → List ℕ → Option ℕ
closing_len last before [] = None
closing_len last before (b ∷ bs) = if (before == 42) && (b == last) then Some 1 else option_map (λ n. 1 + n) (closing_len last b bs)

unfoldable pub passed_len : List ℕ → Option ℕ
passed_len (b ∷ c ∷ bs) =
    if c == 47 then Some (2 + prefix_len is_in_line bs)
    else option_map (λ n. 2 + n) (closing_len (if b == 47 then 47 else 41) 0 bs)
passed_len _ = None

unfoldable pub mark_len : List ℕ → ℕ
mark_len (b ∷ c ∷ d ∷ bs) = if is_mark_triple b c d then 3 else if is_mark_pair b c then 2 else 1
mark_len (b ∷ c ∷ []) = if is_mark_pair b c then 2 else 1
mark_len _ = 1

-- A byte and an identifier behind it.
unfoldable pub named_len : List ℕ → Option ℕ
named_len (mark ∷ b ∷ bs) = if is_letter b then Some (1 + prefix_len is_name_byte (b ∷ bs)) else None
named_len _ = None

unfoldable pub continued_len : List ℕ → Option ℕ
continued_len (b ∷ c ∷ bs) = if c == 10 then Some 2 else None
continued_len _ = None

-- The lexeme that a byte can begin, where no comment and no attribute begins.
unfoldable pub class_of : ℕ → Option Lexeme
class_of b =
    if is_letter b then Some Identifier
    else if is_blank b then Some Blank
    else if is_mark_byte b then Some Symbol
    else if (nat_le 48 b && nat_le b 57) || (b == 39) then Some Numeral
    else if b == 96 then Some Tick
    else if b == 36 then Some SystemName
    else if b == 92 then Some Continued
    else None

abbrev pub some_len : ℕ → Option ℕ
some_len len = if nat_lt 0 len then Some len else None

unfoldable pub lexeme_len : Lexeme → List ℕ → Option ℕ
lexeme_len Blank text = Some 1
lexeme_len Passed text = passed_len text
lexeme_len Continued text = continued_len text
lexeme_len Tick text = named_len text
lexeme_len Identifier text = Some (prefix_len is_name_byte text)
lexeme_len Numeral text = some_len (number_len text)
lexeme_len SystemName text = named_len text
lexeme_len Symbol text = Some (mark_len text)

unfoldable pub first_lexeme : List ℕ → Option Lexeme
first_lexeme [] = None
first_lexeme (b ∷ bs) = if opens (b ∷ bs) then Some Passed else class_of b

abbrev pub found_lexeme : Lexeme → Option ℕ → Option (Lexeme × ℕ)
found_lexeme lexeme None = None
found_lexeme lexeme (Some len) = Some (lexeme, len)

unfoldable pub lexeme_by : Option Lexeme → List ℕ → Option (Lexeme × ℕ)
lexeme_by None text = None
lexeme_by (Some lexeme) text = found_lexeme lexeme (lexeme_len lexeme text)

unfoldable pub lexeme_at : List ℕ → Option (Lexeme × ℕ)
lexeme_at text = lexeme_by (first_lexeme text) text
