-- How tokens are spelled (IEEE 1364-2005, clause 3, "Lexical conventions", in this project's profile), as tests of a whole text.
use Rattle.std.specs.Prelude.{ℕ, ◌+◌, ◌-◌, Bool, true, false, ◌&&◌, ◌||◌, not, ◌==◌, nat_lt, nat_le, if◌then◌else◌, List, [], ◌∷◌, take, drop, bytes_eq, codes}
use Rattle.std.specs.List.{list_all, list_any, prefix_len}
use Rattle.vlog_tree.specs.declared.token.VTokenKind.{VTokenKind}
use Rattle.vlog_tree.specs.declared.token.VTokenKind.TheVariants.{Name, Word, Number, System, Mark}

abbrev pub is_nil : List ℕ → Bool
is_nil [] = true
is_nil (b ∷ bs) = false

-- Whether one of these characters is the byte.
abbrev pub is_among : List ℕ → ℕ → Bool
is_among characters b = list_any (λ c. b == c) characters

-- A letter or `_`.
abbrev pub is_letter : ℕ → Bool
is_letter b = (nat_le 65 b && nat_le b 90) || (nat_le 97 b && nat_le b 122) || (b == 95)

-- 3.7, identifiers: a letter or `_`, then letters, digits, `_` and `$`.
abbrev pub is_name_byte : ℕ → Bool
is_name_byte b = is_letter b || (nat_le 48 b && nat_le b 57) || (b == 36)

abbrev pub is_identifier : List ℕ → Bool
is_identifier [] = false
is_identifier (b ∷ bs) = is_letter b && list_all is_name_byte bs

-- 3.7.2, keywords: the quoted words of the grammar, which are no names.
abbrev pub quoted_words : List (List ℕ)
quoted_words =
    codes "module" ∷ codes "endmodule" ∷ codes "parameter" ∷ codes "localparam" ∷ codes "input" ∷ codes "output" ∷ codes "wire" ∷ codes "reg"
    ∷ codes "signed" ∷ codes "genvar" ∷ codes "assign" ∷ codes "always" ∷ codes "initial" ∷ codes "generate" ∷ codes "endgenerate" ∷ codes "for"
    ∷ codes "if" ∷ codes "else" ∷ codes "begin" ∷ codes "end" ∷ codes "or" ∷ codes "posedge" ∷ codes "negedge" ∷ codes "case" ∷ codes "casez"
    ∷ codes "endcase" ∷ codes "default" ∷ []

unfoldable pub is_quoted : List ℕ → Bool
is_quoted bytes = list_any (bytes_eq bytes) quoted_words

-- 3.5, numbers. The value of a digit, in either case; 16 where the byte is no digit.
abbrev pub digit_of : ℕ → ℕ
digit_of b = if nat_le 48 b && nat_le b 57 then b - 48 else if nat_le 97 b && nat_le b 102 then b - 87 else if nat_le 65 b && nat_le b 70 then b - 55 else 16

-- `x`, `z` and `?` stand for unknown digits, in either case.
abbrev pub is_unknown : ℕ → Bool
is_unknown b = is_among (codes "xXzZ?") b

-- A digit of a base, an unknown one in bases other than ten.
abbrev pub is_digit : ℕ → ℕ → Bool
is_digit base b = nat_lt (digit_of b) base || (is_among (2 ∷ 8 ∷ 16 ∷ []) base && is_unknown b)

-- Digits and `_` behind a digit (`ended`) or behind a `_`, the last of them a digit.
abbrev pub ends_in_digit : ℕ → Bool → List ℕ → Bool
ends_in_digit base ended [] = ended
ends_in_digit base ended (b ∷ bs) = if is_digit base b then ends_in_digit base true bs else (b == 95) && ends_in_digit base false bs

-- Digits of a base, with any number of `_` between two of them.
abbrev pub is_digits : ℕ → List ℕ → Bool
is_digits base [] = false
is_digits base (b ∷ bs) = is_digit base b && ends_in_digit base true bs

-- The base that a letter stands for, in either case; 0, in which no byte is a digit, for other bytes.
abbrev pub base_of : ℕ → ℕ
base_of letter =
    if is_among (codes "bB") letter then 2
    else if is_among (codes "oO") letter then 8
    else if is_among (codes "dD") letter then 10
    else if is_among (codes "hH") letter then 16
    else 0

-- The one digit `x`, by which each bit of a decimal number is unknown.
abbrev pub is_all_unknown : List ℕ → Bool
is_all_unknown (b ∷ []) = is_among (codes "xX") b
is_all_unknown _ = false

-- The letter of a base and digits of that base.
abbrev pub is_based : List ℕ → Bool
is_based [] = false
is_based (letter ∷ digits) = is_digits (base_of letter) digits || ((base_of letter == 10) && is_all_unknown digits)

-- The same behind the sign `s`, which may be missing.
abbrev pub is_signed_based : List ℕ → Bool
is_signed_based [] = false
is_signed_based (b ∷ bs) = if is_among (codes "sS") b then is_based bs else is_based (b ∷ bs)

-- A number with a base: what stands before the first `'`, and what stands after it.
abbrev pub is_in_size : ℕ → Bool
is_in_size b = not (b == 39)

abbrev pub size_of : List ℕ → List ℕ
size_of w = take (prefix_len is_in_size w) w

abbrev pub after_size : List ℕ → List ℕ
after_size w = drop (prefix_len is_in_size w + 1) w

-- A size in bits, which isn't 0.
abbrev pub is_some_digit : ℕ → Bool
is_some_digit b = nat_le 49 b && nat_le b 57

abbrev pub is_size : List ℕ → Bool
is_size size = is_digits 10 size && list_any is_some_digit size

abbrev pub is_based_number : List ℕ → Bool
is_based_number w = (is_nil (size_of w) || is_size (size_of w)) && is_signed_based (after_size w)

-- Decimal digits, or `'` and digits of a base behind a size that may be missing.
abbrev pub is_number : List ℕ → Bool
is_number w = is_digits 10 w || is_based_number w

-- 3.7.3, system names: `$` and an identifier.
abbrev pub is_system : List ℕ → Bool
is_system [] = false
is_system (b ∷ bs) = (b == 36) && is_identifier bs

-- 3.4, operators, and the other marks. Those of one byte.
abbrev pub is_mark_byte : ℕ → Bool
is_mark_byte b = is_among (codes "#(),;=[]:@*.{}?+-!~&|^/%<>") b

-- Those of two: `** << >> == && ||`, `<= >= == !=`, `~& ~| ~^`, `^~` and `+:`.
abbrev pub is_mark_pair : ℕ → ℕ → Bool
is_mark_pair b c =
    ((b == c) && is_among (codes "*<>=&|") b) || ((c == 61) && is_among (codes "<>!") b) || ((b == 126) && is_among (codes "&|^") c)
    || ((b == 94) && (c == 126)) || ((b == 43) && (c == 58))

-- Those of three: `<<< >>> ===` and `!==`.
abbrev pub is_mark_triple : ℕ → ℕ → ℕ → Bool
is_mark_triple b c d = (c == d) && (((b == c) && is_among (codes "<>=") b) || ((b == 33) && (c == 61)))

abbrev pub is_mark : List ℕ → Bool
is_mark (b ∷ []) = is_mark_byte b
is_mark (b ∷ c ∷ []) = is_mark_pair b c
is_mark (b ∷ c ∷ d ∷ []) = is_mark_triple b c d
is_mark _ = false

-- The text is one token of its kind.
unfoldable pub is_token : VTokenKind → List ℕ → Bool
is_token Name w = is_identifier w && not (is_quoted w)
is_token Word w = is_identifier w && is_quoted w
is_token Number w = is_number w
is_token System w = is_system w
is_token Mark w = is_mark w
