-- How tokens, blanks and comments are spelled (SystemRDL 2.0, clause 4, "Lexical conventions"), as tests of a whole text.
use Rattle.std.specs.Prelude.{ℕ, ◌+◌, ◌-◌, ◌*◌, ◌^◌, Bool, true, false, ◌&&◌, ◌||◌, not, ◌==◌, nat_lt, nat_le, if◌then◌else◌, List, [], ◌∷◌, take, drop, fold, codes}
use Rattle.std.specs.List.{list_all, list_any, prefix_len}
use Rattle.rdl_tree.specs.declared.token.RdlTokenKind.{RdlTokenKind}
use Rattle.rdl_tree.specs.declared.token.RdlTokenKind.TheVariants.{Word, Num, Str, Mark}

abbrev pub is_nil : List ℕ → Bool
is_nil [] = true
is_nil (b ∷ bs) = false

-- Whether one of these characters is the byte.
abbrev pub is_among : List ℕ → ℕ → Bool
is_among characters b = list_any (λ c. b == c) characters

-- A letter or `_`.
abbrev pub is_letter : ℕ → Bool
is_letter b = (nat_le 65 b && nat_le b 90) || (nat_le 97 b && nat_le b 122) || (b == 95)

-- The value of a digit, in either case; 16 where the byte is no digit.
abbrev pub digit_of : ℕ → ℕ
digit_of b = if nat_le 48 b && nat_le b 57 then b - 48 else if nat_le 97 b && nat_le b 102 then b - 87 else if nat_le 65 b && nat_le b 70 then b - 55 else 16

abbrev pub is_digit : ℕ → ℕ → Bool
is_digit base b = nat_lt (digit_of b) base

-- 4.3, identifiers: a letter or `_`, then letters, digits and `_`.
abbrev pub is_word_byte : ℕ → Bool
is_word_byte b = is_letter b || is_digit 10 b

abbrev pub is_word : List ℕ → Bool
is_word [] = false
is_word (b ∷ bs) = is_letter b && list_all is_word_byte bs

-- 4.6, numbers. Digits and `_` behind a digit (`ended`) or behind a `_`, the last of them a digit.
abbrev pub ends_in_digit : ℕ → Bool → List ℕ → Bool
ends_in_digit base ended [] = ended
ends_in_digit base ended (b ∷ bs) = if is_digit base b then ends_in_digit base true bs else (b == 95) && ends_in_digit base false bs

-- Digits of a base, with any number of `_` between two of them.
abbrev pub is_digits : ℕ → List ℕ → Bool
is_digits base [] = false
is_digits base (b ∷ bs) = is_digit base b && ends_in_digit base true bs

-- The number that digits of a base spell, first digit highest.
abbrev pub with_digit : ℕ → ℕ → ℕ → ℕ
with_digit base value b = if b == 95 then value else value * base + digit_of b

abbrev pub digits_value : ℕ → List ℕ → ℕ
digits_value base digits = fold (with_digit base) 0 digits

-- `0x` or `0X` and hexadecimal digits.
abbrev pub is_hexadecimal : List ℕ → Bool
is_hexadecimal (zero_digit ∷ mark ∷ digits) = (zero_digit == 48) && ((mark == 120) || (mark == 88)) && is_digits 16 digits
is_hexadecimal _ = false

-- The parts of a number with a size, `W'dN`, `W'hN`, `W'bN` or `W'oN`: what stands before the first `'`, and what stands after it.
abbrev pub is_in_size : ℕ → Bool
is_in_size b = not (b == 39)

abbrev pub size_of : List ℕ → List ℕ
size_of w = take (prefix_len is_in_size w) w

abbrev pub after_size : List ℕ → List ℕ
after_size w = drop (prefix_len is_in_size w + 1) w

-- The base that a letter stands for; 0, in which no byte is a digit, for other bytes.
abbrev pub base_of : ℕ → ℕ
base_of letter = if letter == 100 then 10 else if letter == 104 then 16 else if letter == 98 then 2 else if letter == 111 then 8 else 0

abbrev pub base_after_size : List ℕ → ℕ
base_after_size [] = 0
base_after_size (letter ∷ digits) = base_of letter

-- A size from 1 to 64.
abbrev pub is_size : List ℕ → Bool
is_size size = is_digits 10 size && nat_le 1 (digits_value 10 size) && nat_le (digits_value 10 size) 64

abbrev pub is_sized : List ℕ → Bool
is_sized w = is_size (size_of w) && is_digits (base_after_size (after_size w)) (drop 1 (after_size w))

abbrev pub is_number : List ℕ → Bool
is_number w = is_digits 10 w || is_hexadecimal w || is_sized w

-- The width of a number in bits, 64 where it has no size; its base; its digits.
pub record Number : Type 0 where
  pub width : ℕ
  pub base : ℕ
  pub digits : List ℕ

abbrev pub number_of : List ℕ → Number
number_of w =
    if is_digits 10 w then record { width = 64; base = 10; digits = w }
    else if is_hexadecimal w then record { width = 64; base = 16; digits = drop 2 w }
    else record { width = digits_value 10 (size_of w); base = base_after_size (after_size w); digits = drop 1 (after_size w) }

abbrev pub number_value : List ℕ → ℕ
number_value w = digits_value (number_of w).base (number_of w).digits

-- The number fits its size; without a size it is below 2^64.
abbrev pub number_fits : List ℕ → Bool
number_fits w = nat_lt (number_value w) (2 ^ (number_of w).width)

-- A text that ends at its first byte that closes it, which goes by that byte and the one before it.
abbrev pub ends_at_first : (ℕ → ℕ → Bool) → ℕ → List ℕ → Bool
ends_at_first closes before [] = false
ends_at_first closes before (b ∷ bs) = if closes before b then is_nil bs else ends_at_first closes b bs

-- 4.5, strings: `"` to the next `"` that no `\` stands before.
abbrev pub closes_string : ℕ → ℕ → Bool
closes_string before b = (b == 34) && not (before == 92)

abbrev pub is_string : List ℕ → Bool
is_string [] = false
is_string (b ∷ bs) = (b == 34) && ends_at_first closes_string 34 bs

-- Marks of one byte, `{ } [ ] ; , = : @ .`, and of two, `-> += %=`.
abbrev pub is_mark_byte : ℕ → Bool
is_mark_byte b = is_among (codes "{}[];,=:@.") b

abbrev pub is_mark_pair : ℕ → ℕ → Bool
is_mark_pair b c = ((b == 45) && (c == 62)) || ((b == 43) && (c == 61)) || ((b == 37) && (c == 61))

abbrev pub is_mark : List ℕ → Bool
is_mark (b ∷ []) = is_mark_byte b
is_mark (b ∷ c ∷ []) = is_mark_pair b c
is_mark _ = false

-- A token of a kind.
abbrev pub is_spelled : RdlTokenKind → List ℕ → Bool
is_spelled Word w = is_word w
is_spelled Num w = is_number w
is_spelled Str w = is_string w
is_spelled Mark w = is_mark w

-- A token's number: that of a number, 0 of other tokens.
abbrev pub token_value : RdlTokenKind → List ℕ → ℕ
token_value Num w = number_value w
token_value _ w = 0

abbrev pub token_fits : RdlTokenKind → List ℕ → Bool
token_fits Num w = number_fits w
token_fits _ w = true

-- The text is one token of its kind, and this is its number.
unfoldable pub is_token : RdlTokenKind → List ℕ → ℕ → Bool
is_token kind w value = is_spelled kind w && token_fits kind w && (value == token_value kind w)

-- 4.1, white space: space, tab, carriage return, line feed.
abbrev pub is_blank : ℕ → Bool
is_blank b = (b == 32) || (b == 9) || (b == 13) || (b == 10)

abbrev pub is_in_line : ℕ → Bool
is_in_line b = not (b == 10)

-- 4.2, comments: `//` to the end of the line, which isn't part of it, and `/*` to the next `*/`.
abbrev pub is_line_comment : List ℕ → Bool
is_line_comment (b ∷ c ∷ bs) = (b == 47) && (c == 47) && list_all is_in_line bs
is_line_comment _ = false

abbrev pub closes_comment : ℕ → ℕ → Bool
closes_comment before b = (before == 42) && (b == 47)

abbrev pub is_block_comment : List ℕ → Bool
is_block_comment (b ∷ c ∷ bs) = (b == 47) && (c == 42) && ends_at_first closes_comment 0 bs
is_block_comment _ = false

abbrev pub is_one_blank : List ℕ → Bool
is_one_blank (b ∷ []) = is_blank b
is_one_blank _ = false

-- A blank or a comment.
abbrev pub is_gap : List ℕ → Bool
is_gap w = is_one_blank w || is_line_comment w || is_block_comment w
