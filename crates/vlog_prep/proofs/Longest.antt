-- That the lexeme that the code finds is the longest match, and that it finds none only where none stands.
use Rattle.std.proofs.Common.{◌≡◌, ℕ, suc, ◌+◌, ◌-◌, ◌<◌, ◌≤◌, ◌⊎◌, inl, inr, Bool, true, false, List, [], ◌∷◌, ◌++◌, length, take, drop, cond, refl, sym, ◌∙◌, ap, arith}
use Rattle.std.specs.Prelude.{◌&&◌, ◌||◌, ◌==◌, nat_le, nat_lt, not, Option, Some, None, option_map, codes}
use Rattle.std.specs.List.{list_all, list_any, prefix_len}
use Rattle.std.proofs.lemmas.List.{take-append-drop, length-take-le}
use Rattle.std.proofs.lemmas.List.Sums.{prefix_len-le-length}
use Rattle.std.proofs.lemmas.Bool.{and_parts, and_from, or_cases, ltb-true, leb-true, lt-ltb, true≢false, false≢true, eqb-true, not-true}
use Rattle.std.proofs.lemmas.Bool.Decides.{nat_tests}
use Rattle.std.proofs.lemmas.Option.{same_Some, none-some}
use Rattle.vlog_tree.specs.Spelling.{is_nil, is_among, is_letter, is_name_byte, is_identifier, digit_of, is_digit, is_unknown, ends_in_digit, is_digits, is_in_size, size_of, after_size, is_some_digit, is_size, is_signed_based, is_based_number, is_number, is_mark_byte, is_mark_pair, is_mark_triple, is_mark}
use Rattle.vlog_prep.specs.declared.lexeme.Lexeme.{Lexeme}
use Rattle.vlog_prep.specs.declared.lexeme.Lexeme.TheVariants.{Blank, Passed, Continued, Tick, Identifier, Numeral, SystemName, Symbol}
use Rattle.vlog_prep.specs.Lexemes.{is_blank, is_in_line, ends_at, is_line_comment, is_block_comment, is_attribute, is_continued, is_lexeme, only_blanks, opens, is_passed, stands, IsLongest, BeginsNone}
use Rattle.vlog_prep.specs.Lengths.{number_len, closing_len, passed_len, mark_len, named_len, continued_len, class_of, some_len, lexeme_len, first_lexeme, found_lexeme, lexeme_by, lexeme_at}
use Rattle.vlog_prep.proofs.Digits.{take_one}
use Rattle.vlog_prep.proofs.NumberLengths.{number_len-covers, number_len-spelled}

-- What a search for the lexeme in front of `rest` finds: none, or a lexeme and its length.
abbrev pub FindsLexeme : List ℕ → Option (Lexeme × ℕ) → Type 0
FindsLexeme rest None = BeginsNone rest
FindsLexeme rest (Some found) = (0 < found.1) × (found.1 ≤ length rest) × IsLongest rest found.0 (take found.1 rest) (drop found.1 rest)

-- A length that is found is at least this one.
abbrev pub Covers : Option ℕ → ℕ → Type 0
Covers None len = ⊥
Covers (Some n) len = len ≤ n

-- A length that is found is that of a front that is spelled as the lexeme.
abbrev pub IsSpelled : Lexeme → List ℕ → Option ℕ → Type 0
IsSpelled lexeme text None = Unit {0}
IsSpelled lexeme text (Some n) = (0 < n) × (n ≤ length text) × (is_lexeme lexeme (take n text) ≡ true)

-- Fronts whose bytes all pass.
module _ (p : ℕ → Bool) where
  prefix_len-covers : (text more : List ℕ) → list_all p text ≡ true → length text ≤ prefix_len p (text ++ more)
  prefix_len-covers [] more h = omega arith
  prefix_len-covers (b ∷ bs) more h =
      let parts = and_parts (p b) (list_all p bs) h in
      rw parts.0 (omega (arith, prefix_len-covers bs more parts.1))

  prefix_len-passes : (text : List ℕ) → list_all p (take (prefix_len p text) text) ≡ true
  prefix_len-passes [] = refl
  prefix_len-passes (b ∷ bs) = passes_by (p b) refl (prefix_len p bs) (prefix_len-passes bs)
    where
      passes_by : (t : Bool) → p b ≡ t → (n : ℕ) → list_all p (take n bs) ≡ true → list_all p (take (cond t (1 + n) 0) (b ∷ bs)) ≡ true
      passes_by true e n h = rw (take_one n b bs, e) h
      passes_by false e n h = refl

-- Identifiers.
letter-name : (b : ℕ) → is_letter b ≡ true → is_name_byte b ≡ true
letter-name b h = rw h refl

identifier-covers : (text more : List ℕ) → is_identifier text ≡ true → length text ≤ prefix_len is_name_byte (text ++ more)
identifier-covers [] more h = omega arith
identifier-covers (b ∷ bs) more h =
    let parts = and_parts (is_letter b) (list_all is_name_byte bs) h in
    rw (letter-name b parts.0) (omega (arith, prefix_len-covers is_name_byte bs more parts.1))

identifier-spelled : (b : ℕ) (bs : List ℕ) → is_letter b ≡ true
    → (0 < prefix_len is_name_byte (b ∷ bs)) × (prefix_len is_name_byte (b ∷ bs) ≤ length (b ∷ bs)) × (is_identifier (take (prefix_len is_name_byte (b ∷ bs)) (b ∷ bs)) ≡ true)
identifier-spelled b bs h =
    rw (letter-name b h, take_one (prefix_len is_name_byte bs) b bs) (omega arith, omega (arith, prefix_len-le-length is_name_byte bs), and_from _ _ h (prefix_len-passes is_name_byte bs))

covers_by : (t : Bool) (n len : ℕ) → t ≡ true → len ≤ n → Covers (cond t (Some n) None) len
covers_by true n len h within = within
covers_by false n len h within = elim (false≢true h) [ ]

-- A byte and an identifier behind it.
named_len-covers : (mark : ℕ) (bs more : List ℕ) → is_identifier bs ≡ true → Covers (named_len (mark ∷ (bs ++ more))) (suc (length bs))
unfolding named_len
named_len-covers mark [] more h = elim (false≢true h) [ ]
named_len-covers mark (b ∷ bs) more h =
    let letter = (and_parts (is_letter b) (list_all is_name_byte bs) h).0 in
    let covers = identifier-covers (b ∷ bs) more h in
    covers_by (is_letter b) (1 + prefix_len is_name_byte (b ∷ (bs ++ more))) (suc (length (b ∷ bs))) letter (omega (arith, covers))

named_len-spelled : (lexeme : Lexeme) (mark : ℕ) (bs : List ℕ) → ((w : List ℕ) → is_identifier w ≡ true → is_lexeme lexeme (mark ∷ w) ≡ true) → IsSpelled lexeme (mark ∷ bs) (named_len (mark ∷ bs))
unfolding named_len
named_len-spelled lexeme mark [] named = tt
named_len-spelled lexeme mark (b ∷ bs) named = by_test (is_letter b) refl
  where
    by_test : (t : Bool) → is_letter b ≡ t → IsSpelled lexeme (mark ∷ b ∷ bs) (cond t (Some (1 + prefix_len is_name_byte (b ∷ bs))) None)
    by_test true e =
        let s = identifier-spelled b bs e in
        (omega arith, omega (arith, s.1), rw (take_one (prefix_len is_name_byte (b ∷ bs)) mark (b ∷ bs)) (named (take (prefix_len is_name_byte (b ∷ bs)) (b ∷ bs)) s.2))
    by_test false e = tt

-- What ends at the first `last` behind a `*`.
closing_len-covers : (last before : ℕ) (text more : List ℕ) → ends_at last before text ≡ true → closing_len last before (text ++ more) ≡ Some (length text)
unfolding closing_len
closing_len-covers last before [] more h = elim (false≢true h) [ ]
closing_len-covers last before (b ∷ bs) more h =
    covers_by ((before == 42) && (b == last)) bs (closing_len last b (bs ++ more)) (λ e. closing_len-covers last b bs more e) h
  where
    covers_by : (t : Bool) (bs : List ℕ) (found : Option ℕ) → (ends_at last b bs ≡ true → found ≡ Some (length bs)) → cond t (is_nil bs) (ends_at last b bs) ≡ true
        → cond t (Some 1) (option_map (λ n. 1 + n) found) ≡ Some (suc (length bs))
    covers_by true [] found later h = refl
    covers_by true (c ∷ cs) found later h = elim (false≢true h) [ ]
    covers_by false bs found later h = rw (later h) (ap Some (omega arith))

abbrev ClosesAt : ℕ → ℕ → List ℕ → Option ℕ → Type 0
ClosesAt last before text None = Unit {0}
ClosesAt last before text (Some n) = (0 < n) × (n ≤ length text) × (ends_at last before (take n text) ≡ true)

closing_len-closes : (last before : ℕ) (text : List ℕ) → ClosesAt last before text (closing_len last before text)
unfolding closing_len
closing_len-closes last before [] = tt
closing_len-closes last before (b ∷ bs) = closes_by ((before == 42) && (b == last)) refl (closing_len last b bs) (closing_len-closes last b bs)
  where
    closes_by : (t : Bool) → ((before == 42) && (b == last)) ≡ t → (found : Option ℕ) → ClosesAt last b bs found → ClosesAt last before (b ∷ bs) (cond t (Some 1) (option_map (λ n. 1 + n) found))
    closes_by true e found later = (omega arith, omega arith, rw e refl)
    closes_by false e None later = tt
    closes_by false e (Some n) later = (omega arith, omega (arith, later.1), rw (take_one n b bs, e) later.2)

-- Comments and attributes.
passed-covers : (text more : List ℕ) → is_lexeme Passed text ≡ true → Covers (passed_len (text ++ more)) (length text)
unfolding passed_len
passed-covers [] more h = elim (false≢true h) [ ]
passed-covers (b ∷ []) more h = elim (false≢true h) [ ]
passed-covers (b ∷ c ∷ bs) more h =
    elim (or_cases (is_line_comment (b ∷ c ∷ bs) || is_block_comment (b ∷ c ∷ bs)) (is_attribute (b ∷ c ∷ bs)) h) [
      | inl e ↦ elim (or_cases (is_line_comment (b ∷ c ∷ bs)) (is_block_comment (b ∷ c ∷ bs)) e) [
        | inl f ↦
            let parts = and_parts ((b == 47) && (c == 47)) (list_all is_in_line bs) f in
            let slashes = and_parts (b == 47) (c == 47) parts.0 in
            rw (eqb-true b 47 slashes.0, eqb-true c 47 slashes.1) (omega (arith, prefix_len-covers is_in_line bs more parts.1))
        | inr f ↦
            let parts = and_parts ((b == 47) && (c == 42)) (ends_at 47 0 bs) f in
            let marks = and_parts (b == 47) (c == 42) parts.0 in
            rw (eqb-true b 47 marks.0, eqb-true c 42 marks.1, closing_len-covers 47 0 bs more parts.1) (omega arith)
      ]
      | inr e ↦
          let parts = and_parts ((b == 40) && (c == 42)) (ends_at 41 0 bs) e in
          let marks = and_parts (b == 40) (c == 42) parts.0 in
          rw (eqb-true b 40 marks.0, eqb-true c 42 marks.1, closing_len-covers 41 0 bs more parts.1) (omega arith)
    ]

two : (n b c : ℕ) (bs : List ℕ) → take (2 + n) (b ∷ c ∷ bs) ≡ b ∷ c ∷ take n bs
two n b c bs = let e : 2 + n ≡ suc (suc n) = omega arith in rw e refl

line-spelled : (bs : List ℕ) → IsSpelled Passed (47 ∷ 47 ∷ bs) (Some (2 + prefix_len is_in_line bs))
line-spelled bs = (omega arith, omega (arith, prefix_len-le-length is_in_line bs), rw (two (prefix_len is_in_line bs) 47 47 bs, prefix_len-passes is_in_line bs) refl)

block-spelled : (bs : List ℕ) → IsSpelled Passed (47 ∷ 42 ∷ bs) (option_map (λ n. 2 + n) (closing_len 47 0 bs))
block-spelled bs = by_found (closing_len 47 0 bs) (closing_len-closes 47 0 bs)
  where
    by_found : (found : Option ℕ) → ClosesAt 47 0 bs found → IsSpelled Passed (47 ∷ 42 ∷ bs) (option_map (λ n. 2 + n) found)
    by_found None closed = tt
    by_found (Some n) closed = (omega arith, omega (arith, closed.1), rw (two n 47 42 bs, closed.2) refl)

attribute-spelled : (bs : List ℕ) → IsSpelled Passed (40 ∷ 42 ∷ bs) (option_map (λ n. 2 + n) (closing_len 41 0 bs))
attribute-spelled bs = by_found (closing_len 41 0 bs) (closing_len-closes 41 0 bs)
  where
    by_found : (found : Option ℕ) → ClosesAt 41 0 bs found → IsSpelled Passed (40 ∷ 42 ∷ bs) (option_map (λ n. 2 + n) found)
    by_found None closed = tt
    by_found (Some n) closed = (omega arith, omega (arith, closed.1), rw (two n 40 42 bs, closed.2) refl)

passed-spelled : (text : List ℕ) → opens text ≡ true → IsSpelled Passed text (passed_len text)
unfolding passed_len
passed-spelled [] h = tt
passed-spelled (b ∷ []) h = tt
passed-spelled (b ∷ c ∷ bs) h =
    elim (or_cases ((b == 47) && ((c == 47) || (c == 42))) ((b == 40) && (c == 42) && not (only_blanks bs)) h) [
      | inl e ↦
          let parts = and_parts (b == 47) ((c == 47) || (c == 42)) e in
          elim (or_cases (c == 47) (c == 42) parts.1) [
            | inl f ↦ rw (eqb-true b 47 parts.0, eqb-true c 47 f) (line-spelled bs)
            | inr f ↦ rw (eqb-true b 47 parts.0, eqb-true c 42 f) (block-spelled bs)
          ]
      | inr e ↦
          let parts = and_parts (b == 40) (c == 42) (and_parts ((b == 40) && (c == 42)) (not (only_blanks bs)) e).0 in
          rw (eqb-true b 40 parts.0, eqb-true c 42 parts.1) (attribute-spelled bs)
    ]

-- Marks. A test of each of some characters holds of what is among them.
among-all : (test : ℕ → Bool) (characters : List ℕ) (b : ℕ) → list_all test characters ≡ true → is_among characters b ≡ true → test b ≡ true
among-all test [] b all h = elim (false≢true h) [ ]
among-all test (c ∷ cs) b all h =
    let parts = and_parts (test c) (list_all test cs) all in
    elim (or_cases (b == c) (is_among cs b) h) [
      | inl e ↦ rw (eqb-true b c e) parts.0
      | inr e ↦ among-all test cs b parts.1 e
    ]

pair-first : (b c : ℕ) → is_mark_pair b c ≡ true → is_mark_byte b ≡ true
pair-first b c h =
    elim (or_cases (((b == c) && is_among (codes "*<>=&|") b) || ((c == 61) && is_among (codes "<>!") b) || ((b == 126) && is_among (codes "&|^") c) || ((b == 94) && (c == 126))) ((b == 43) && (c == 58)) h) [
      | inr e ↦ rw (eqb-true b 43 (and_parts (b == 43) (c == 58) e).0) refl
      | inl h ↦ elim (or_cases (((b == c) && is_among (codes "*<>=&|") b) || ((c == 61) && is_among (codes "<>!") b) || ((b == 126) && is_among (codes "&|^") c)) ((b == 94) && (c == 126)) h) [
        | inr e ↦ rw (eqb-true b 94 (and_parts (b == 94) (c == 126) e).0) refl
        | inl h ↦ elim (or_cases (((b == c) && is_among (codes "*<>=&|") b) || ((c == 61) && is_among (codes "<>!") b)) ((b == 126) && is_among (codes "&|^") c) h) [
          | inr e ↦ rw (eqb-true b 126 (and_parts (b == 126) (is_among (codes "&|^") c) e).0) refl
          | inl h ↦ elim (or_cases ((b == c) && is_among (codes "*<>=&|") b) ((c == 61) && is_among (codes "<>!") b) h) [
            | inr e ↦ among-all is_mark_byte (codes "<>!") b refl (and_parts (c == 61) (is_among (codes "<>!") b) e).1
            | inl e ↦ among-all is_mark_byte (codes "*<>=&|") b refl (and_parts (b == c) (is_among (codes "*<>=&|") b) e).1
          ]
        ]
      ]
    ]

triple-first : (b c d : ℕ) → is_mark_triple b c d ≡ true → is_mark_byte b ≡ true
triple-first b c d h =
    elim (or_cases ((b == c) && is_among (codes "<>=") b) ((b == 33) && (c == 61)) (and_parts (c == d) (((b == c) && is_among (codes "<>=") b) || ((b == 33) && (c == 61))) h).1) [
      | inl e ↦ among-all is_mark_byte (codes "<>=") b refl (and_parts (b == c) (is_among (codes "<>=") b) e).1
      | inr e ↦ rw (eqb-true b 33 (and_parts (b == 33) (c == 61) e).0) refl
    ]

mark-first : (b : ℕ) (bs : List ℕ) → is_mark (b ∷ bs) ≡ true → is_mark_byte b ≡ true
mark-first b [] h = h
mark-first b (c ∷ []) h = pair-first b c h
mark-first b (c ∷ d ∷ []) h = triple-first b c d h
mark-first b (c ∷ d ∷ e ∷ bs) h = elim (false≢true h) [ ]

mark_len-some : (text : List ℕ) → 1 ≤ mark_len text
unfolding mark_len
mark_len-some [] = omega arith
mark_len-some (b ∷ []) = omega arith
mark_len-some (b ∷ c ∷ []) = by_test (is_mark_pair b c)
  where
    by_test : (t : Bool) → 1 ≤ cond t 2 1
    by_test true = omega arith
    by_test false = omega arith
mark_len-some (b ∷ c ∷ d ∷ bs) = by_tests (is_mark_triple b c d) (is_mark_pair b c)
  where
    by_tests : (t u : Bool) → 1 ≤ cond t 3 (cond u 2 1)
    by_tests true u = omega arith
    by_tests false true = omega arith
    by_tests false false = omega arith

mark-covers : (text more : List ℕ) → is_mark text ≡ true → length text ≤ mark_len (text ++ more)
unfolding mark_len
mark-covers [] more h = omega arith
mark-covers (b ∷ []) more h = mark_len-some (b ∷ more)
mark-covers (b ∷ c ∷ []) [] h = rw h (omega arith)
mark-covers (b ∷ c ∷ []) (d ∷ more) h = by_test (is_mark_triple b c d)
  where
    by_test : (t : Bool) → 2 ≤ cond t 3 (cond (is_mark_pair b c) 2 1)
    by_test true = omega arith
    by_test false = rw h (omega arith)
mark-covers (b ∷ c ∷ d ∷ []) more h = rw h (omega arith)
mark-covers (b ∷ c ∷ d ∷ e ∷ bs) more h = elim (false≢true h) [ ]

mark-spelled : (b : ℕ) (bs : List ℕ) → is_mark_byte b ≡ true → IsSpelled Symbol (b ∷ bs) (Some (mark_len (b ∷ bs)))
unfolding mark_len
mark-spelled b [] h = (omega arith, omega arith, h)
mark-spelled b (c ∷ []) h = by_test (is_mark_pair b c) refl
  where
    by_test : (t : Bool) → is_mark_pair b c ≡ t → IsSpelled Symbol (b ∷ c ∷ []) (Some (cond t 2 1))
    by_test true e = (omega arith, omega arith, e)
    by_test false e = (omega arith, omega arith, h)
mark-spelled b (c ∷ d ∷ bs) h = by_tests (is_mark_triple b c d) (is_mark_pair b c) refl refl
  where
    by_tests : (t u : Bool) → is_mark_triple b c d ≡ t → is_mark_pair b c ≡ u → IsSpelled Symbol (b ∷ c ∷ d ∷ bs) (Some (cond t 3 (cond u 2 1)))
    by_tests true u e f = (omega arith, omega arith, e)
    by_tests false true e f = (omega arith, omega arith, f)
    by_tests false false e f = (omega arith, omega arith, h)

-- Continued lines.
continued-covers : (text more : List ℕ) → is_continued text ≡ true → Covers (continued_len (text ++ more)) (length text)
unfolding continued_len
continued-covers [] more h = elim (false≢true h) [ ]
continued-covers (b ∷ []) more h = elim (false≢true h) [ ]
continued-covers (b ∷ c ∷ []) more h = rw (and_parts (b == 92) (c == 10) h).1 (omega arith)
continued-covers (b ∷ c ∷ d ∷ bs) more h = elim (false≢true h) [ ]

continued-spelled : (bs : List ℕ) → IsSpelled Continued (92 ∷ bs) (continued_len (92 ∷ bs))
unfolding continued_len
continued-spelled [] = tt
continued-spelled (c ∷ bs) = by_test (c == 10) refl
  where
    by_test : (t : Bool) → (c == 10) ≡ t → IsSpelled Continued (92 ∷ c ∷ bs) (cond t (Some 2) None)
    by_test true e = (omega arith, omega arith, e)
    by_test false e = tt

-- Numbers.
number-spelled : (text : List ℕ) → IsSpelled Numeral text (some_len (number_len text))
number-spelled text = by_test (nat_lt 0 (number_len text)) refl
  where
    by_test : (t : Bool) → nat_lt 0 (number_len text) ≡ t → IsSpelled Numeral text (cond t (Some (number_len text)) None)
    by_test true e = let some = ltb-true 0 (number_len text) e in let s = number_len-spelled text some in (some, s.0, s.1)
    by_test false e = tt

number-some : (text : List ℕ) → is_number text ≡ true → 0 < length text
number-some [] h = elim (false≢true h) [ ]
number-some (b ∷ bs) h = omega arith

number-covers : (text more : List ℕ) → is_number text ≡ true → Covers (some_len (number_len (text ++ more))) (length text)
number-covers text more h =
    let covers = number_len-covers text more h in
    rw (lt-ltb 0 (number_len (text ++ more)) (omega (arith, covers, number-some text h))) covers

-- Which lexeme a byte can begin, where no comment and no attribute begins.
is_class : Lexeme → Option Lexeme → Bool
is_class Blank (Some Blank) = true
is_class Symbol (Some Symbol) = true
is_class Numeral (Some Numeral) = true
is_class _ _ = false

is_class-true : (lexeme : Lexeme) (o : Option Lexeme) → is_class lexeme o ≡ true → o ≡ Some lexeme
unfolding is_class
is_class-true Blank (Some Blank) h = refl
is_class-true Symbol (Some Symbol) h = refl
is_class-true Numeral (Some Numeral) h = refl
is_class-true _ _ h = elim (false≢true h) [ ]

blank-all : (test : ℕ → Bool) (b : ℕ) → test 32 ≡ true → test 9 ≡ true → test 13 ≡ true → test 10 ≡ true → is_blank b ≡ true → test b ≡ true
blank-all test b space tab return feed h =
    elim (or_cases ((b == 32) || (b == 9) || (b == 13)) (b == 10) h) [
      | inr e ↦ rw (eqb-true b 10 e) feed
      | inl e ↦ elim (or_cases ((b == 32) || (b == 9)) (b == 13) e) [
        | inr f ↦ rw (eqb-true b 13 f) return
        | inl f ↦ elim (or_cases (b == 32) (b == 9) f) [
          | inl g ↦ rw (eqb-true b 32 g) space
          | inr g ↦ rw (eqb-true b 9 g) tab
        ]
      ]
    ]

blank-class : (b : ℕ) → is_blank b ≡ true → class_of b ≡ Some Blank
unfolding is_class class_of
blank-class b h = is_class-true Blank (class_of b) (blank-all (λ d. is_class Blank (class_of d)) b refl refl refl refl h)

mark-class : (b : ℕ) → is_mark_byte b ≡ true → class_of b ≡ Some Symbol
unfolding is_class class_of
mark-class b h = is_class-true Symbol (class_of b) (among-all (λ d. is_class Symbol (class_of d)) (codes "#(),;=[]:@*.{}?+-!~&|^/%<>") b refl h)

-- Decimal digits.
digit-within : (b : ℕ) → is_digit 10 b ≡ true → (48 ≤ b) × (b ≤ 57)
digit-within b h = elim (or_cases (nat_lt (digit_of b) 10) (is_among (2 ∷ 8 ∷ 16 ∷ []) 10 && is_unknown b) h) [
  | inl e ↦ by_tests (nat_le 48 b && nat_le b 57) (nat_le 97 b && nat_le b 102) (nat_le 65 b && nat_le b 70) refl refl refl (ltb-true (digit_of b) 10 e)
  | inr e ↦ elim (false≢true e) [ ]
]
  where
    by_tests : (t u v : Bool) → (nat_le 48 b && nat_le b 57) ≡ t → (nat_le 97 b && nat_le b 102) ≡ u → (nat_le 65 b && nat_le b 70) ≡ v
        → cond t (b - 48) (cond u (b - 87) (cond v (b - 55) 16)) < 10 → (48 ≤ b) × (b ≤ 57)
    by_tests true u v e f g h = let p = and_parts (nat_le 48 b) (nat_le b 57) e in (leb-true 48 b p.0, leb-true b 57 p.1)
    by_tests false true v e f g h = absurd (omega (arith, h, leb-true 97 b (and_parts (nat_le 97 b) (nat_le b 102) f).0))
    by_tests false false true e f g h = absurd (omega (arith, h, leb-true 65 b (and_parts (nat_le 65 b) (nat_le b 70) g).0))
    by_tests false false false e f g h = absurd (omega (arith, h))

decimal-class : (b : ℕ) → 48 ≤ b → b ≤ 57 → class_of b ≡ Some Numeral
unfolding class_of
decimal-class b low high = grind (arith, nat_tests)

quote-class : class_of 39 ≡ Some Numeral
unfolding class_of
quote-class = refl

number-class : (b : ℕ) (bs : List ℕ) → is_number (b ∷ bs) ≡ true → class_of b ≡ Some Numeral
number-class b bs h =
    elim (or_cases (is_digits 10 (b ∷ bs)) (is_based_number (b ∷ bs)) h) [
      | inl e ↦ by_digit (and_parts (is_digit 10 b) (ends_in_digit 10 true bs) e).0
      | inr e ↦ by_quote (b == 39) refl (and_parts (is_nil (size_of (b ∷ bs)) || is_size (size_of (b ∷ bs))) (is_signed_based (after_size (b ∷ bs))) e).0
    ]
  where
    by_digit : is_digit 10 b ≡ true → class_of b ≡ Some Numeral
    by_digit d = let p = digit-within b d in decimal-class b p.0 p.1

    sized : (n : ℕ) → (is_nil (take (1 + n) (b ∷ bs)) || is_size (take (1 + n) (b ∷ bs))) ≡ true → is_digit 10 b ≡ true
    sized n g =
        let d : is_size (b ∷ take n bs) ≡ true = rw (take_one n b bs) at g in
        (and_parts (is_digit 10 b) (ends_in_digit 10 true (take n bs)) (and_parts (is_digits 10 (b ∷ take n bs)) (list_any is_some_digit (b ∷ take n bs)) d).0).0

    by_quote : (t : Bool) → (b == 39) ≡ t
        → (is_nil (take (cond (not t) (1 + prefix_len is_in_size bs) 0) (b ∷ bs)) || is_size (take (cond (not t) (1 + prefix_len is_in_size bs) 0) (b ∷ bs))) ≡ true
        → class_of b ≡ Some Numeral
    by_quote true e g = rw (eqb-true b 39 e) quote-class
    by_quote false e g = by_digit (sized (prefix_len is_in_size bs) g)

one-begins : (mark b : ℕ) (bs : List ℕ) → ((b == mark) && is_identifier bs) ≡ true → b ≡ mark
one-begins mark b bs h = eqb-true b mark (and_parts (b == mark) (is_identifier bs) h).0

-- A lexeme's first byte can begin it.
class-begins : (lexeme : Lexeme) (b : ℕ) (bs : List ℕ) → is_passed lexeme ≡ false → is_lexeme lexeme (b ∷ bs) ≡ true → class_of b ≡ Some lexeme
unfolding class_of
class-begins Blank b [] free h = blank-class b h
class-begins Blank b (c ∷ bs) free h = elim (false≢true h) [ ]
class-begins Passed b bs free h = elim (true≢false free) [ ]
class-begins Continued b [] free h = elim (false≢true h) [ ]
class-begins Continued b (c ∷ []) free h = rw (eqb-true b 92 (and_parts (b == 92) (c == 10) h).0) refl
class-begins Continued b (c ∷ d ∷ bs) free h = elim (false≢true h) [ ]
class-begins Tick b bs free h = rw (one-begins 96 b bs h) refl
class-begins Identifier b bs free h = rw (and_parts (is_letter b) (list_all is_name_byte bs) h).0 refl
class-begins Numeral b bs free h = number-class b bs h
class-begins SystemName b bs free h = rw (one-begins 36 b bs h) refl
class-begins Symbol b bs free h = mark-class b (mark-first b bs h)

nothing : (lexeme : Lexeme) → is_lexeme lexeme [] ≡ false
nothing Blank = refl
nothing Passed = refl
nothing Continued = refl
nothing Tick = refl
nothing Identifier = refl
nothing Numeral = refl
nothing SystemName = refl
nothing Symbol = refl

passed_is : (lexeme : Lexeme) → is_passed lexeme ≡ true → Passed ≡ lexeme
passed_is Passed h = refl
passed_is Blank h = elim (false≢true h) [ ]
passed_is Continued h = elim (false≢true h) [ ]
passed_is Tick h = elim (false≢true h) [ ]
passed_is Identifier h = elim (false≢true h) [ ]
passed_is Numeral h = elim (false≢true h) [ ]
passed_is SystemName h = elim (false≢true h) [ ]
passed_is Symbol h = elim (false≢true h) [ ]

-- What stands in front of a text is what its bytes can begin.
begins : (lexeme : Lexeme) (text more : List ℕ) → stands (text ++ more) lexeme text ≡ true → first_lexeme (text ++ more) ≡ Some lexeme
unfolding first_lexeme
begins lexeme [] more h = absurd (false≢true (sym (nothing lexeme) ∙ (and_parts (is_lexeme lexeme []) (cond (opens more) (is_passed lexeme) (not (is_passed lexeme))) h).0))
begins lexeme (b ∷ bs) more h =
    let parts = and_parts (is_lexeme lexeme (b ∷ bs)) (cond (opens (b ∷ (bs ++ more))) (is_passed lexeme) (not (is_passed lexeme))) h in
    by_opens (opens (b ∷ (bs ++ more))) parts.0 parts.1
  where
    by_opens : (t : Bool) → is_lexeme lexeme (b ∷ bs) ≡ true → cond t (is_passed lexeme) (not (is_passed lexeme)) ≡ true → cond t (Some Passed) (class_of b) ≡ Some lexeme
    by_opens true spelled passed = ap Some (passed_is lexeme passed)
    by_opens false spelled free = class-begins lexeme b bs (not-true (is_passed lexeme) free) spelled

-- At least the length of a front that is spelled as the lexeme is found.
covers : (lexeme : Lexeme) (text more : List ℕ) → is_lexeme lexeme text ≡ true → Covers (lexeme_len lexeme (text ++ more)) (length text)
unfolding lexeme_len
covers Blank [] more h = elim (false≢true h) [ ]
covers Blank (b ∷ []) more h = omega arith
covers Blank (b ∷ c ∷ bs) more h = elim (false≢true h) [ ]
covers Passed text more h = passed-covers text more h
covers Continued text more h = continued-covers text more h
covers Tick [] more h = elim (false≢true h) [ ]
covers Tick (b ∷ bs) more h = named_len-covers b bs more (and_parts (b == 96) (is_identifier bs) h).1
covers Identifier text more h = identifier-covers text more h
covers Numeral text more h = number-covers text more h
covers SystemName [] more h = elim (false≢true h) [ ]
covers SystemName (b ∷ bs) more h = named_len-covers b bs more (and_parts (b == 36) (is_identifier bs) h).1
covers Symbol text more h = mark-covers text more h

-- The tests by which a byte's lexeme is chosen.
chosen : (t : Bool) (q p : Lexeme) (o : Option Lexeme) → cond t (Some q) o ≡ Some p → ((t ≡ true) × (q ≡ p)) ⊎ (o ≡ Some p)
chosen true q p o h = inl (refl, same_Some q p h)
chosen false q p o h = inr h

-- What is found is spelled as the lexeme, and no comment or attribute.
abbrev IsSpelledFreely : Lexeme → List ℕ → Type 0
IsSpelledFreely lexeme text = IsSpelled lexeme text (lexeme_len lexeme text) × (is_passed lexeme ≡ false)

class-spelled : (b : ℕ) (bs : List ℕ) (lexeme : Lexeme) → class_of b ≡ Some lexeme → IsSpelledFreely lexeme (b ∷ bs)
unfolding class_of lexeme_len
class-spelled b bs lexeme h =
    elim (chosen (is_letter b) Identifier lexeme _ h) [
      | inl p ↦ rw (sym p.1) (identifier-spelled b bs p.0, refl)
      | inr h ↦ elim (chosen (is_blank b) Blank lexeme _ h) [
        | inl p ↦ rw (sym p.1) ((omega arith, omega arith, p.0), refl)
        | inr h ↦ elim (chosen (is_mark_byte b) Symbol lexeme _ h) [
          | inl p ↦ rw (sym p.1) (mark-spelled b bs p.0, refl)
          | inr h ↦ elim (chosen ((nat_le 48 b && nat_le b 57) || (b == 39)) Numeral lexeme _ h) [
            | inl p ↦ rw (sym p.1) (number-spelled (b ∷ bs), refl)
            | inr h ↦ elim (chosen (b == 96) Tick lexeme _ h) [
              | inl p ↦ rw (sym p.1) (named_len-spelled Tick b bs (λ w e. and_from _ _ p.0 e), refl)
              | inr h ↦ elim (chosen (b == 36) SystemName lexeme _ h) [
                | inl p ↦ rw (sym p.1) (named_len-spelled SystemName b bs (λ w e. and_from _ _ p.0 e), refl)
                | inr h ↦ elim (chosen (b == 92) Continued lexeme None h) [
                  | inl p ↦ rw (sym p.1, eqb-true b 92 p.0) (continued-spelled bs, refl)
                  | inr h ↦ absurd (none-some lexeme h)
                ]
              ]
            ]
          ]
        ]
      ]
    ]

-- What is found stands there.
abbrev Stands : List ℕ → Lexeme → Option ℕ → Type 0
Stands text lexeme None = Unit {0}
Stands text lexeme (Some n) = (0 < n) × (n ≤ length text) × (stands text lexeme (take n text) ≡ true)

stands-from : (text : List ℕ) (lexeme : Lexeme) (len : Option ℕ) → cond (opens text) (is_passed lexeme) (not (is_passed lexeme)) ≡ true → IsSpelled lexeme text len → Stands text lexeme len
stands-from text lexeme None fits s = tt
stands-from text lexeme (Some n) fits s = (s.0, s.1, and_from _ _ s.2 fits)

spelled : (text : List ℕ) (lexeme : Lexeme) → first_lexeme text ≡ Some lexeme → Stands text lexeme (lexeme_len lexeme text)
unfolding first_lexeme lexeme_len
spelled [] lexeme h = absurd (none-some lexeme h)
spelled (b ∷ bs) lexeme h = by_opens (opens (b ∷ bs)) refl h
  where
    by_opens : (t : Bool) → opens (b ∷ bs) ≡ t → cond t (Some Passed) (class_of b) ≡ Some lexeme → Stands (b ∷ bs) lexeme (lexeme_len lexeme (b ∷ bs))
    by_opens true e g = rw (sym (same_Some Passed lexeme g)) (stands-from (b ∷ bs) Passed (passed_len (b ∷ bs)) (rw e refl) (passed-spelled (b ∷ bs) e))
    by_opens false e g =
        let s = class-spelled b bs lexeme g in
        stands-from (b ∷ bs) lexeme (lexeme_len lexeme (b ∷ bs)) (rw (e, s.1) refl) s.0

-- Two lexemes that one text can begin are the same.
pub same_lexeme : (rest : List ℕ) (p q : Lexeme) → first_lexeme rest ≡ Some p → first_lexeme rest ≡ Some q → p ≡ q
same_lexeme rest p q e f = same_Some p q (sym e ∙ f)

-- What a front that stands there says of the rest that it begins.
pub fronts : (rest : List ℕ) (lexeme : Lexeme) (text more : List ℕ) → rest ≡ text ++ more → stands rest lexeme text ≡ true → (first_lexeme rest ≡ Some lexeme) × Covers (lexeme_len lexeme rest) (length text)
fronts rest lexeme text more e h =
    let here : stands (text ++ more) lexeme text ≡ true = rw e at h in
    rw e (begins lexeme text more here, covers lexeme text more (and_parts (is_lexeme lexeme text) (cond (opens (text ++ more)) (is_passed lexeme) (not (is_passed lexeme))) here).0)

false-from : (t : Bool) → (t ≡ true → ⊥) → t ≡ false
false-from true h = absurd (h refl)
false-from false h = refl

finds_by : (rest : List ℕ) (lexeme : Lexeme) (len : Option ℕ) → first_lexeme rest ≡ Some lexeme → lexeme_len lexeme rest ≡ len → Stands rest lexeme len → FindsLexeme rest (found_lexeme lexeme len)
finds_by rest lexeme None first is spells =
    λ other text more e. false-from (stands rest other text) (λ h.
    let f = fronts rest other text more e h in
    let covered : Covers (lexeme_len lexeme rest) (length text) = rw (same_lexeme rest lexeme other first f.0) f.1 in
    let nothing : Covers None (length text) = rw is at covered in
    nothing)
finds_by rest lexeme (Some n) first is spells = (
  spells.0,
  spells.1,
  record {
    front = sym (take-append-drop n rest);
    spelled = spells.2;
    longest = λ other longer more e h.
        let f = fronts rest other longer more e h in
        let covered : Covers (lexeme_len lexeme rest) (length longer) = rw (same_lexeme rest lexeme other first f.0) f.1 in
        let within : length longer ≤ n = rw is at covered in
        rw (length-take-le n rest spells.1) within;
  },
)

finds : (rest : List ℕ) (first : Option Lexeme) → first_lexeme rest ≡ first → FindsLexeme rest (lexeme_by first rest)
unfolding lexeme_by
finds rest None e = λ other text more f. false-from (stands rest other text) (λ h. none-some other (sym e ∙ (fronts rest other text more f h).0))
finds rest (Some lexeme) e = finds_by rest lexeme (lexeme_len lexeme rest) e refl (spelled rest lexeme e)

-- What the code finds is the longest match, and it finds none only where none stands.
pub lexeme_at-finds : (rest : List ℕ) → FindsLexeme rest (lexeme_at rest)
unfolding lexeme_at
lexeme_at-finds rest = finds rest (first_lexeme rest) refl
