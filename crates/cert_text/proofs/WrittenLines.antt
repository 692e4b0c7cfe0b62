-- Lines as they are written: what reading them gives, and where the text of them is cut.
use Rattle.std.proofs.Common.{◌≡◌, ℕ, suc, ◌+◌, ◌-◌, ◌^◌, ◌<◌, ◌≤◌, ◌==◌, nat_lt, nat_le, Bool, true, false, if◌then◌else◌, Option, Some, None, option_map, codes, List, [], ◌∷◌, ◌++◌, length, map, take, get_or, refl, sym, ◌∙◌, ap, arith, inl, inr, length-append, ne_eqb}
use Rattle.std.specs.Option.{option_and_then}
use Rattle.std.specs.List.{All, list_all}
use Rattle.std.specs.Fmt.{decimal}
use Rattle.std.specs.Str.{bytes_eq}
use Rattle.std.proofs.lemmas.Bool.{cases_Bool, lt-ltb, ltb-true, leb-true, and_parts, and_from}
use Rattle.std.proofs.lemmas.Fmt.{decimal_nonempty}
use Rattle.std.proofs.lemmas.List.{append-nil}
use Rattle.std.proofs.lemmas.List.Folds.{list_all-append}
use Rattle.std.proofs.lemmas.List.Elements.{All-nil, All-cons}
use Rattle.std.proofs.lemmas.List.Splits.{slice_split_at}
use Rattle.std.proofs.lemmas.Slice.Eq.{bytes_eq-Decides}
use Rattle.unroll_cnf.specs.declared.latch_literal.LatchLiteral.{LatchLiteral}
use Rattle.unroll_cnf.specs.Latches.{AreApart}
use Rattle.cert_text.specs.Numbers.{is_digit, number_of}
use Rattle.cert_text.specs.Lines.{pieces_of, lines_of, tail_of, words_of, each_of, number_after, literal_of, if_apart, clause_words, clause_of, is_slash, before_slash, with_pivots, chain_words, chain_of, due_after}
use Rattle.cert_text.specs.Reading.{Link}
use Rattle.cert_text.specs.Laws.{IsSmall}
use Rattle.cert_text.specs.Text.{literal_word, spaced, clause_line, chain_line, text_of_lines}
use Rattle.cert_text.proofs.WrittenWords.{is_word, are_words, decimal_digits, number_written, decimal_word, literal_is_word, literal_written, apart_tested, words_by, are_words-append, words_written, spaced-append, each_written}

-- the lines of a text of lines without line feeds
abbrev pub is_line : List ℕ → Bool
is_line line = list_all (λ byte. nat_lt 10 byte) line

abbrev pub are_lines : List (List ℕ) → Bool
are_lines lines = list_all is_line lines

no_feed : (line : List ℕ) → is_line line ≡ true → All (λ byte. (byte == 10) ≡ false) line
no_feed [] h = All-nil (λ byte. (byte == 10) ≡ false)
no_feed (b ∷ bs) h =
    let parts = and_parts (nat_lt 10 b) (is_line bs) h in
    let past : 10 < b = ltb-true 10 b parts.0 in
    All-cons (λ byte. (byte == 10) ≡ false) b bs (ne_eqb b 10 (omega arith)) (no_feed bs parts.1)

pieces_written : (lines : List (List ℕ)) → are_lines lines ≡ true → pieces_of (text_of_lines lines) ≡ lines ++ [] ∷ []
pieces_written [] h = refl
pieces_written (line ∷ lines) h =
    let parts = and_parts (is_line line) (are_lines lines) h in
    slice_split_at (λ byte. byte == 10) line 10 (text_of_lines lines) (no_feed line parts.0) refl
    ∙ ap (λ (rest : List (List ℕ)). line ∷ rest) (pieces_written lines parts.1)

front_of : (lines : List (List ℕ)) → take (length (lines ++ [] ∷ []) - 1) (lines ++ [] ∷ []) ≡ lines
front_of lines =
    let e : length (lines ++ [] ∷ []) - 1 ≡ length lines = omega (arith, length-append lines ([] ∷ [])) in
    ap (λ n. take n (lines ++ [] ∷ [])) e ∙ front lines
  where
    front : (lines : List (List ℕ)) → take (length lines) (lines ++ [] ∷ []) ≡ lines
    front [] = refl
    front (line ∷ lines) = ap (λ (rest : List (List ℕ)). line ∷ rest) (front lines)

last_of : (lines : List (List ℕ)) → get_or (lines ++ [] ∷ []) (length (lines ++ [] ∷ []) - 1) [] ≡ []
last_of lines =
    let e : length (lines ++ [] ∷ []) - 1 ≡ length lines = omega (arith, length-append lines ([] ∷ [])) in
    ap (λ n. get_or (lines ++ [] ∷ []) n []) e ∙ last lines
  where
    last : (lines : List (List ℕ)) → get_or (lines ++ [] ∷ []) (length lines) [] ≡ []
    last [] = refl
    last (line ∷ lines) = last lines

pub lines_written : (lines : List (List ℕ)) → are_lines lines ≡ true → lines_of (text_of_lines lines) ≡ lines
lines_written lines h = ap (λ (ps : List (List ℕ)). take (length ps - 1) ps) (pieces_written lines h) ∙ front_of lines

pub tail_written : (lines : List (List ℕ)) → are_lines lines ≡ true → tail_of (text_of_lines lines) ≡ []
tail_written lines h = ap (λ (ps : List (List ℕ)). get_or ps (length ps - 1) []) (pieces_written lines h) ∙ last_of lines

pub are_lines-append : (a b : List (List ℕ)) → are_lines a ≡ true → are_lines b ≡ true → are_lines (a ++ b) ≡ true
are_lines-append a b one two = list_all-append is_line a b ∙ and_from (are_lines a) (are_lines b) one two

-- words make a line
word_line : (word : List ℕ) → is_word word ≡ true → is_line word ≡ true
word_line [] h = refl
word_line (b ∷ bs) h =
    let parts = and_parts (nat_lt 32 b) (is_word bs) h in
    let past : 32 < b = ltb-true 32 b parts.0 in
    and_from (nat_lt 10 b) (is_line bs) (lt-ltb 10 b (omega arith)) (word_line bs parts.1)

pub spaced_line : (words : List (List ℕ)) → are_words words ≡ true → is_line (spaced words) ≡ true
spaced_line [] h = refl
spaced_line (word ∷ words) h =
    let parts = and_parts (is_word word) (are_words words) h in
    list_all-append (λ byte. nat_lt 10 byte) word (spaced words) ∙ and_from (is_line word) (is_line (spaced words)) (word_line word parts.0) (spaced_line words parts.1)

-- a name and a number
one_word : (word : List ℕ) → is_word word ≡ true → words_of word ≡ word ∷ []
one_word word h = ap words_of (sym (append-nil word)) ∙ words_written word [] h refl

pub named_number : (name : List ℕ) (n : ℕ) → is_word name ≡ true → n < 2 ^ 32 → number_after name (words_of (name ++ (32 ∷ decimal n))) ≡ Some n
named_number name n h small =
    let cut : words_of (name ++ (32 ∷ decimal n)) ≡ name ∷ decimal n ∷ [] = ap (λ (rest : List ℕ). words_of (name ++ (32 ∷ rest))) (sym (append-nil (decimal n))) ∙ words_written name (decimal n ∷ []) h (and_from (is_word (decimal n)) true (decimal_word n (omega arith)) refl) in
    let same : bytes_eq name name ≡ true = (bytes_eq-Decides name name).1 refl in
    ap (number_after name) cut ∙ (ap (λ t. if t then number_of (decimal n) else None) same ∙ number_written n small)

pub named_line : (name : List ℕ) (n : ℕ) → is_word name ≡ true → n < 2 ^ 32 → is_line (name ++ (32 ∷ decimal n)) ≡ true
named_line name n h small = list_all-append (λ byte. nat_lt 10 byte) name (32 ∷ decimal n) ∙ and_from (is_line name) (is_line (32 ∷ decimal n)) (word_line name h) (word_line (decimal n) (decimal_word n (omega arith)))

-- the line of a clause
abbrev pub AreLow : ℕ → List LatchLiteral → Type 0
AreLow n d = All (λ l. l.latch < n) d

literals_words : (n : ℕ) (d : List LatchLiteral) → n < 2 ^ 32 → AreLow n d → are_words (map literal_word d) ≡ true
literals_words n d small low = words_by literal_word (λ l. l.latch < n) d (λ l lt. literal_is_word l (omega arith)) low

pub clause_written : (n : ℕ) (d : List LatchLiteral) → n < 2 ^ 32 → AreLow n d → AreApart d → clause_of n (clause_line d) ≡ Some d
unfolding clause_of clause_line
clause_written n d small low apart =
    let cut : words_of (codes "c" ++ spaced (map literal_word d)) ≡ codes "c" ∷ map literal_word d = words_written (codes "c") (map literal_word d) refl (literals_words n d small low) in
    let says : each_of (literal_of n) (map literal_word d) ≡ Some d = each_written (literal_of n) literal_word (λ l. l.latch < n) d (λ l lt. literal_written n l small lt) low in
    ap (clause_words n) cut ∙ (ap (option_and_then if_apart) says ∙ ap (λ t. if t then Some d else None) (apart_tested d apart))

pub clause_is_line : (n : ℕ) (d : List LatchLiteral) → n < 2 ^ 32 → AreLow n d → is_line (clause_line d) ≡ true
unfolding clause_line
clause_is_line n d small low = spaced_line (map literal_word d) (literals_words n d small low)

-- the line of a chain
abbrev pub AreSmall : List ℕ → Type 0
AreSmall numbers = All (λ n. n < 2 ^ 32) numbers

numbers_words : (numbers : List ℕ) → AreSmall numbers → are_words (map decimal numbers) ≡ true
numbers_words numbers small = words_by decimal (λ n. n < 2 ^ 32) numbers (λ n lt. decimal_word n (omega arith)) small

no_slash : (ds : List ℕ) → 0 < length ds → list_all is_digit ds ≡ true → is_slash ds ≡ false
no_slash [] some h = absurd (omega arith)
no_slash (d ∷ ds) some h =
    let low : 48 ≤ d = leb-true 48 d (and_parts (nat_le 48 d) (nat_le d 57) (and_parts (is_digit d) (list_all is_digit ds) h).0).0 in
    let other : (d == 47) ≡ false = ne_eqb d 47 (omega arith) in
    rw other refl

slash_written : (ids : List ℕ) (ws : List (List ℕ)) → AreSmall ids → before_slash (map decimal ids ++ codes "/" ∷ ws) ≡ Some (ids, ws)
slash_written [] ws small = refl
slash_written (n ∷ ids) ws small =
    let lt : n < 2 ^ 32 = small 0 n (omega arith) in
    let other : is_slash (decimal n) ≡ false = no_slash (decimal n) (decimal_nonempty n (omega arith)) (decimal_digits n (omega arith)) in
    let rest : before_slash (map decimal ids ++ codes "/" ∷ ws) ≡ Some (ids, ws) = slash_written ids ws (λ k d within. small (suc k) d (omega arith)) in
    rw (other, number_written n lt) (ap (λ (o : Option (List ℕ × List (List ℕ))). option_map (λ r. (n ∷ r.0, r.1)) o) rest)

chain_words_of : (chain : Link) → IsSmall chain → words_of (codes "r" ++ (spaced (map decimal chain.0) ++ spaced (codes "/" ∷ map decimal chain.1))) ≡ codes "r" ∷ (map decimal chain.0 ++ codes "/" ∷ map decimal chain.1)
chain_words_of chain small =
    ap (λ (rest : List ℕ). words_of (codes "r" ++ rest)) (sym (spaced-append (map decimal chain.0) (codes "/" ∷ map decimal chain.1)))
    ∙ words_written (codes "r") (map decimal chain.0 ++ codes "/" ∷ map decimal chain.1) refl
    (are_words-append (map decimal chain.0) (codes "/" ∷ map decimal chain.1) (numbers_words chain.0 small.ids) (numbers_words chain.1 small.pivots))

pub chain_written : (chain : Link) → IsSmall chain → 0 < length chain.0 → chain_of (chain_line chain) ≡ Some chain
unfolding chain_of chain_line
chain_written chain small some =
    let before : before_slash (map decimal chain.0 ++ codes "/" ∷ map decimal chain.1) ≡ Some (chain.0, map decimal chain.1) = slash_written chain.0 (map decimal chain.1) small.ids in
    let says : each_of number_of (map decimal chain.1) ≡ Some chain.1 = each_written number_of decimal (λ n. n < 2 ^ 32) chain.1 number_written small.pivots in
    let filled : nat_lt 0 (length chain.0) ≡ true = lt-ltb 0 (length chain.0) some in
    ap chain_words (chain_words_of chain small) ∙ (ap (option_and_then with_pivots) before ∙ (rw filled refl ∙ ap (λ (o : Option (List ℕ)). option_map (λ pivots. (chain.0, pivots)) o) says))

pub chain_is_line : (chain : Link) → IsSmall chain → is_line (chain_line chain) ≡ true
unfolding chain_line
chain_is_line chain small =
    ap (λ (rest : List ℕ). is_line (114 ∷ rest)) (sym (spaced-append (map decimal chain.0) (codes "/" ∷ map decimal chain.1)))
    ∙ spaced_line (map decimal chain.0 ++ codes "/" ∷ map decimal chain.1)
    (are_words-append (map decimal chain.0) (codes "/" ∷ map decimal chain.1) (numbers_words chain.0 small.ids) (numbers_words chain.1 small.pivots))

-- the line behind the chains of a query is no chain
pub due_no_chain : (k j : ℕ) → chain_of (due_after k j) ≡ None
unfolding chain_of due_after
due_no_chain k j = elim (cases_Bool (nat_lt j k)) [
  | inl t ↦ rw t refl
  | inr f ↦ rw f (elim (cases_Bool (j == k)) [ inl e ↦ rw e refl | inr g ↦ rw g refl ])
]

pub due_is_line : (k j : ℕ) → k < 2 ^ 32 → is_line (due_after k j) ≡ true
unfolding due_after
due_is_line k j small = elim (cases_Bool (nat_lt j k)) [
  | inl t ↦ let lt : j < k = ltb-true j k t in rw t (word_line (decimal (j + 1)) (decimal_word (j + 1) (omega arith)))
  | inr f ↦ rw f (elim (cases_Bool (j == k)) [ inl e ↦ rw e refl | inr g ↦ rw g refl ])
]
