-- Words as they are written: what reading them gives, and where a line of them is cut.
use Rattle.std.proofs.Common.{◌≡◌, ℕ, zero, suc, ◌+◌, ◌-◌, ◌*◌, ◌%◌, ◌^◌, ◌<◌, ◌≤◌, ◌==◌, min, nat_lt, nat_le, slice_index, Bool, true, false, ◌&&◌, if◌then◌else◌, Option, Some, option_map, codes, List, [], ◌∷◌, ◌++◌, length, map, get_or, slice_get, refl, sym, ◌∙◌, ap, arith, inl, inr, append_assoc, ne_eqb}
use Rattle.std.specs.Option.{option_and_then}
use Rattle.std.specs.List.{All, list_all, list_any}
use Rattle.std.specs.Fmt.{decimal}
use Rattle.std.proofs.lemmas.Bool.{cases_Bool, lt-ltb, le-leb, ltb-true, leb-true, eqb-true, and_parts, and_from}
use Rattle.std.proofs.lemmas.Fmt.{decimal_by_steps, decimal_nonempty, decimal_digit, first_decimal}
use Rattle.std.proofs.lemmas.List.{append-nil}
use Rattle.std.proofs.lemmas.List.Folds.{list_all-append}
use Rattle.std.proofs.lemmas.List.Elements.{All-nil, All-cons}
use Rattle.std.proofs.lemmas.List.Splits.{slice_split_at, slice_split_none}
use Rattle.unroll_cnf.specs.declared.latch_literal.LatchLiteral.{LatchLiteral}
use Rattle.unroll_cnf.specs.Latches.{AreApart}
use Rattle.cert_text.specs.Numbers.{is_digit, value_from, is_plain, number_of}
use Rattle.cert_text.specs.Lines.{words_of, each_of, latch_of, literal_of, code_of, are_apart}
use Rattle.cert_text.specs.Text.{literal_word, spaced}
use Rattle.cert_text.proofs.WordLemmas.{value_more}

-- the value of a written number, and its digits
decimal_value : (n : ℕ) → n < 2 ^ 64 → value_from 0 (decimal n) ≡ n
decimal_value = decimal_by_steps (λ m ds. value_from 0 ds ≡ m) (λ m l. omega arith) (λ m ds l h. omega (arith, value_more 0 ds (48 + m % 10)))

digit_is : (d : ℕ) → d < 10 → is_digit (48 + d) ≡ true
digit_is d small = and_from (nat_le 48 (48 + d)) (nat_le (48 + d) 57) (le-leb 48 (48 + d) (omega arith)) (le-leb (48 + d) 57 (omega arith))

pub decimal_digits : (n : ℕ) → n < 2 ^ 64 → list_all is_digit (decimal n) ≡ true
decimal_digits = decimal_by_steps (λ m ds. list_all is_digit ds ≡ true)
    (λ m l. and_from (is_digit (48 + m)) true (digit_is m l) refl)
    (λ m ds l h. list_all-append is_digit ds ((48 + m % 10) ∷ []) ∙ and_from (list_all is_digit ds) (is_digit (48 + m % 10) && true) h (and_from (is_digit (48 + m % 10)) true (digit_is (m % 10) (omega arith)) refl))

-- no zero stands before other digits
not_led : (n : ℕ) → n < 2 ^ 64 → (nat_lt 1 (length (decimal n)) && slice_index (decimal n) 0 == 48) ≡ false
not_led zero small = let e : decimal 0 ≡ 48 ∷ [] = decimal_digit 0 (omega arith) in rw e refl
not_led (suc n) small =
    let first : 48 < get_or (decimal (suc n)) 0 0 = first_decimal (suc n) (omega arith) small in
    let other : (slice_index (decimal (suc n)) 0 == 48) ≡ false = ne_eqb (slice_index (decimal (suc n)) 0) 48 (omega arith) in
    rw other (and_false (nat_lt 1 (length (decimal (suc n)))))
  where
    and_false : (b : Bool) → (b && false) ≡ false
    and_false true = refl
    and_false false = refl

pub decimal_plain : (n : ℕ) → n < 2 ^ 64 → is_plain (decimal n) ≡ true
decimal_plain n small =
    let some : nat_lt 0 (length (decimal n)) ≡ true = lt-ltb 0 (length (decimal n)) (decimal_nonempty n small) in
    rw (some, not_led n small, decimal_digits n small) refl

-- a number that is written is read
pub number_written : (n : ℕ) → n < 2 ^ 32 → number_of (decimal n) ≡ Some n
unfolding number_of
number_written n small =
    let within : n < 2 ^ 64 = omega arith in
    let value : min (value_from 0 (decimal n)) (2 ^ 32 - 1) ≡ n = omega (arith, decimal_value n within) in
    rw (decimal_plain n within) (ap Some value)

-- bytes that are no space and no line feed
abbrev pub is_visible : ℕ → Bool
is_visible byte = nat_lt 32 byte

abbrev pub is_word : List ℕ → Bool
is_word word = list_all is_visible word

abbrev pub are_words : List (List ℕ) → Bool
are_words words = list_all is_word words

digits_visible : (ds : List ℕ) → list_all is_digit ds ≡ true → is_word ds ≡ true
digits_visible [] h = refl
digits_visible (d ∷ ds) h =
    let parts = and_parts (is_digit d) (list_all is_digit ds) h in
    let low : 48 ≤ d = leb-true 48 d (and_parts (nat_le 48 d) (nat_le d 57) parts.0).0 in
    and_from (is_visible d) (is_word ds) (lt-ltb 32 d (omega arith)) (digits_visible ds parts.1)

pub decimal_word : (n : ℕ) → n < 2 ^ 64 → is_word (decimal n) ≡ true
decimal_word n small = digits_visible (decimal n) (decimal_digits n small)

pub literal_is_word : (l : LatchLiteral) → l.latch < 2 ^ 32 → is_word (literal_word l) ≡ true
literal_is_word l small = by l.negated
  where
    by : (b : Bool) → is_word ((if b then codes "-" else []) ++ decimal (l.latch + 1)) ≡ true
    by true = and_from (is_visible 45) (is_word (decimal (l.latch + 1))) refl (decimal_word (l.latch + 1) (omega arith))
    by false = decimal_word (l.latch + 1) (omega arith)

pub words_by : {A : Type 0} (f : A → List ℕ) (P : A → Type 0) (xs : List A) → ((x : A) → P x → is_word (f x) ≡ true) → All P xs → are_words (map f xs) ≡ true
words_by f P [] each all = refl
words_by f P (x ∷ xs) each all = and_from (is_word (f x)) (are_words (map f xs)) (each x (all 0 x (omega arith))) (words_by f P xs each (λ k d lt. all (suc k) d (omega arith)))

pub are_words-append : (a b : List (List ℕ)) → are_words a ≡ true → are_words b ≡ true → are_words (a ++ b) ≡ true
are_words-append a b one two = list_all-append is_word a b ∙ and_from (are_words a) (are_words b) one two

-- where a line of words is cut
no_space : (word : List ℕ) → is_word word ≡ true → All (λ byte. (byte == 32) ≡ false) word
no_space [] h = All-nil (λ byte. (byte == 32) ≡ false)
no_space (b ∷ bs) h =
    let parts = and_parts (is_visible b) (is_word bs) h in
    let past : 32 < b = ltb-true 32 b parts.0 in
    All-cons (λ byte. (byte == 32) ≡ false) b bs (ne_eqb b 32 (omega arith)) (no_space bs parts.1)

pub words_written : (word : List ℕ) (words : List (List ℕ)) → is_word word ≡ true → are_words words ≡ true → words_of (word ++ spaced words) ≡ word ∷ words
words_written word [] one all = ap words_of (append-nil word) ∙ slice_split_none (λ byte. byte == 32) word (no_space word one)
words_written word (next ∷ words) one all =
    let parts = and_parts (is_word next) (are_words words) all in
    slice_split_at (λ byte. byte == 32) word 32 (next ++ spaced words) (no_space word one) refl
    ∙ ap (λ (rest : List (List ℕ)). word ∷ rest) (words_written next words parts.0 parts.1)

pub spaced-append : (a b : List (List ℕ)) → spaced (a ++ b) ≡ spaced a ++ spaced b
spaced-append [] b = refl
spaced-append (w ∷ a) b = ap (λ (rest : List ℕ). 32 ∷ (w ++ rest)) (spaced-append a b) ∙ ap (λ (rest : List ℕ). 32 ∷ rest) (sym (append_assoc w (spaced a) (spaced b)))

-- what words say that are written one by one
pub each_written : {A : Type 0} (f : List ℕ → Option A) (g : A → List ℕ) (P : A → Type 0) (xs : List A) → ((x : A) → P x → f (g x) ≡ Some x) → All P xs → each_of f (map g xs) ≡ Some xs
each_written f g P [] each all = refl
each_written f g P (x ∷ xs) each all =
    let first : f (g x) ≡ Some x = each x (all 0 x (omega arith)) in
    let rest : each_of f (map g xs) ≡ Some xs = each_written f g P xs each (λ k d lt. all (suc k) d (omega arith)) in
    ap (λ o. option_and_then (λ y. option_map (λ ys. y ∷ ys) (each_of f (map g xs))) o) first ∙ ap (λ o. option_map (λ ys. x ∷ ys) o) rest

-- a literal that is written is read
latch_written : (n : ℕ) (negated : Bool) (latch : ℕ) → latch < n → n < 2 ^ 32 → latch_of n negated (number_of (decimal (latch + 1))) ≡ Some (record { latch = latch; negated = negated })
latch_written n negated latch lt small =
    let low : nat_lt 0 (latch + 1) ≡ true = lt-ltb 0 (latch + 1) (omega arith) in
    let high : nat_le (latch + 1) n ≡ true = le-leb (latch + 1) n (omega arith) in
    let back : latch + 1 - 1 ≡ latch = omega arith in
    rw (number_written (latch + 1) (omega arith)) (rw (low, high) (ap (λ (i : ℕ). Some (record { latch = i; negated = negated })) back))

plain_literal : (n : ℕ) (ds : List ℕ) → 0 < length ds → list_all is_digit ds ≡ true → literal_of n ds ≡ latch_of n false (number_of ds)
unfolding literal_of
plain_literal n [] some h = absurd (omega arith)
plain_literal n (d ∷ ds) some h =
    let low : 48 ≤ d = leb-true 48 d (and_parts (nat_le 48 d) (nat_le d 57) (and_parts (is_digit d) (list_all is_digit ds) h).0).0 in
    let other : (d == 45) ≡ false = ne_eqb d 45 (omega arith) in
    rw other refl

minus_literal : (n : ℕ) (ds : List ℕ) → literal_of n (45 ∷ ds) ≡ latch_of n true (number_of ds)
unfolding literal_of
minus_literal n ds = refl

pub literal_written : (n : ℕ) (l : LatchLiteral) → n < 2 ^ 32 → l.latch < n → literal_of n (literal_word l) ≡ Some l
literal_written n l small lt = by l.negated
  where
    by : (b : Bool) → literal_of n ((if b then codes "-" else []) ++ decimal (l.latch + 1)) ≡ Some (record { latch = l.latch; negated = b })
    by true = minus_literal n (decimal (l.latch + 1)) ∙ latch_written n true l.latch lt small
    by false = plain_literal n (decimal (l.latch + 1)) (decimal_nonempty (l.latch + 1) (omega arith)) (decimal_digits (l.latch + 1) (omega arith)) ∙ latch_written n false l.latch lt small

-- literals that stand apart pass the test for it
abbrev literal : ℕ → Bool → LatchLiteral
literal i negated = record { latch = i; negated = negated }

code_once : (i j : ℕ) (a b : Bool) → 2 * i + (if a then 1 else 0) ≡ 2 * j + (if b then 1 else 0) → literal i a ≡ literal j b
code_once i j true true e = let same : i ≡ j = omega arith in ap (λ k. literal k true) same
code_once i j false false e = let same : i ≡ j = omega arith in ap (λ k. literal k false) same
code_once i j true false e = absurd (omega arith)
code_once i j false true e = absurd (omega arith)

none_among : (l : LatchLiteral) (ls : List LatchLiteral) → ((j : ℕ) → slice_get ls j ≡ Some l → ⊥) → list_any (λ m. code_of m == code_of l) ls ≡ false
none_among l [] never = refl
none_among l (x ∷ xs) never = elim (cases_Bool (code_of x == code_of l)) [
  | inl t ↦ absurd (never 0 (ap Some (code_once x.latch l.latch x.negated l.negated (eqb-true (code_of x) (code_of l) t))))
  | inr f ↦ rw (f, none_among l xs (λ j is. never (suc j) is)) refl
]

pub apart_tested : (ls : List LatchLiteral) → AreApart ls → are_apart ls ≡ true
apart_tested [] h = refl
apart_tested (l ∷ ls) h =
    let none : list_any (λ m. code_of m == code_of l) ls ≡ false = none_among l ls (λ j is. h.once 0 (suc j) l (omega arith) refl is) in
    let rest : are_apart ls ≡ true = apart_tested ls (record { once = λ i j m lt p q. h.once (suc i) (suc j) m (omega arith) p q }) in
    rw (none, rest) refl
