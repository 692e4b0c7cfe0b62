-- The lines of a text, and the text of lines.
use Rattle.std.proofs.Common.{◌≡◌, ℕ, zero, suc, ◌+◌, ◌-◌, ◌<◌, ◌≤◌, ◌==◌, nat_lt, Bool, true, false, not, ◌&&◌, if◌then◌else◌, cond, Option, Some, None, List, [], ◌∷◌, ◌++◌, length, take, drop, map, get_or, refl, sym, ◌∙◌, ap, subst, arith, inl, inr, append_assoc, codes, IsTrue, ◌↔◌}
use Rattle.std.specs.List.{All, list_all, position, position_or_len, before_first, after_first, slice_split, onto_first, join_with_byte, count_by}
use Rattle.std.proofs.lemmas.Bool.{cases_Bool, cond-true, cond-false, ltb-true, ltb-false, and_parts, and_from, not-true, eqb-true}
use Rattle.std.proofs.lemmas.List.Splits.{slice_split_first, slice_split_none, slice_split_at, length-slice_split, slice_split-cons_yes, slice_split-cons_no, join_with_byte-slice_split}
use Rattle.std.proofs.lemmas.List.{take_rest}
use Rattle.std.proofs.lemmas.List.Sums.{fails_before_first}
use Rattle.std.proofs.lemmas.List.Elements.{All-from_get_or, All-nil, All-cons}
use Rattle.std.proofs.lemmas.List.Folds.{list_all-append}
use Rattle.trace_replay.specs.Lines.{lines_of}
use Rattle.trace_replay.specs.TraceText.{text_of_lines}

abbrev pub is_feed : ℕ → Bool
is_feed byte = byte == 10

some_is : {A Q : Type 0} (x y : A) → ◌≡◌ {A = Option A} (Some x) (Some y) → (x ≡ y → Q) → Q
some_is x y same go = let e : x ≡ y = cc in go e

none_some : {A : Type 0} (x : A) (Q : Type 0) → ◌≡◌ {A = Option A} None (Some x) → Q
none_some x Q h = cc

pub lines-some : (text : List ℕ) → 0 < length (lines_of text)
lines-some text = omega (arith, length-slice_split is_feed text)

-- a line with its line feed comes first, or none does
pub next-some : (text : List ℕ) (place : ℕ) → position is_feed text ≡ Some place
    → lines_of text ≡ take place text ∷ lines_of (drop (place + 1) text)
next-some text place found = elim (cases_Bool (nat_lt (position_or_len is_feed text) (length text))) [
  | inl inside ↦ some_is (position_or_len is_feed text) place (sym (cond-true _ (Some (position_or_len is_feed text)) None inside) ∙ found)
      (λ same. rw (sym same) (slice_split_first is_feed text 0 (ltb-true _ _ inside)))
  | inr past ↦ none_some place _ (sym (cond-false _ (Some (position_or_len is_feed text)) None past) ∙ found)
]

pub next-taken : (text : List ℕ) (place : ℕ) → position is_feed text ≡ Some place
    → (lines_of text ≡ take place text ∷ lines_of (take (length text - (place + 1)) (drop (place + 1) text)))
    × (0 < length (lines_of (take (length text - (place + 1)) (drop (place + 1) text))))
next-taken text place found = (rw (take_rest text (place + 1)) (next-some text place found), lines-some (take (length text - (place + 1)) (drop (place + 1) text)))

pub next-none : (text : List ℕ) → position is_feed text ≡ None → length (lines_of text) ≡ 1
next-none text found = elim (cases_Bool (nat_lt (position_or_len is_feed text) (length text))) [
  | inl inside ↦ none_some (position_or_len is_feed text) _ (sym found ∙ cond-true _ (Some (position_or_len is_feed text)) None inside)
  | inr past ↦ ap length (slice_split_none is_feed text
      (All-from_get_or (λ byte. is_feed byte ≡ false) text 0 (λ k below.
      let here : k < position_or_len is_feed text = omega (arith, ltb-false _ _ past) in
      fails_before_first is_feed text k 0 here)))
]

-- the empty text alone has one empty line
onto-other : (x : ℕ) (parts : List (List ℕ)) → onto_first x parts ≡ [] ∷ [] → ⊥
onto-other x [] h = cc
onto-other x (part ∷ parts) h = cc

tail-nil : (a b : List ℕ) (parts : List (List ℕ)) → a ∷ parts ≡ b ∷ [] → length parts ≡ 0
tail-nil a b parts same = let e : parts ≡ [] = cc in ap length e

at-end : (text : List ℕ) → lines_of text ≡ [] ∷ [] → text ≡ []
at-end [] h = refl
at-end (x ∷ xs) h = elim (cases_Bool (is_feed x)) [
  | inl here ↦ absurd (omega (arith, lines-some xs, tail-nil [] [] (lines_of xs) (sym (slice_split-cons_yes is_feed x xs here) ∙ h)))
  | inr other ↦ absurd (onto-other x (lines_of xs) (sym (slice_split-cons_no is_feed x xs other) ∙ h))
]

zero-length : (x : ℕ) (xs : List ℕ) → IsTrue (length (x ∷ xs) == 0) → ⊥
zero-length x xs h = absurd (omega (arith, eqb-true _ _ h))

nil-cons : (x : ℕ) (xs : List ℕ) → x ∷ xs ≡ [] → ⊥
nil-cons x xs h = cc

pub at_end : (text : List ℕ) → IsTrue (length text == 0) ↔ (lines_of text ≡ [] ∷ [])
at_end [] = (λ _. refl, λ _. refl)
at_end (x ∷ xs) = (λ h. absurd (zero-length x xs h), λ h. absurd (nil-cons x xs (at-end (x ∷ xs) h)))

-- no line feed in a line
abbrev pub is_plain : List ℕ → Bool
is_plain line = list_all (λ byte. not (is_feed byte)) line

plain-all : (line : List ℕ) → is_plain line ≡ true → All (λ byte. is_feed byte ≡ false) line
plain-all [] h = All-nil (λ byte. is_feed byte ≡ false)
plain-all (byte ∷ line) h =
    let parts = and_parts (not (is_feed byte)) (is_plain line) h in
    All-cons (λ b. is_feed b ≡ false) byte line (not-true (is_feed byte) parts.0) (plain-all line parts.1)

pub plain-append : (a b : List ℕ) → is_plain a ≡ true → is_plain b ≡ true → is_plain (a ++ b) ≡ true
plain-append a b one two = list_all-append (λ byte. not (is_feed byte)) a b ∙ and_from _ _ one two

abbrev pub are_plain : List (List ℕ) → Bool
are_plain lines = list_all is_plain lines

-- the lines of the text of lines
pub lines-text : (lines : List (List ℕ)) → are_plain lines ≡ true → lines_of (text_of_lines lines) ≡ lines ++ [] ∷ []
lines-text [] h = refl
lines-text (line ∷ lines) h =
    let parts = and_parts (is_plain line) (are_plain lines) h in
    slice_split_at is_feed line 10 (text_of_lines lines) (plain-all line parts.0) refl ∙ ap (λ rest. line ∷ rest) (lines-text lines parts.1)

join-text : (lines : List (List ℕ)) → join_with_byte 10 (lines ++ [] ∷ []) ≡ text_of_lines lines
join-text [] = refl
join-text (line ∷ []) = refl
join-text (line ∷ next ∷ lines) = ap (λ rest. line ++ (10 ∷ rest)) (join-text (next ∷ lines))

pub text-lines : (bytes : List ℕ) (lines : List (List ℕ)) → lines_of bytes ≡ lines ++ [] ∷ [] → bytes ≡ text_of_lines lines
text-lines bytes lines same = sym (join_with_byte-slice_split 10 bytes) ∙ ap (join_with_byte 10) same ∙ join-text lines
