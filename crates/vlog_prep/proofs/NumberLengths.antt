-- That the number that the code finds is the longest.
use Rattle.std.proofs.Common.{◌≡◌, ℕ, zero, suc, ◌+◌, ◌<◌, ◌≤◌, inl, inr, Bool, true, false, List, [], ◌∷◌, ◌++◌, length, take, drop, get_or, max, cond, refl, sym, ◌∙◌, ap, arith, add-zero, append_assoc, length-append}
use Rattle.std.specs.Prelude.{◌&&◌, ◌||◌, ◌==◌, nat_lt, not}
use Rattle.std.specs.List.{list_all, list_any, prefix_len}
use Rattle.std.proofs.Math.Seq.{take-append-add}
use Rattle.std.proofs.lemmas.List.{take-append-drop, drop-drop, take_at, drop_at, length-take-le, length-drop, get_or-drop}
use Rattle.std.proofs.lemmas.List.Sums.{prefix_len_stops}
use Rattle.std.proofs.lemmas.Bool.{and_parts, and_from, or_cases, cases_lt, lt-ltb, ltb-true, false≢true, eqb-true, not-false}
use Rattle.std.proofs.Math.Bool.{or-true}
use Rattle.vlog_tree.specs.Spelling.{is_nil, is_among, is_digit, ends_in_digit, is_digits, base_of, is_all_unknown, is_based, is_signed_based, is_in_size, size_of, after_size, is_some_digit, is_size, is_based_number, is_number}
use Rattle.vlog_prep.specs.Lengths.{digits_len, behind, unknown_len, based_len, signed_len, quote_len, number_len}
use Rattle.vlog_prep.proofs.Digits.{take_one, digits_len-within, digits_len-covers, digits_len-digits, digits_len-stops}

behind-some : (before len : ℕ) → 0 < len → behind before len ≡ before + len
behind-some before len h = rw (lt-ltb 0 len h) refl

-- A length behind something that isn't 0.
behind-positive : (before len : ℕ) → 0 < behind before len → (0 < len) × (behind before len ≡ before + len)
behind-positive before len h = by_test (nat_lt 0 len) refl
  where
    by_test : (t : Bool) → nat_lt 0 len ≡ t → (0 < len) × (behind before len ≡ before + len)
    by_test true e = (ltb-true 0 len e, rw e refl)
    by_test false e = let g : 0 < 0 = rw e at h in absurd (omega (arith, g))

-- The digits of a base, or of base ten the one digit `x`.
abbrev is_radix : ℕ → List ℕ → Bool
is_radix base w = is_digits base w || ((base == 10) && is_all_unknown w)

abbrev radix_len : ℕ → List ℕ → ℕ
radix_len base w = max (digits_len base w) (cond (base == 10) (unknown_len w) 0)

unknown_len-covers : (w more : List ℕ) → is_all_unknown w ≡ true → length w ≤ unknown_len (w ++ more)
unfolding unknown_len
unknown_len-covers [] more h = elim (false≢true h) [ ]
unknown_len-covers (b ∷ []) more h = rw h (omega arith)
unknown_len-covers (b ∷ c ∷ bs) more h = elim (false≢true h) [ ]

unknown_len-spelled : (text : List ℕ) → 0 < unknown_len text → (unknown_len text ≤ length text) × (is_all_unknown (take (unknown_len text) text) ≡ true)
unfolding unknown_len
unknown_len-spelled [] h = absurd (omega (arith, h))
unknown_len-spelled (b ∷ bs) h = by_test (is_among (120 ∷ 88 ∷ []) b) refl h
  where
    by_test : (t : Bool) → is_among (120 ∷ 88 ∷ []) b ≡ t → 0 < cond t 1 0 → (cond t 1 0 ≤ suc (length bs)) × (is_all_unknown (take (cond t 1 0) (b ∷ bs)) ≡ true)
    by_test true e g = (omega arith, e)
    by_test false e g = absurd (omega (arith, g))

radix-some : (base : ℕ) (w : List ℕ) → is_radix base w ≡ true → 0 < length w
radix-some base [] h =
    elim (or_cases (is_digits base []) ((base == 10) && is_all_unknown []) h) [
      | inl e ↦ elim (false≢true e) [ ]
      | inr e ↦ elim (false≢true (and_parts (base == 10) (is_all_unknown []) e).1) [ ]
    ]
radix-some base (b ∷ bs) h = omega arith

radix_len-covers : (base : ℕ) (w more : List ℕ) → is_radix base w ≡ true → length w ≤ radix_len base (w ++ more)
radix_len-covers base w more h =
    elim (or_cases (is_digits base w) ((base == 10) && is_all_unknown w) h) [
      | inl e ↦ omega (arith, digits_len-covers base w more e)
      | inr e ↦ (let p = and_parts (base == 10) (is_all_unknown w) e in rw p.0 (omega (arith, unknown_len-covers w more p.1)))
    ]

greater : (P : ℕ → Type 0) (a b : ℕ) → 0 < max a b → (0 < a → P a) → (0 < b → P b) → P (max a b)
greater P a b some first second =
    elim (cases_lt a b) [
      | inl e ↦ (let g : max a b ≡ b = omega arith in rw g (second (omega arith)))
      | inr e ↦ (let g : max a b ≡ a = omega arith in rw g (first (omega (arith, some))))
    ]

radix_len-spelled : (base : ℕ) (text : List ℕ) → 0 < radix_len base text → (radix_len base text ≤ length text) × (is_radix base (take (radix_len base text) text) ≡ true)
radix_len-spelled base text some =
    greater (λ n. (n ≤ length text) × (is_radix base (take n text) ≡ true)) (digits_len base text) (cond (base == 10) (unknown_len text) 0) some
    (λ h. (digits_len-within base text, rw (digits_len-digits base text h) refl))
    (by_test (base == 10) refl)
  where
    by_test : (t : Bool) → (base == 10) ≡ t → 0 < cond t (unknown_len text) 0
        → (cond t (unknown_len text) 0 ≤ length text) × (is_radix base (take (cond t (unknown_len text) 0) text) ≡ true)
    by_test true e h = let p = unknown_len-spelled text h in (p.0, rw (e, p.1, or-true) refl)
    by_test false e h = absurd (omega (arith, h))

-- The letter of a base and its digits.
based-some : (w : List ℕ) → is_based w ≡ true → 0 < length w
based-some [] h = elim (false≢true h) [ ]
based-some (b ∷ bs) h = omega arith

based_len-covers : (w more : List ℕ) → is_based w ≡ true → length w ≤ based_len (w ++ more)
unfolding based_len
based_len-covers [] more h = elim (false≢true h) [ ]
based_len-covers (letter ∷ digits) more h =
    let covers = radix_len-covers (base_of letter) digits more h in
    let some = radix-some (base_of letter) digits h in
    rw (behind-some 1 (radix_len (base_of letter) (digits ++ more)) (omega (arith, covers, some))) (omega (arith, covers))

based_len-spelled : (text : List ℕ) → 0 < based_len text → (based_len text ≤ length text) × (is_based (take (based_len text) text) ≡ true)
unfolding based_len
based_len-spelled [] h = absurd (omega (arith, h))
based_len-spelled (letter ∷ digits) h =
    let p = behind-positive 1 (radix_len (base_of letter) digits) h in
    let s = radix_len-spelled (base_of letter) digits p.0 in
    (rw p.1 (omega (arith, s.0)), rw (p.1, take_one (radix_len (base_of letter) digits) letter digits) s.1)

-- The same behind a sign.
is_sign : ℕ → Bool
is_sign b = is_among (115 ∷ 83 ∷ []) b

signed-some : (w : List ℕ) → is_signed_based w ≡ true → 0 < length w
signed-some [] h = elim (false≢true h) [ ]
signed-some (b ∷ bs) h = omega arith

signed_len-covers : (w more : List ℕ) → is_signed_based w ≡ true → length w ≤ signed_len (w ++ more)
unfolding signed_len
signed_len-covers [] more h = elim (false≢true h) [ ]
signed_len-covers (b ∷ bs) more h = by_test (is_among (115 ∷ 83 ∷ []) b) h
  where
    by_test : (t : Bool) → cond t (is_based bs) (is_based (b ∷ bs)) ≡ true → suc (length bs) ≤ cond t (behind 1 (based_len (bs ++ more))) (based_len (b ∷ (bs ++ more)))
    by_test true g =
        let covers = based_len-covers bs more g in
        rw (behind-some 1 (based_len (bs ++ more)) (omega (arith, covers, based-some bs g))) (omega (arith, covers))
    by_test false g = based_len-covers (b ∷ bs) more g

signed_len-spelled : (text : List ℕ) → 0 < signed_len text → (signed_len text ≤ length text) × (is_signed_based (take (signed_len text) text) ≡ true)
unfolding signed_len
signed_len-spelled [] h = absurd (omega (arith, h))
signed_len-spelled (b ∷ bs) h = by_test (is_among (115 ∷ 83 ∷ []) b) refl h
  where
    by_test : (t : Bool) → is_among (115 ∷ 83 ∷ []) b ≡ t → 0 < cond t (behind 1 (based_len bs)) (based_len (b ∷ bs))
        → (cond t (behind 1 (based_len bs)) (based_len (b ∷ bs)) ≤ suc (length bs)) × (is_signed_based (take (cond t (behind 1 (based_len bs)) (based_len (b ∷ bs))) (b ∷ bs)) ≡ true)
    by_test true e g =
        let p = behind-positive 1 (based_len bs) g in
        let s = based_len-spelled bs p.0 in
        (rw p.1 (omega (arith, s.0)), rw (p.1, take_one (based_len bs) b bs, e) s.1)
    by_test false e g =
        let s = based_len-spelled (b ∷ bs) g in
        (s.0, unsigned (based_len (b ∷ bs)) g s.1)
      where
        unsigned : (n : ℕ) → 0 < n → is_based (take n (b ∷ bs)) ≡ true → is_signed_based (take n (b ∷ bs)) ≡ true
        unsigned zero some spelled = absurd (omega (arith, some))
        unsigned (suc n) some spelled = rw e spelled

-- A `'` and what stands behind it.
IsQuoted : List ℕ → Type 0
IsQuoted [] = ⊥
IsQuoted (q ∷ bs) = (q ≡ 39) × (is_signed_based bs ≡ true)

quote_len-covers : (w more : List ℕ) → is_signed_based w ≡ true → suc (length w) ≤ quote_len (39 ∷ (w ++ more))
unfolding quote_len
quote_len-covers w more h =
    let covers = signed_len-covers w more h in
    rw (behind-some 1 (signed_len (w ++ more)) (omega (arith, covers, signed-some w h))) (omega (arith, covers))

quote_len-spelled : (text : List ℕ) → 0 < quote_len text → (quote_len text ≤ length text) × IsQuoted (take (quote_len text) text)
unfolding quote_len IsQuoted
quote_len-spelled [] h = absurd (omega (arith, h))
quote_len-spelled (b ∷ bs) h = by_test (b == 39) refl h
  where
    by_test : (t : Bool) → (b == 39) ≡ t → 0 < cond t (behind 1 (signed_len bs)) 0
        → (cond t (behind 1 (signed_len bs)) 0 ≤ suc (length bs)) × IsQuoted (take (cond t (behind 1 (signed_len bs)) 0) (b ∷ bs))
    by_test true e g =
        let p = behind-positive 1 (signed_len bs) g in
        let s = signed_len-spelled bs p.0 in
        (rw p.1 (omega (arith, s.0)), rw (p.1, take_one (signed_len bs) b bs) (eqb-true b 39 e, s.1))
    by_test false e g = absurd (omega (arith, g))

-- Sizes.
module _ (p : ℕ → Bool) where
  prefix_len-stops : (xs : List ℕ) (q : ℕ) (ys : List ℕ) → list_all p xs ≡ true → p q ≡ false → prefix_len p (xs ++ q ∷ ys) ≡ length xs
  prefix_len-stops [] q ys h ends = rw ends refl
  prefix_len-stops (x ∷ xs) q ys h ends =
      let parts = and_parts (p x) (list_all p xs) h in
      rw (parts.0, prefix_len-stops xs q ys parts.1 ends) (omega arith)

in_size-digit : (b : ℕ) → is_digit 10 b ≡ true → is_in_size b ≡ true
in_size-digit b h = by_test (b == 39) refl
  where
    by_test : (t : Bool) → (b == 39) ≡ t → not t ≡ true
    by_test false e = refl
    by_test true e = let at_quote : is_digit 10 39 ≡ true = rw (eqb-true b 39 e) at h in elim (false≢true at_quote) [ ]

in_size-gap : (b : ℕ) → (b == 95) ≡ true → is_in_size b ≡ true
in_size-gap b h = rw (eqb-true b 95 h) refl

in_size-by : (b : ℕ) (all : Bool) (ends ends_gap : Bool) (digit gap : Bool) → is_digit 10 b ≡ digit → (b == 95) ≡ gap → (ends ≡ true → all ≡ true) → (ends_gap ≡ true → all ≡ true)
    → cond digit ends (gap && ends_gap) ≡ true → (is_in_size b && all) ≡ true
in_size-by b all ends ends_gap true gap e f here behind g = and_from _ _ (in_size-digit b e) (here g)
in_size-by b all ends ends_gap false true e f here behind g = and_from _ _ (in_size-gap b f) (behind g)
in_size-by b all ends ends_gap false false e f here behind g = elim (false≢true g) [ ]

in_size-ends : (ended : Bool) (bs : List ℕ) → ends_in_digit 10 ended bs ≡ true → list_all is_in_size bs ≡ true
in_size-ends ended [] h = refl
in_size-ends ended (b ∷ bs) h =
    in_size-by b (list_all is_in_size bs) (ends_in_digit 10 true bs) (ends_in_digit 10 false bs) (is_digit 10 b) (b == 95) refl refl
    (λ e. in_size-ends true bs e) (λ e. in_size-ends false bs e) h

in_size-digits : (bs : List ℕ) → is_digits 10 bs ≡ true → list_all is_in_size bs ≡ true
in_size-digits [] h = refl
in_size-digits (b ∷ bs) h =
    let p = and_parts (is_digit 10 b) (ends_in_digit 10 true bs) h in
    and_from _ _ (in_size-digit b p.0) (in_size-ends true bs p.1)

-- A size that may be missing.
abbrev may_be_size : List ℕ → Bool
may_be_size size = is_nil size || is_size size

size-digits : (size : List ℕ) → is_size size ≡ true → is_digits 10 size ≡ true
size-digits size h = (and_parts (is_digits 10 size) (list_any is_some_digit size) h).0

size-in_size : (size : List ℕ) → may_be_size size ≡ true → list_all is_in_size size ≡ true
size-in_size [] h = refl
size-in_size (b ∷ bs) h = in_size-digits (b ∷ bs) (size-digits (b ∷ bs) h)

number-from : (size based : List ℕ) → may_be_size size ≡ true → IsQuoted based → is_based_number (size ++ based) ≡ true
unfolding IsQuoted
number-from size [] h b = absurd b
number-from size (q ∷ tail) h b =
    let len : prefix_len is_in_size (size ++ q ∷ tail) ≡ length size = rw b.0 (prefix_len-stops is_in_size size 39 tail (size-in_size size h) refl) in
    let behind_quote : drop (length size + 1) (size ++ q ∷ tail) ≡ tail = sym (drop-drop 1 (length size) (size ++ q ∷ tail)) ∙ ap (drop 1) (drop_at size (q ∷ tail) (length size) refl) in
    rw (len, take_at size (q ∷ tail) (length size) refl, behind_quote) (and_from _ _ h b.1)

take_split : (n k : ℕ) (text : List ℕ) → n ≤ length text → take (n + k) text ≡ take n text ++ take k (drop n text)
take_split n k text h = rw (length-take-le n text h, take-append-drop n text) at (take-append-add (take n text) (drop n text) k)

-- Whether a number of so many digits can be the size of one with a base.
abbrev sizes : ℕ → List ℕ → Bool
sizes n text = (n == 0) || list_any is_some_digit (take n text)

sizes-may : (n : ℕ) (text : List ℕ) → (0 < n → is_digits 10 (take n text) ≡ true) → sizes n text ≡ true → may_be_size (take n text) ≡ true
sizes-may zero text digits h = refl
sizes-may (suc n) text digits h = rw (digits (omega arith)) (rw (some h, or-true) refl)
  where
    some : (suc n == 0 || list_any is_some_digit (take (suc n) text)) ≡ true → list_any is_some_digit (take (suc n) text) ≡ true
    some g = elim (or_cases (suc n == 0) (list_any is_some_digit (take (suc n) text)) g) [
      | inl e ↦ absurd (omega (arith, eqb-true (suc n) 0 e))
      | inr e ↦ e
    ]

may-sizes : (size more : List ℕ) → may_be_size size ≡ true → sizes (length size) (size ++ more) ≡ true
may-sizes [] more h = refl
may-sizes (b ∷ bs) more h =
    let some : list_any is_some_digit (b ∷ bs) ≡ true = (and_parts (is_digits 10 (b ∷ bs)) (list_any is_some_digit (b ∷ bs)) h).1 in
    rw (take_at bs more (length bs) refl) (ap (λ t. (suc (length bs) == 0) || t) some ∙ or-true (suc (length bs) == 0))

pub number_len-spelled : (text : List ℕ) → 0 < number_len text → (number_len text ≤ length text) × (is_number (take (number_len text) text) ≡ true)
unfolding number_len
number_len-spelled text h =
    by_tests (nat_lt 0 (quote_len (drop (digits_len 10 text) text))) (sizes (digits_len 10 text) text) refl refl h
  where
    by_tests : (t u : Bool) → nat_lt 0 (quote_len (drop (digits_len 10 text) text)) ≡ t → sizes (digits_len 10 text) text ≡ u
        → 0 < cond (t && u) (digits_len 10 text + quote_len (drop (digits_len 10 text) text)) (digits_len 10 text)
        → (cond (t && u) (digits_len 10 text + quote_len (drop (digits_len 10 text) text)) (digits_len 10 text) ≤ length text)
        × (is_number (take (cond (t && u) (digits_len 10 text + quote_len (drop (digits_len 10 text) text)) (digits_len 10 text)) text) ≡ true)
    by_tests true true e f g =
        let q = quote_len-spelled (drop (digits_len 10 text) text) (ltb-true 0 (quote_len (drop (digits_len 10 text) text)) e) in (
          omega (arith, q.0, length-drop (digits_len 10 text) text, digits_len-within 10 text),
          rw (
            take_split (digits_len 10 text) (quote_len (drop (digits_len 10 text) text)) text (digits_len-within 10 text),
            number-from (take (digits_len 10 text) text) (take (quote_len (drop (digits_len 10 text) text)) (drop (digits_len 10 text) text)) (sizes-may (digits_len 10 text) text (λ h. digits_len-digits 10 text h) f) q.1,
            or-true,
          ) refl,
        )
    by_tests true false e f g = (digits_len-within 10 text, rw (digits_len-digits 10 text g) refl)
    by_tests false u e f g = (digits_len-within 10 text, rw (digits_len-digits 10 text g) refl)

number_len-digits : (text : List ℕ) → digits_len 10 text ≤ number_len text
unfolding number_len
number_len-digits text =
    by_test (nat_lt 0 (quote_len (drop (digits_len 10 text) text)) && sizes (digits_len 10 text) text)
  where
    by_test : (t : Bool) → digits_len 10 text ≤ cond t (digits_len 10 text + quote_len (drop (digits_len 10 text) text)) (digits_len 10 text)
    by_test true = omega arith
    by_test false = omega arith

size_len-stops : (size more : List ℕ) → may_be_size size ≡ true → digits_len 10 (size ++ 39 ∷ more) ≡ length size
unfolding digits_len
size_len-stops [] more h = refl
size_len-stops (b ∷ bs) more h = digits_len-stops 10 (b ∷ bs) 39 more (size-digits (b ∷ bs) h) refl refl

number_len-at : (size more : List ℕ) → may_be_size size ≡ true → 0 < quote_len (39 ∷ more) → number_len (size ++ 39 ∷ more) ≡ length size + quote_len (39 ∷ more)
unfolding number_len
number_len-at size more h some =
    rw (size_len-stops size more h, drop_at size (39 ∷ more) (length size) refl, lt-ltb 0 (quote_len (39 ∷ more)) some, may-sizes size (39 ∷ more) h) refl

number_len-by_parts : (size rest more : List ℕ) → may_be_size size ≡ true → (0 < length rest → is_in_size (get_or rest 0 0) ≡ false)
    → is_signed_based (drop 1 rest) ≡ true → length (size ++ rest) ≤ number_len ((size ++ rest) ++ more)
number_len-by_parts size [] more h stops based = elim (false≢true based) [ ]
number_len-by_parts size (q ∷ tail) more h stops based =
    let at_quote : q ≡ 39 = eqb-true q 39 (not-false (q == 39) (stops (omega arith))) in
    let covers = quote_len-covers tail more based in
    let whole : number_len ((size ++ 39 ∷ tail) ++ more) ≡ length size + quote_len (39 ∷ (tail ++ more)) =
    rw (append_assoc size (39 ∷ tail) more) (number_len-at size (tail ++ more) h (omega (arith, covers))) in
    rw (at_quote, whole, length-append size (39 ∷ tail)) (omega (arith, covers))

based_number-covers : (text more : List ℕ) → is_based_number text ≡ true → length text ≤ number_len (text ++ more)
based_number-covers text more h =
    let n : ℕ = prefix_len is_in_size text in
    let parts = and_parts (is_nil (size_of text) || is_size (size_of text)) (is_signed_based (after_size text)) h in
    let behind_quote : drop (n + 1) text ≡ drop 1 (drop n text) = sym (drop-drop 1 n text) in
    rw (take-append-drop n text) at (number_len-by_parts (take n text) (drop n text) more parts.0
    (λ some. rw (get_or-drop n text 0 0, add-zero) (prefix_len_stops is_in_size text 0 (omega (arith, some, length-drop n text))))
    (rw behind_quote at parts.1))

pub number_len-covers : (text more : List ℕ) → is_number text ≡ true → length text ≤ number_len (text ++ more)
number_len-covers text more h =
    elim (or_cases (is_digits 10 text) (is_based_number text) h) [
      | inl e ↦ omega (arith, digits_len-covers 10 text more e, number_len-digits (text ++ more))
      | inr e ↦ based_number-covers text more e
    ]
