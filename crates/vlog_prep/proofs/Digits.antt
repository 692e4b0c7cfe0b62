-- That the front of digits that the code finds is the longest.
use Rattle.std.proofs.Common.{◌≡◌, ℕ, suc, ◌+◌, ◌<◌, ◌≤◌, ◌⊎◌, inl, inr, Bool, true, false, List, [], ◌∷◌, ◌++◌, length, take, cond, refl, arith, one-add}
use Rattle.std.specs.Prelude.{◌&&◌, ◌==◌, nat_lt}
use Rattle.std.proofs.lemmas.Bool.{and_parts, lt-ltb, ltb-true, false≢true}
use Rattle.vlog_tree.specs.Spelling.{is_digit, ends_in_digit, is_digits}
use Rattle.vlog_prep.specs.Lengths.{more_digits, digits_len}

pub take_one : (n b : ℕ) (bs : List ℕ) → take (1 + n) (b ∷ bs) ≡ b ∷ take n bs
take_one n b bs = rw one-add refl

pub more_digits-within : (base : ℕ) (bs : List ℕ) → more_digits base bs ≤ length bs
unfolding more_digits
more_digits-within base [] = omega arith
more_digits-within base (b ∷ bs) =
    elim (is_digit base b) as (λ t. cond t (1 + more_digits base bs) (cond ((b == 95) && nat_lt 0 (more_digits base bs)) (1 + more_digits base bs) 0) ≤ suc (length bs)) [
      | true ↦ omega (arith, more_digits-within base bs)
      | false ↦ elim ((b == 95) && nat_lt 0 (more_digits base bs)) as (λ t. cond t (1 + more_digits base bs) 0 ≤ suc (length bs)) [
        | true ↦ omega (arith, more_digits-within base bs)
        | false ↦ omega arith
      ]
    ]

pub digits_len-within : (base : ℕ) (bs : List ℕ) → digits_len base bs ≤ length bs
unfolding digits_len
digits_len-within base [] = omega arith
digits_len-within base (b ∷ bs) =
    elim (is_digit base b) as (λ t. cond t (1 + more_digits base bs) 0 ≤ suc (length bs)) [ true ↦ omega (arith, more_digits-within base bs) | false ↦ omega arith ]

-- What ends in a digit behind no digit isn't empty.
ends-behind_gap : (base : ℕ) (bs : List ℕ) → ends_in_digit base false bs ≡ true → 1 ≤ length bs
ends-behind_gap base [] h = elim (false≢true h) [ ]
ends-behind_gap base (b ∷ bs) h = omega arith

covers_by : (digit gap : Bool) (ends ends_gap : Bool) (n len : ℕ) → (ends ≡ true → len ≤ n) → (ends_gap ≡ true → len ≤ n) → (ends_gap ≡ true → 1 ≤ len)
    → cond digit ends (gap && ends_gap) ≡ true → suc len ≤ cond digit (1 + n) (cond (gap && nat_lt 0 n) (1 + n) 0)
covers_by true gap ends ends_gap n len here behind some h = omega (arith, here h)
covers_by false true ends ends_gap n len here behind some h = rw (lt-ltb 0 n (omega (arith, behind h, some h))) (omega (arith, behind h))
covers_by false false ends ends_gap n len here behind some h = elim (false≢true h) [ ]

-- Each front that ends in a digit is within the front that is found.
pub more_digits-covers : (base : ℕ) (ended : Bool) (bs more : List ℕ) → ends_in_digit base ended bs ≡ true → length bs ≤ more_digits base (bs ++ more)
unfolding more_digits
more_digits-covers base ended [] more h = omega arith
more_digits-covers base ended (b ∷ bs) more h =
    covers_by (is_digit base b) (b == 95) (ends_in_digit base true bs) (ends_in_digit base false bs) (more_digits base (bs ++ more)) (length bs)
    (λ e. more_digits-covers base true bs more e) (λ e. more_digits-covers base false bs more e) (λ e. ends-behind_gap base bs e) h

pub digits_len-covers : (base : ℕ) (bs more : List ℕ) → is_digits base bs ≡ true → length bs ≤ digits_len base (bs ++ more)
unfolding digits_len
digits_len-covers base [] more h = omega arith
digits_len-covers base (b ∷ bs) more h =
    let p = and_parts (is_digit base b) (ends_in_digit base true bs) h in
    rw p.0 (omega (arith, more_digits-covers base true bs more p.1))

ends_by : (base : ℕ) (ended : Bool) (b : ℕ) (bs : List ℕ) (digit gap : Bool) (n : ℕ) → is_digit base b ≡ digit → (b == 95) ≡ gap
    → ends_in_digit base true (take n bs) ≡ true → (0 < n → ends_in_digit base false (take n bs) ≡ true)
    → ((ended ≡ true) ⊎ (0 < cond digit (1 + n) (cond (gap && nat_lt 0 n) (1 + n) 0)))
    → ends_in_digit base ended (take (cond digit (1 + n) (cond (gap && nat_lt 0 n) (1 + n) 0)) (b ∷ bs)) ≡ true
ends_by base ended b bs true gap n is_it is_gap here behind h = rw (take_one n b bs, is_it) here
ends_by base ended b bs false false n is_it is_gap here behind h = elim h [ inl e ↦ e | inr e ↦ absurd (omega (arith, e)) ]
ends_by base ended b bs false true n is_it is_gap here behind h = ends_gap (nat_lt 0 n) refl
  where
    ends_gap : (t : Bool) → nat_lt 0 n ≡ t → ends_in_digit base ended (take (cond (nat_lt 0 n) (1 + n) 0) (b ∷ bs)) ≡ true
    ends_gap true e = rw (e, take_one n b bs, is_it, is_gap) (behind (ltb-true 0 n e))
    ends_gap false e = rw e (elim h [ inl f ↦ f | inr f ↦ (let g : 0 < 0 = rw e at f in absurd (omega (arith, g))) ])

-- The front that is found ends in a digit.
pub more_digits-ends : (base : ℕ) (ended : Bool) (bs : List ℕ) → ((ended ≡ true) ⊎ (0 < more_digits base bs)) → ends_in_digit base ended (take (more_digits base bs) bs) ≡ true
unfolding more_digits
more_digits-ends base ended [] h = elim h [ inl e ↦ e | inr e ↦ absurd (omega (arith, e)) ]
more_digits-ends base ended (b ∷ bs) h =
    ends_by base ended b bs (is_digit base b) (b == 95) (more_digits base bs) refl refl (more_digits-ends base true bs (inl refl)) (λ e. more_digits-ends base false bs (inr e)) h

pub digits_len-digits : (base : ℕ) (bs : List ℕ) → 0 < digits_len base bs → is_digits base (take (digits_len base bs) bs) ≡ true
unfolding digits_len
digits_len-digits base [] h = absurd (omega (arith, h))
digits_len-digits base (b ∷ bs) h = by_first (is_digit base b) refl h
  where
    by_first : (t : Bool) → is_digit base b ≡ t → 0 < cond t (1 + more_digits base bs) 0 → is_digits base (take (cond t (1 + more_digits base bs) 0) (b ∷ bs)) ≡ true
    by_first true e h = rw (take_one (more_digits base bs) b bs, e) (more_digits-ends base true bs (inl refl))
    by_first false e h = absurd (omega (arith, h))

-- Digits end where neither a digit nor `_` stands.
more_digits-stops : (base : ℕ) (ended : Bool) (bs : List ℕ) (b : ℕ) (more : List ℕ) → ends_in_digit base ended bs ≡ true → is_digit base b ≡ false → (b == 95) ≡ false
    → more_digits base (bs ++ b ∷ more) ≡ length bs
unfolding more_digits
more_digits-stops base ended [] b more h no_digit no_gap = rw (no_digit, no_gap) refl
more_digits-stops base ended (c ∷ bs) b more h no_digit no_gap =
    stops_by (is_digit base c) (c == 95) (ends_in_digit base true bs) (ends_in_digit base false bs) (more_digits base (bs ++ b ∷ more)) (length bs)
    (λ e. more_digits-stops base true bs b more e no_digit no_gap) (λ e. more_digits-stops base false bs b more e no_digit no_gap) (λ e. ends-behind_gap base bs e) h
  where
    stops_by : (digit gap : Bool) (ends ends_gap : Bool) (n len : ℕ) → (ends ≡ true → n ≡ len) → (ends_gap ≡ true → n ≡ len) → (ends_gap ≡ true → 1 ≤ len)
        → cond digit ends (gap && ends_gap) ≡ true → cond digit (1 + n) (cond (gap && nat_lt 0 n) (1 + n) 0) ≡ suc len
    stops_by true gap ends ends_gap n len here behind some h = omega (arith, here h)
    stops_by false true ends ends_gap n len here behind some h = rw (lt-ltb 0 n (omega (arith, behind h, some h))) (omega (arith, behind h))
    stops_by false false ends ends_gap n len here behind some h = elim (false≢true h) [ ]

pub digits_len-stops : (base : ℕ) (bs : List ℕ) (b : ℕ) (more : List ℕ) → is_digits base bs ≡ true → is_digit base b ≡ false → (b == 95) ≡ false → digits_len base (bs ++ b ∷ more) ≡ length bs
unfolding digits_len
digits_len-stops base [] b more h no_digit no_gap = elim (false≢true h) [ ]
digits_len-stops base (c ∷ bs) b more h no_digit no_gap =
    let p = and_parts (is_digit base c) (ends_in_digit base true bs) h in
    rw (p.0, more_digits-stops base true bs b more p.1 no_digit no_gap) (omega arith)
