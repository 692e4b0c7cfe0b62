-- What shifts, masks and tests on numbers do to the bits that they stand for.
use Rattle.std.proofs.Common.{◌≡◌, ℕ, zero, suc, ◌+◌, ◌-◌, ◌*◌, ◌/◌, ◌%◌, ◌^◌, ◌<◌, ◌≤◌, inl, inr, Bool, true, false, not, cond, ◌||◌, ◌&&◌, refl, arith, ap, subst, ◌∙◌, sym, eqb, leb, ltb, add-zero}
use Rattle.std.specs.Int.{bit_at}
use Rattle.std.specs.Int.Bits.{bit_and}
use Rattle.std.specs.Int.RustNames.{bit_or, bit_xor}
use Rattle.std.proofs.Math.Nat.{mod-eq_of_lt}
use Rattle.std.proofs.Math.Pow.{pow_mono}
use Rattle.std.proofs.lemmas.Nat.{shr-shr, and_le_r, pow-add, pow_pos}
use Rattle.std.proofs.lemmas.Nat.Bits.{bit_at-zero, bit_at_above, bit_at_cat_low, bit_at_cat_high}
use Rattle.std.proofs.lemmas.Bool.Decides.{leb_tells, nat_tests}
use Rattle.field_policies.specs.Bits.{bit, any_below, all_below, AreBitsOf}
use Rattle.reg_machine.specs.Bytes.{in_byte}
use Rattle.field_policies.proofs.BitLemmas.{bit_of_and, bit_of_zero, bit_of_ones, own_bits, same_bits, no_bits, full_bits, and_bits, or_bits, inverse_bits, one_number}

-- ---- shifts

pub bit_of_shifted : (n low i : ℕ) → bit (n / 2 ^ low) i ≡ bit n (low + i)
unfolding bit
bit_of_shifted n low i = ap (λ m. eqb (m % 2) 1) (shr-shr n low i)

and_true : (b : Bool) → (b && true) ≡ b
and_true false = refl
and_true true = refl

pub cut_bits : (w n low : ℕ) → AreBitsOf w (λ i. bit n (low + i)) (bit_and (n / 2 ^ low) (2 ^ w - 1))
cut_bits w n low = record {
  below = let p : 0 < 2 ^ w = pow_pos w in omega (arith, and_le_r (n / 2 ^ low) (2 ^ w - 1));
  each = λ i h. bit_of_and _ _ i ∙ ap (λ b. bit (n / 2 ^ low) i && b) (bit_of_ones w i h) ∙ and_true _ ∙ bit_of_shifted n low i;
}

bit_below_place : (n k i : ℕ) → i < k → bit (n * 2 ^ k) i ≡ false
unfolding bit
bit_below_place n k i h = ap (λ m. eqb (bit_at m i) 1) (sym (add-zero (n * 2 ^ k))) ∙ ap (λ m. eqb m 1) (bit_at_cat_low n k 0 i h ∙ bit_at-zero i)

bit_above_place : (n k i : ℕ) → k ≤ i → bit (n * 2 ^ k) i ≡ bit n (i - k)
unfolding bit
bit_above_place n k i h = ap (λ m. eqb (bit_at m i) 1) (sym (add-zero (n * 2 ^ k))) ∙ ap (λ m. eqb m 1) (bit_at_cat_high n k 0 i (pow_pos k) h)

pub bit_above : (n w i : ℕ) → n < 2 ^ w → w ≤ i → bit n i ≡ false
unfolding bit
bit_above n w i h p = ap (λ m. eqb m 1) (bit_at_above n w i h p)

place_fits : (v low w word : ℕ) → v < 2 ^ w → low + w ≤ word → v * 2 ^ low < 2 ^ word
place_fits v low w word h p =
    let below : v * 2 ^ low < 2 ^ w * 2 ^ low = mul_lt_right v (2 ^ w) (2 ^ low) (pow_pos low) h in
    let whole : 2 ^ (w + low) ≡ 2 ^ w * 2 ^ low = pow-add 2 w low in
    let larger : 2 ^ (w + low) ≤ 2 ^ word = pow_mono (omega arith) in omega arith
  where
    mul_lt_right : (a b k : ℕ) → 0 < k → a < b → a * k < b * k
    mul_lt_right a b k p q = grind arith

placed_bit : (v low w i : ℕ) → v < 2 ^ w → bit (v * 2 ^ low) i ≡ (leb low i && ltb i (low + w) && bit v (i - low))
placed_bit v low w i h = elim (leb_tells low i) [
  | inl t ↦ rw t.0 (elim (leb_tells (suc i) (low + w)) [
    | inl u ↦ rw u.0 (bit_above_place v low i t.1)
    | inr u ↦ rw u.0 (bit_above_place v low i t.1 ∙ bit_above v w (i - low) h (omega (arith, u.1, t.1)))
  ])
  | inr t ↦ rw t.0 (bit_below_place v low i t.1)
]

pub placed_bits : (v low w word : ℕ) → v < 2 ^ w → low + w ≤ word → word ≤ 32 → AreBitsOf word (λ i. leb low i && ltb i (low + w) && bit v (i - low)) ((v * 2 ^ low) % 2 ^ 32)
placed_bits v low w word h p q =
    let fits : v * 2 ^ low < 2 ^ word = place_fits v low w word h p in
    let wide : 2 ^ word ≤ 2 ^ 32 = pow_mono q in
    let same : (v * 2 ^ low) % 2 ^ 32 ≡ v * 2 ^ low = mod-eq_of_lt (omega arith) in
    subst (AreBitsOf word _) (sym same) (record { below = fits; each = λ i r. placed_bit v low w i h })

-- ---- a choice at each bit

chosen : (m y n : Bool) → ((y && m) || (n && not m)) ≡ cond m y n
chosen true true n = refl
chosen true false true = refl
chosen true false false = refl
chosen false true true = refl
chosen false true false = refl
chosen false false true = refl
chosen false false false = refl

pub mixed_bits : (w m y n : ℕ) → m < 2 ^ w → y < 2 ^ w → n < 2 ^ w
    → AreBitsOf w (λ i. cond (bit m i) (bit y i) (bit n i)) (bit_or (bit_and y m) (bit_and n (bit_xor m (2 ^ w - 1))))
mixed_bits w m y n p q r = same_bits w _ _ _ (λ i h. chosen (bit m i) (bit y i) (bit n i))
    (or_bits w _ _ _ _ (and_bits w _ _ _ _ (own_bits w y q) (own_bits w m p)) (and_bits w _ _ _ _ (own_bits w n r) (inverse_bits w m _ (own_bits w m p))))

-- ---- the tests of all bits

pub all_true : (w : ℕ) (f : ℕ → Bool) → all_below w f ≡ true → (i : ℕ) → i < w → f i ≡ true
all_true zero f h i p = absurd (omega arith)
all_true (suc w) f h i p = elim (leb_tells (suc i) w) [
  | inl t ↦ all_true w f (and_l _ _ h) i t.1
  | inr t ↦ let e : i ≡ w = omega (arith, t.1, p) in ap f e ∙ and_r _ _ h
]
  where
    and_l : (a b : Bool) → (a && b) ≡ true → a ≡ true
    and_l true b h = refl
    and_l false b h = h

    and_r : (a b : Bool) → (a && b) ≡ true → b ≡ true
    and_r true b h = h
    and_r false true h = refl
    and_r false false h = h

pub all_from : (w : ℕ) (f : ℕ → Bool) → ((i : ℕ) → i < w → f i ≡ true) → all_below w f ≡ true
all_from zero f h = refl
all_from (suc w) f h = ap (λ b. b && f w) (all_from w f (λ i p. h i (omega arith))) ∙ h w (omega arith)

pub any_false : (w : ℕ) (f : ℕ → Bool) → any_below w f ≡ false → (i : ℕ) → i < w → f i ≡ false
any_false zero f h i p = absurd (omega arith)
any_false (suc w) f h i p = elim (leb_tells (suc i) w) [
  | inl t ↦ any_false w f (or_l _ _ h) i t.1
  | inr t ↦ let e : i ≡ w = omega (arith, t.1, p) in ap f e ∙ or_r _ _ h
]
  where
    or_l : (a b : Bool) → (a || b) ≡ false → a ≡ false
    or_l false b h = refl
    or_l true b h = h

    or_r : (a b : Bool) → (a || b) ≡ false → b ≡ false
    or_r false b h = h
    or_r true false h = refl
    or_r true true h = h

pub any_from : (w : ℕ) (f : ℕ → Bool) → ((i : ℕ) → i < w → f i ≡ false) → any_below w f ≡ false
any_from zero f h = refl
any_from (suc w) f h = ap (λ b. b || f w) (any_from w f (λ i p. h i (omega arith))) ∙ h w (omega arith)

-- equal bits give equal tests
pub any_same : (w : ℕ) (f g : ℕ → Bool) → ((i : ℕ) → i < w → f i ≡ g i) → any_below w f ≡ any_below w g
any_same zero f g h = refl
any_same (suc w) f g h = ap (λ b. b || f w) (any_same w f g (λ i p. h i (omega arith))) ∙ ap (λ b. any_below w g || b) (h w (omega arith))

pub all_same : (w : ℕ) (f g : ℕ → Bool) → ((i : ℕ) → i < w → f i ≡ g i) → all_below w f ≡ all_below w g
all_same zero f g h = refl
all_same (suc w) f g h = ap (λ b. b && f w) (all_same w f g (λ i p. h i (omega arith))) ∙ ap (λ b. all_below w g && b) (h w (omega arith))

-- a number is full where all its bits are 1, and 0 where none is
full_if : (w n : ℕ) (b : Bool) → n < 2 ^ w → all_below w (bit n) ≡ b → eqb n (2 ^ w - 1) ≡ b
full_if w n true h e = let same : n ≡ 2 ^ w - 1 = one_number w n _ _ (record { below = h; each = all_true w (bit n) e }) (full_bits w) in grind (arith, nat_tests)
full_if w n false h e = let unlike : n ≡ 2 ^ w - 1 → true ≡ false = λ s. sym (all_from w (bit n) (λ i p. ap (λ m. bit m i) s ∙ bit_of_ones w i p)) ∙ e in grind (arith, nat_tests)

pub full_where : (w n : ℕ) → n < 2 ^ w → eqb n (2 ^ w - 1) ≡ all_below w (bit n)
full_where w n h = full_if w n _ h refl

none_if : (w n : ℕ) (b : Bool) → n < 2 ^ w → any_below w (bit n) ≡ b → eqb n 0 ≡ not b
none_if w n false h e = let same : n ≡ 0 = one_number w n _ _ (record { below = h; each = any_false w (bit n) e }) (no_bits w) in grind (arith, nat_tests)
none_if w n true h e = let unlike : n ≡ 0 → true ≡ false = λ s. sym e ∙ any_from w (bit n) (λ i p. ap (λ m. bit m i) s ∙ bit_of_zero i) in grind (arith, nat_tests)

pub none_where : (w n : ℕ) → n < 2 ^ w → eqb n 0 ≡ not (any_below w (bit n))
none_where w n h = none_if w n _ h refl

-- ---- bytes

in_byte_here : (strobe k j : ℕ) → 8 * k ≤ j → j < 8 * k + 8 → in_byte strobe k j ≡ bit strobe k
unfolding in_byte
in_byte_here s k j p q = let a : leb (8 * k) j ≡ true = grind (arith, nat_tests) in let b : ltb j (8 * k + 8) ≡ true = grind (arith, nat_tests) in rw (a, b) (and_true (bit s k))

and_false : (b : Bool) → (b && false) ≡ false
and_false true = refl
and_false false = refl

in_byte_below : (strobe k j : ℕ) → j < 8 * k → in_byte strobe k j ≡ false
unfolding in_byte
in_byte_below s k j p = let a : leb (8 * k) j ≡ false = grind (arith, nat_tests) in rw a (and_false (bit s k))

in_byte_above : (strobe k j : ℕ) → 8 * k + 8 ≤ j → in_byte strobe k j ≡ false
unfolding in_byte
in_byte_above s k j p = let b : ltb j (8 * k + 8) ≡ false = grind (arith, nat_tests) in rw b (ap (λ x. bit s k && x) (and_false _) ∙ and_false (bit s k))

or_false : (b : Bool) → (b || false) ≡ b
or_false true = refl
or_false false = refl

pub bytes_bit : (s j : ℕ) → j < 32 → (((in_byte s 0 j || in_byte s 1 j) || in_byte s 2 j) || in_byte s 3 j) ≡ bit s (j / 8)
bytes_bit s j h = elim (leb_tells 8 j) [
  | inr t ↦ let q : j / 8 ≡ 0 = omega (arith, t.1) in rw (in_byte_here s 0 j (omega arith) (omega (arith, t.1)), in_byte_below s 1 j (omega (arith, t.1)), in_byte_below s 2 j (omega (arith, t.1)), in_byte_below s 3 j (omega (arith, t.1)), q, or_false, or_false, or_false) refl
  | inl t ↦ elim (leb_tells 16 j) [
    | inr u ↦ let q : j / 8 ≡ 1 = omega (arith, t.1, u.1) in rw (in_byte_above s 0 j (omega (arith, t.1)), in_byte_here s 1 j (omega (arith, t.1)) (omega (arith, u.1)), in_byte_below s 2 j (omega (arith, u.1)), in_byte_below s 3 j (omega (arith, u.1)), q, or_false, or_false) refl
    | inl u ↦ elim (leb_tells 24 j) [
      | inr v ↦ let q : j / 8 ≡ 2 = omega (arith, u.1, v.1) in rw (in_byte_above s 0 j (omega (arith, t.1)), in_byte_above s 1 j (omega (arith, u.1)), in_byte_here s 2 j (omega (arith, u.1)) (omega (arith, v.1)), in_byte_below s 3 j (omega (arith, v.1)), q, or_false) refl
      | inl v ↦ let q : j / 8 ≡ 3 = omega (arith, v.1, h) in rw (in_byte_above s 0 j (omega (arith, t.1)), in_byte_above s 1 j (omega (arith, u.1)), in_byte_above s 2 j (omega (arith, v.1)), in_byte_here s 3 j (omega (arith, v.1)) (omega (arith, h)), q) refl
    ]
  ]
]

pub byte_bits : (s k n : ℕ) → k < 4 → bit s k ≡ true → AreBitsOf 32 (λ j. leb (8 * k) j && ltb j (8 * k + 8) && bit 255 (j - 8 * k)) n → AreBitsOf 32 (in_byte s k) n
unfolding in_byte
byte_bits s k n p e h = same_bits 32 n _ _ (λ j r. full j ∙ sym (ap (λ b. b && (leb (8 * k) j && ltb j (8 * k + 8))) e)) h
  where
    full : (j : ℕ) → (leb (8 * k) j && ltb j (8 * k + 8) && bit 255 (j - 8 * k)) ≡ (true && (leb (8 * k) j && ltb j (8 * k + 8)))
    full j = elim (leb_tells (8 * k) j) [
      | inr t ↦ rw t.0 refl
      | inl t ↦ elim (leb_tells (suc j) (8 * k + 8)) [ inr u ↦ rw (t.0, u.0) refl | inl u ↦ rw (t.0, u.0) (bit_of_ones 8 (j - 8 * k) (omega (arith, t.1, u.1))) ]
    ]

pub byte_none : (s k : ℕ) → bit s k ≡ false → AreBitsOf 32 (in_byte s k) 0
unfolding in_byte
byte_none s k e = same_bits 32 0 _ _ (λ j r. sym (ap (λ b. b && (leb (8 * k) j && ltb j (8 * k + 8))) e)) (no_bits 32)

-- a choice by other words for the mask and the two sides
pub mixed_as : (w r m y n : ℕ) (f g h : ℕ → Bool) → AreBitsOf w f m → AreBitsOf w g y → AreBitsOf w h n → AreBitsOf w (λ i. cond (bit m i) (bit y i) (bit n i)) r → AreBitsOf w (λ i. cond (f i) (g i) (h i)) r
mixed_as w r m y n f g h p q s t = record {
  below = t.below;
  each = λ i lt. t.each i lt ∙ ap (λ b. cond b (bit y i) (bit n i)) (p.each i lt) ∙ ap (λ b. cond (f i) b (bit n i)) (q.each i lt) ∙ ap (λ b. cond (f i) (g i) b) (s.each i lt);
}

pub overridden_as : (clear set b clear' set' b' : Bool) → clear ≡ clear' → set ≡ set' → b ≡ b' → cond clear false (cond set true b) ≡ cond clear' false (cond set' true b')
overridden_as clear set b clear' set' b' p q r = ap (λ x. cond x false (cond set true b)) p ∙ ap (λ x. cond clear' false (cond x true b)) q ∙ ap (λ x. cond clear' false (cond set' true x)) r

-- which of three a choice gives
pub first_side : (a x y : Bool) → a ≡ true → x ≡ cond a x y
first_side a x y p = rw p refl

pub second_side : (a b x y z : Bool) → a ≡ false → b ≡ true → y ≡ cond a x (cond b y z)
second_side a b x y z p q = rw (p, q) refl

pub no_side : (a b x y z : Bool) → a ≡ false → b ≡ false → z ≡ cond a x (cond b y z)
no_side a b x y z p q = rw (p, q) refl

pub span_bit : (low w n j : ℕ) → n ≡ 2 ^ w - 1 → (leb low j && ltb j (low + w) && bit n (j - low)) ≡ (leb low j && ltb j (low + w))
span_bit low w n j e = elim (leb_tells low j) [
  | inr t ↦ rw t.0 refl
  | inl t ↦ elim (leb_tells (suc j) (low + w)) [ inr u ↦ rw (t.0, u.0) refl | inl u ↦ rw (t.0, u.0, e) (bit_of_ones w (j - low) (omega (arith, t.1, u.1))) ]
]

-- what is shown at a bit, where all that doesn't hang on the bit is joined
pub joined_true : (r d k h b : Bool) → (r && d && k) ≡ true → (h && b) ≡ (r && d && h && k && b)
joined_true true true true true b p = refl
joined_true true true true false b p = refl
joined_true true true false h b p = cc
joined_true true false k h b p = cc
joined_true false d k h b p = cc

pub joined_false : (r d k h b : Bool) → (r && d && k) ≡ false → false ≡ (r && d && h && k && b)
joined_false true true true h b p = cc
joined_false true true false true b p = refl
joined_false true true false false b p = refl
joined_false true false k h b p = refl
joined_false false d k h b p = refl
