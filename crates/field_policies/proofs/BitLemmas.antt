-- What the operators on numbers do to each bit, and so to the bits of a field.
use Rattle.std.proofs.Common.{◌≡◌, ℕ, ◌+◌, ◌-◌, ◌%◌, ◌^◌, ◌<◌, Bool, true, false, not, cond, ◌||◌, ◌&&◌, refl, arith, ap, ◌∙◌, sym, eqb, min, max}
use Rattle.std.specs.Int.Bits.{bit_and, and_lt}
use Rattle.std.specs.Int.RustNames.{bit_or, bit_xor}
use Rattle.std.proofs.lemmas.Nat.{or_lt, xor_lt, pow_pos}
use Rattle.std.proofs.lemmas.Nat.Bits.{bit_at_and, bit_at_or, bit_at_xor, bit_at-lt, bit_at_ones, bit_at-zero, same_from_bits_below}
use Rattle.std.proofs.lemmas.Bool.Decides.{nat_tests}
use Rattle.field_policies.specs.Bits.{bit, AreBitsOf}
use Rattle.bit_base.specs.Operators.{differ}

-- a number below 2 by its test
digit : (m : ℕ) → m < 2 → m ≡ cond (eqb m 1) 1 0
digit m p = grind (arith, nat_tests)

min_digits : (b c : Bool) → eqb (min (cond b 1 0) (cond c 1 0)) 1 ≡ (b && c)
min_digits false false = refl
min_digits false true = refl
min_digits true false = refl
min_digits true true = refl

max_digits : (b c : Bool) → eqb (max (cond b 1 0) (cond c 1 0)) 1 ≡ (b || c)
max_digits false false = refl
max_digits false true = refl
max_digits true false = refl
max_digits true true = refl

sum_digits : (b c : Bool) → eqb ((cond b 1 0 + cond c 1 0) % 2) 1 ≡ differ b c
sum_digits false false = refl
sum_digits false true = refl
sum_digits true false = refl
sum_digits true true = refl

by_digits : (f : ℕ → ℕ → ℕ) (g : Bool → Bool → Bool) → ((b c : Bool) → eqb (f (cond b 1 0) (cond c 1 0)) 1 ≡ g b c)
    → (m n : ℕ) → m < 2 → n < 2 → eqb (f m n) 1 ≡ g (eqb m 1) (eqb n 1)
by_digits f g h m n p q = ap (λ x. eqb (f x n) 1) (digit m p) ∙ ap (λ y. eqb (f (cond (eqb m 1) 1 0) y) 1) (digit n q) ∙ h (eqb m 1) (eqb n 1)

pub bit_of_and : (a b i : ℕ) → bit (bit_and a b) i ≡ (bit a i && bit b i)
unfolding bit
bit_of_and a b i = ap (λ n. eqb n 1) (bit_at_and a b i) ∙ by_digits min (λ x y. x && y) min_digits _ _ (bit_at-lt a i) (bit_at-lt b i)

pub bit_of_or : (a b i : ℕ) → bit (bit_or a b) i ≡ (bit a i || bit b i)
unfolding bit
bit_of_or a b i = ap (λ n. eqb n 1) (bit_at_or a b i) ∙ by_digits max (λ x y. x || y) max_digits _ _ (bit_at-lt a i) (bit_at-lt b i)

pub bit_of_xor : (a b i : ℕ) → bit (bit_xor a b) i ≡ differ (bit a i) (bit b i)
unfolding bit
bit_of_xor a b i = ap (λ n. eqb n 1) (bit_at_xor a b i) ∙ by_digits (λ m n. (m + n) % 2) differ sum_digits _ _ (bit_at-lt a i) (bit_at-lt b i)

pub bit_of_zero : (i : ℕ) → bit 0 i ≡ false
unfolding bit
bit_of_zero i = ap (λ n. eqb n 1) (bit_at-zero i)

pub bit_of_ones : (w i : ℕ) → i < w → bit (2 ^ w - 1) i ≡ true
unfolding bit
bit_of_ones w i h = ap (λ n. eqb n 1) (bit_at_ones w i h)

-- a number below the power is that of its own bits
pub own_bits : (w n : ℕ) → n < 2 ^ w → AreBitsOf w (bit n) n
own_bits w n h = record { below = h; each = λ i p. refl }

-- other words for the same bits
pub same_bits : (w n : ℕ) (f g : ℕ → Bool) → ((i : ℕ) → i < w → f i ≡ g i) → AreBitsOf w f n → AreBitsOf w g n
same_bits w n f g e h = record { below = h.below; each = λ i p. h.each i p ∙ e i p }

pub no_bits : (w : ℕ) → AreBitsOf w (λ i. false) 0
no_bits w = record { below = pow_pos w; each = λ i p. bit_of_zero i }

pub full_bits : (w : ℕ) → AreBitsOf w (λ i. true) (2 ^ w - 1)
full_bits w = record { below = let p : 0 < 2 ^ w = pow_pos w in omega arith; each = λ i p. bit_of_ones w i p }

pub and_bits : (w a b : ℕ) (f g : ℕ → Bool) → AreBitsOf w f a → AreBitsOf w g b → AreBitsOf w (λ i. f i && g i) (bit_and a b)
and_bits w a b f g p q = record {
  below = and_lt w a b p.below q.below;
  each = λ i h. bit_of_and a b i ∙ ap (λ x. x && bit b i) (p.each i h) ∙ ap (λ y. f i && y) (q.each i h);
}

pub or_bits : (w a b : ℕ) (f g : ℕ → Bool) → AreBitsOf w f a → AreBitsOf w g b → AreBitsOf w (λ i. f i || g i) (bit_or a b)
or_bits w a b f g p q = record {
  below = or_lt w a b p.below q.below;
  each = λ i h. bit_of_or a b i ∙ ap (λ x. x || bit b i) (p.each i h) ∙ ap (λ y. f i || y) (q.each i h);
}

pub xor_bits : (w a b : ℕ) (f g : ℕ → Bool) → AreBitsOf w f a → AreBitsOf w g b → AreBitsOf w (λ i. differ (f i) (g i)) (bit_xor a b)
xor_bits w a b f g p q = record {
  below = xor_lt w a b p.below q.below;
  each = λ i h. bit_of_xor a b i ∙ ap (λ x. differ x (bit b i)) (p.each i h) ∙ ap (λ y. differ (f i) y) (q.each i h);
}

differ_true : (b : Bool) → differ b true ≡ not b
differ_true false = refl
differ_true true = refl

-- to invert each bit
pub inverse_bits : (w a : ℕ) (f : ℕ → Bool) → AreBitsOf w f a → AreBitsOf w (λ i. not (f i)) (bit_xor a (2 ^ w - 1))
inverse_bits w a f p = same_bits w _ (λ i. differ (f i) true) (λ i. not (f i)) (λ i h. differ_true (f i)) (xor_bits w a _ f (λ i. true) p (full_bits w))

-- there is one number of these bits
pub one_number : (w a b : ℕ) (f : ℕ → Bool) → AreBitsOf w f a → AreBitsOf w f b → a ≡ b
unfolding bit
one_number w a b f p q = same_from_bits_below w a b p.below q.below (λ i h. digit_is _ _ (bit_at-lt a i) (bit_at-lt b i) (p.each i h ∙ sym (q.each i h)))
  where
    digit_is : (m n : ℕ) → m < 2 → n < 2 → eqb m 1 ≡ eqb n 1 → m ≡ n
    digit_is m n p q e = digit m p ∙ ap (λ b. cond b 1 0) e ∙ sym (digit n q)
