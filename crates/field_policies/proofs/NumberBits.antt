-- The bits of the number of a list of bits, and the reductions of a list's places.
use Rattle.std.proofs.Common.{◌≡◌, ℕ, zero, suc, ◌+◌, ◌*◌, ◌/◌, ◌%◌, Bool, true, false, cond, ◌||◌, ◌&&◌, eqb, List, [], ◌∷◌, length, get_or, refl, arith, ap, ◌∙◌}
use Rattle.std.specs.Int.{bit_at}
use Rattle.std.proofs.lemmas.Nat.Bits.{bit_at-suc, bit_at_lowest, bit_at-zero}
use Rattle.std.proofs.lemmas.Bool.Decides.{nat_tests}
use Rattle.bit_base.specs.Numbers.{number_of}
use Rattle.bit_base.specs.Operators.{differ, is_any, are_all, is_odd, count_of_true}
use Rattle.field_policies.specs.Bits.{bit, any_below, all_below, odd_below}

-- a number's bits are the places that it stands for
first_place : (b : Bool) (n : ℕ) → eqb (bit_at (cond b 1 0 + 2 * n) 0) 1 ≡ b
first_place true n = ap (λ x. eqb x 1) (bit_at_lowest (1 + 2 * n) ∙ odd)
  where
    odd : (1 + 2 * n) % 2 ≡ 1
    odd = omega arith
first_place false n = ap (λ x. eqb x 1) (bit_at_lowest (0 + 2 * n) ∙ even)
  where
    even : (0 + 2 * n) % 2 ≡ 0
    even = omega arith

half : (b : Bool) (n : ℕ) → (cond b 1 0 + 2 * n) / 2 ≡ n
half true n = omega arith
half false n = omega arith

pub bit_of_number : (bits : List Bool) (i : ℕ) → bit (number_of bits) i ≡ get_or bits i false
unfolding bit
bit_of_number [] i = ap (λ x. eqb x 1) (bit_at-zero i)
bit_of_number (b ∷ bits) zero = first_place b (number_of bits)
bit_of_number (b ∷ bits) (suc i) =
    ap (λ x. eqb x 1) (bit_at-suc (cond b 1 0 + 2 * number_of bits) i) ∙ ap (λ n. eqb (bit_at n i) 1) (half b (number_of bits)) ∙ bit_of_number bits i

-- a reduction of the first places begins with place 0
any_front : (n : ℕ) (bits : ℕ → Bool) → any_below (suc n) bits ≡ (bits 0 || any_below n (λ i. bits (suc i)))
any_front zero bits = or_false (bits 0)
  where
    or_false : (b : Bool) → (false || b) ≡ (b || false)
    or_false true = refl
    or_false false = refl
any_front (suc n) bits = ap (λ b. b || bits (suc n)) (any_front n bits) ∙ or_assoc (bits 0) (any_below n (λ i. bits (suc i))) (bits (suc n))
  where
    or_assoc : (a b c : Bool) → ((a || b) || c) ≡ (a || (b || c))
    or_assoc true b c = refl
    or_assoc false b c = refl

all_front : (n : ℕ) (bits : ℕ → Bool) → all_below (suc n) bits ≡ (bits 0 && all_below n (λ i. bits (suc i)))
all_front zero bits = and_true (bits 0)
  where
    and_true : (b : Bool) → (true && b) ≡ (b && true)
    and_true true = refl
    and_true false = refl
all_front (suc n) bits = ap (λ b. b && bits (suc n)) (all_front n bits) ∙ and_assoc (bits 0) (all_below n (λ i. bits (suc i))) (bits (suc n))
  where
    and_assoc : (a b c : Bool) → ((a && b) && c) ≡ (a && (b && c))
    and_assoc true b c = refl
    and_assoc false b c = refl

odd_front : (n : ℕ) (bits : ℕ → Bool) → odd_below (suc n) bits ≡ differ (bits 0) (odd_below n (λ i. bits (suc i)))
odd_front zero bits = differ_false (bits 0)
  where
    differ_false : (b : Bool) → differ false b ≡ differ b false
    differ_false true = refl
    differ_false false = refl
odd_front (suc n) bits = ap (λ b. differ b (bits (suc n))) (odd_front n bits) ∙ differ_assoc (bits 0) (odd_below n (λ i. bits (suc i))) (bits (suc n))
  where
    differ_assoc : (a b c : Bool) → differ (differ a b) c ≡ differ a (differ b c)
    differ_assoc false b c = refl
    differ_assoc true false c = refl
    differ_assoc true true false = refl
    differ_assoc true true true = refl

-- the reductions of a list's places are those of the list
pub any_list : (bits : List Bool) → any_below (length bits) (λ i. get_or bits i false) ≡ is_any bits
any_list [] = refl
any_list (b ∷ bits) = any_front (length bits) (λ i. get_or (b ∷ bits) i false) ∙ ap (λ x. b || x) (any_list bits)

pub all_list : (bits : List Bool) → all_below (length bits) (λ i. get_or bits i false) ≡ are_all bits
all_list [] = refl
all_list (b ∷ bits) = all_front (length bits) (λ i. get_or (b ∷ bits) i false) ∙ ap (λ x. b && x) (all_list bits)

odd_more : (b : Bool) (n : ℕ) → differ b (eqb (n % 2) 1) ≡ eqb ((cond b 1 0 + n) % 2) 1
odd_more true n = grind (arith, nat_tests)
odd_more false n = let e : n ≡ 0 + n = omega arith in ap (λ m. eqb (m % 2) 1) e

pub odd_list : (bits : List Bool) → odd_below (length bits) (λ i. get_or bits i false) ≡ is_odd bits
odd_list [] = refl
odd_list (b ∷ bits) = odd_front (length bits) (λ i. get_or (b ∷ bits) i false) ∙ ap (λ x. differ b x) (odd_list bits) ∙ odd_more b (count_of_true bits)
