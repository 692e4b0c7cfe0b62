-- Reductions, one bit after the other.
use Rattle.std.proofs.Common.{◌≡◌, ℕ, ◌+◌, ◌*◌, ◌%◌, ◌==◌, Bool, true, false, not, ◌&&◌, ◌||◌, cond, List, [], ◌∷◌, length, refl, ap, ◌∙◌, arith}
use Rattle.std.proofs.lemmas.Bool.Decides.{nat_tests}
use Rattle.bit_base.specs.Numbers.{number_of}
use Rattle.bit_base.specs.Operators.{differ, each_place, are_all, is_any, is_odd, count_of_true, is_equal}
use Rattle.word_gates.specs.Places.{chained}

and_assoc : (x y z : Bool) → ((x && y) && z) ≡ (x && (y && z))
and_assoc true y z = refl
and_assoc false y z = refl

or_assoc : (x y z : Bool) → ((x || y) || z) ≡ (x || (y || z))
or_assoc true y z = refl
or_assoc false y z = refl

and_unit : (x : Bool) → x ≡ (x && true)
and_unit true = refl
and_unit false = refl

or_unit : (x : Bool) → x ≡ (x || false)
or_unit true = refl
or_unit false = refl

all_from : (x : Bool) (xs : List Bool) → chained (λ a b. a && b) x xs ≡ (x && are_all xs)
all_from x [] = and_unit x
all_from x (y ∷ ys) = all_from (x && y) ys ∙ and_assoc x y (are_all ys)

pub all_is : (xs : List Bool) → chained (λ a b. a && b) true xs ≡ are_all xs
all_is xs = all_from true xs

any_from : (x : Bool) (xs : List Bool) → chained (λ a b. a || b) x xs ≡ (x || is_any xs)
any_from x [] = or_unit x
any_from x (y ∷ ys) = any_from (x || y) ys ∙ or_assoc x y (is_any ys)

pub any_is : (xs : List Bool) → chained (λ a b. a || b) false xs ≡ is_any xs
any_is xs = any_from false xs

odd_step : (x y : Bool) (n : ℕ) → ((cond (differ x y) 1 0 + n) % 2 == 1) ≡ ((cond x 1 0 + (cond y 1 0 + n)) % 2 == 1)
odd_step true true n = let e : (0 + n) % 2 ≡ (1 + (1 + n)) % 2 = omega arith in rw e refl
odd_step true false n = let e : (1 + n) % 2 ≡ (1 + (0 + n)) % 2 = omega arith in rw e refl
odd_step false true n = let e : (1 + n) % 2 ≡ (0 + (1 + n)) % 2 = omega arith in rw e refl
odd_step false false n = let e : (0 + n) % 2 ≡ (0 + (0 + n)) % 2 = omega arith in rw e refl

odd_from : (x : Bool) (xs : List Bool) → chained differ x xs ≡ ((cond x 1 0 + count_of_true xs) % 2 == 1)
odd_from true [] = refl
odd_from false [] = refl
odd_from x (y ∷ ys) = odd_from (differ x y) ys ∙ odd_step x y (count_of_true ys)

pub odd_is : (xs : List Bool) → chained differ false xs ≡ is_odd xs
odd_is xs = let e : 0 + count_of_true xs ≡ count_of_true xs = omega arith in odd_from false xs ∙ ap (λ n. n % 2 == 1) e

equal_step : (x y : Bool) (m n : ℕ) → (not (differ x y) && (m == n)) ≡ ((cond x 1 0 + 2 * m) == (cond y 1 0 + 2 * n))
equal_step true true m n = grind (arith, nat_tests)
equal_step true false m n = grind (arith, nat_tests)
equal_step false true m n = grind (arith, nat_tests)
equal_step false false m n = grind (arith, nat_tests)

pub equal_is : (xs ys : List Bool) → length xs ≡ length ys → are_all (each_place (λ x y. not (differ x y)) xs ys) ≡ is_equal xs ys
equal_is [] [] h = refl
equal_is [] (y ∷ ys) h = absurd (omega arith)
equal_is (x ∷ xs) [] h = absurd (omega arith)
equal_is (x ∷ xs) (y ∷ ys) h = rw (equal_is xs ys (omega arith)) (equal_step x y (number_of xs) (number_of ys))
