-- Operators that go place by place, as maps over pairs of places, and equal words.
use mathlib.Core.Bool.{beq}
use lib.Pointwise.{pointwise}
use Rattle.std.proofs.Common.{◌≡◌, ◌==◌, ℕ, ◌+◌, ◌*◌, cond, Bool, true, false, not, ◌&&◌, ◌||◌, List, [], ◌∷◌, map, length, refl, sym, ◌∙◌, ap, arith}
use Rattle.std.specs.List.{zip}
use Rattle.std.proofs.lemmas.Bool.Decides.{nat_tests}
use Rattle.bit_base.specs.Operators.{each_place, differ, and_of, or_of, xor_of, xnor_of}
use Rattle.bit_base.specs.Numbers.{number_of}

pub each_place_of_pairs : (f : Bool → Bool → Bool) (a b : List Bool) → map (λ p. f p.0 p.1) (zip a b) ≡ each_place f a b
each_place_of_pairs f [] b = refl
each_place_of_pairs f (x ∷ a) [] = refl
each_place_of_pairs f (x ∷ a) (y ∷ b) = ap (λ rest. f x y ∷ rest) (each_place_of_pairs f a b)

pub and_of_pairs : (a b : List Bool) → map (λ p. p.0 && p.1) (zip a b) ≡ and_of a b
and_of_pairs a b = each_place_of_pairs (λ x y. x && y) a b

pub or_of_pairs : (a b : List Bool) → map (λ p. p.0 || p.1) (zip a b) ≡ or_of a b
or_of_pairs a b = each_place_of_pairs (λ x y. x || y) a b

pub xor_of_pairs : (a b : List Bool) → map (λ p. differ p.0 p.1) (zip a b) ≡ xor_of a b
xor_of_pairs a b = each_place_of_pairs differ a b

pub xnor_of_pairs : (a b : List Bool) → map (λ p. not (differ p.0 p.1)) (zip a b) ≡ xnor_of a b
xnor_of_pairs a b = each_place_of_pairs (λ x y. not (differ x y)) a b

-- words of one length are equal exactly where their numbers are
equal_places : (x y : Bool) (m n : ℕ) → (cond x 1 0 + 2 * m == cond y 1 0 + 2 * n) ≡ (beq x y && (m == n))
equal_places true true m n = grind (arith, nat_tests)
equal_places true false m n = grind (arith, nat_tests)
equal_places false true m n = grind (arith, nat_tests)
equal_places false false m n = grind (arith, nat_tests)

pub equal_by_number : (a b : List Bool) → length a ≡ length b → pointwise beq a b ≡ (number_of a == number_of b)
equal_by_number [] [] same = refl
equal_by_number [] (y ∷ b) same = absurd (omega arith)
equal_by_number (x ∷ a) [] same = absurd (omega arith)
equal_by_number (x ∷ a) (y ∷ b) same = ap (λ t. beq x y && t) (equal_by_number a b (omega arith)) ∙ sym (equal_places x y (number_of a) (number_of b))

pub length_of_each_place : (f : Bool → Bool → Bool) (a b : List Bool) → length a ≡ length b → length (each_place f a b) ≡ length a
length_of_each_place f [] b same = refl
length_of_each_place f (x ∷ a) [] same = absurd (omega arith)
length_of_each_place f (x ∷ a) (y ∷ b) same = rw (length_of_each_place f a b (omega arith)) refl
