-- A shift by more places than there are is one by all of them.
use Rattle.std.proofs.Common.{◌≡◌, ℕ, zero, suc, ◌-◌, Bool, List, [], ◌∷◌, length, drop, min, refl, arith}
use Rattle.bit_base.specs.Operators.{shifted_left, shifted_right}

pub left_at_most : (n : ℕ) (a : List Bool) → shifted_left (min n (length a)) a ≡ shifted_left n a
left_at_most n a =
    let e : min (min n (length a)) (length a) ≡ min n (length a) = omega arith in
    let f : length a - min n (length a) ≡ length a - n = omega arith in
    rw (e, f) refl

drop_at_most : (n : ℕ) (a : List Bool) → drop (min n (length a)) a ≡ drop n a
drop_at_most zero a = let e : min 0 (length a) ≡ 0 = omega arith in rw e refl
drop_at_most (suc n) [] = let e : min (suc n) 0 ≡ 0 = omega arith in rw e refl
drop_at_most (suc n) (x ∷ a) = let e : min (suc n) (suc (length a)) ≡ suc (min n (length a)) = omega arith in rw e (drop_at_most n a)

pub right_at_most : (n : ℕ) (fill : Bool) (a : List Bool) → shifted_right (min n (length a)) fill a ≡ shifted_right n fill a
right_at_most n fill a =
    let e : min (min n (length a)) (length a) ≡ min n (length a) = omega arith in
    rw (e, drop_at_most n a) refl
