-- Operators of bits by conjunctions and inversions.
use Rattle.std.proofs.Common.{◌≡◌, Bool, true, false, not, ◌&&◌, ◌||◌, cond, refl}
use Rattle.bit_base.specs.Operators.{differ}

pub or_by_and : (x y : Bool) → not (not x && not y) ≡ (x || y)
or_by_and true true = refl
or_by_and true false = refl
or_by_and false true = refl
or_by_and false false = refl

pub differ_by_gates : (x y : Bool) → ((x && not y) || (not x && y)) ≡ differ x y
differ_by_gates true true = refl
differ_by_gates true false = refl
differ_by_gates false true = refl
differ_by_gates false false = refl

pub pick_by_gates : (x y z : Bool) → ((z && x) || (not z && y)) ≡ cond z x y
pick_by_gates true true true = refl
pick_by_gates true true false = refl
pick_by_gates true false true = refl
pick_by_gates true false false = refl
pick_by_gates false true true = refl
pick_by_gates false true false = refl
pick_by_gates false false true = refl
pick_by_gates false false false = refl
