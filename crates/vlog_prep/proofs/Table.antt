-- What the table of macros has after a change.
use Rattle.std.proofs.Common.{◌≡◌, Bool, true, false, refl}
use Rattle.std.specs.Prelude.{Option, option_map, if◌then◌else◌}

-- The value that a test picks, under a function.
pub picked : {A B : Type 0} (f : A → B) (t : Bool) (x y : Option A) → option_map f (if t then x else y) ≡ (if t then option_map f x else option_map f y)
picked f true x y = refl
picked f false x y = refl
