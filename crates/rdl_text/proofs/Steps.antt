-- Lists of steps of unlike lengths aren't the same.
use Rattle.std.proofs.Common.{◌≡◌, Bool, true, false, ◌&&◌, List, [], ◌∷◌, length, refl, arith}
use Rattle.rdl_tree.specs.declared.tree.RdlNextStep.{RdlNextStep}
use Rattle.rdl_text.specs.Assignments.{are_same_steps, is_same_step}

and_false : (a b : Bool) → b ≡ false → (a && b) ≡ false
and_false true b e = e
and_false false b e = refl

pub unlike : (a b : List RdlNextStep) → (length a ≡ length b → ⊥) → are_same_steps a b ≡ false
unlike [] [] h = absurd (h refl)
unlike [] (y ∷ ys) h = refl
unlike (x ∷ xs) [] h = refl
unlike (x ∷ xs) (y ∷ ys) h = and_false (is_same_step x.step y.step) (are_same_steps xs ys) (unlike xs ys (λ e. h (omega (arith, e))))
