-- Steps and frames of unlike numbers don't fit.
use Rattle.std.proofs.Common.{◌≡◌, Bool, true, false, ◌&&◌, List, [], ◌∷◌, length, refl, arith}
use Rattle.rdl_tree.specs.declared.tree.RdlNextStep.{RdlNextStep}
use Rattle.rdl_values.specs.OneFrame.{Frame}
use Rattle.rdl_values.specs.Values.{fit_steps, fits_step}

and_false : (a b : Bool) → b ≡ false → (a && b) ≡ false
and_false true b e = e
and_false false b e = refl

pub unlike : (a : List RdlNextStep) (b : List Frame) → (length a ≡ length b → ⊥) → fit_steps a b ≡ false
unlike [] [] h = absurd (h refl)
unlike [] (y ∷ ys) h = refl
unlike (x ∷ xs) [] h = refl
unlike (x ∷ xs) (y ∷ ys) h = and_false (fits_step x.step y) (fit_steps xs ys) (unlike xs ys (λ e. h (omega (arith, e))))
