-- The text of a path is its dotted text without the first dot.
use Rattle.std.proofs.Common.{◌≡◌, ℕ, List, [], ◌∷◌, ◌++◌, drop, refl, ap, append_assoc, append-nil, ◌∙◌, sym}
use Rattle.field_policies.specs.FieldPath.{Step, step_text, path_text}
use Rattle.rdl_fields.specs.Paths.{dotted}

behind : (s : Step) (ss : List Step) → path_text (s ∷ ss) ≡ step_text s ++ dotted ss
behind s [] = rw append-nil refl
behind s (t ∷ ss) = ap (λ (xs : List ℕ). step_text s ++ 46 ∷ xs) (behind t ss)

pub path_dotted : (ss : List Step) → path_text ss ≡ drop 1 (dotted ss)
path_dotted [] = refl
path_dotted (s ∷ ss) = behind s ss

pub dotted_append : (xs ys : List Step) → dotted (xs ++ ys) ≡ dotted xs ++ dotted ys
dotted_append [] ys = refl
dotted_append (x ∷ xs) ys = ap (λ (zs : List ℕ). 46 ∷ (step_text x ++ zs)) (dotted_append xs ys) ∙ ap (λ (zs : List ℕ). 46 ∷ zs) (sym (append_assoc (step_text x) (dotted xs) (dotted ys)))
