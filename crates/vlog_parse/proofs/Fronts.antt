-- Fronts of a list, as a pass over it meets them.
use Rattle.std.proofs.Common.{◌≡◌, ℕ, ◌+◌, ◌<◌, ◌≤◌, Bool, false, List, [], ◌∷◌, ◌++◌, length, take, drop, get_or, refl, sym, ◌∙◌, ap, subst, append_assoc, length-append, length-take, drop-cons, add-one, arith}
use Rattle.std.specs.List.{list_any}
use Rattle.std.proofs.Math.Seq.{take-append_seam}
use Rattle.std.proofs.lemmas.List.{take-append-drop, take_more}
use Rattle.std.proofs.lemmas.List.Folds.{list_any_more}

pub split_at : {A : Type 0} (ts : List A) (i : ℕ) (t : A) → i < length ts → t ≡ get_or ts i t → ts ≡ take i ts ++ t ∷ drop (i + 1) ts
split_at ts i t below e =
    let here : drop i ts ≡ get_or ts i t ∷ drop (i + 1) ts = rw add-one (drop-cons ts i t below) in
    sym (take-append-drop i ts) ∙ ap (λ us. take i ts ++ us) (here ∙ ap (λ x. x ∷ drop (i + 1) ts) (sym e))

pub take_one : {A : Type 0} (ts : List A) (i : ℕ) (t : A) → i < length ts → t ≡ get_or ts i t → take (i + 1) ts ≡ take i ts ++ t ∷ []
take_one ts i t below e = take_more ts i t below ∙ ap (λ x. take i ts ++ x ∷ []) (sym e)

front_is : {A : Type 0} (ts front more : List A) → ts ≡ front ++ more → take (length front) ts ≡ front
front_is ts front more e = rw e (take-append_seam front more)

-- What holds of all fronts up to a length holds of each front, where there are no others.
pub each_front : {A : Type 0} (P : List A → Type 0) (ts : List A) (n : ℕ) → length ts ≤ n → ((k : ℕ) → k ≤ n → P (take k ts)) → (front more : List A) → ts ≡ front ++ more → P front
each_front P ts n all below front more e =
    let long : length ts ≡ length front + length more = rw e (length-append front more) in
    let h : P (take (length front) ts) = below (length front) (omega arith) in
    subst P (front_is ts front more e) h

pub each_front_of : {A : Type 0} (P : List A → Type 0) (ts : List A) (i : ℕ) → i < length ts → ((k : ℕ) → k ≤ i → P (take k ts)) → (front more : List A) → take i ts ≡ front ++ more → P front
each_front_of P ts i inside below front more e =
    let whole : ts ≡ front ++ (more ++ drop i ts) = sym (take-append-drop i ts) ∙ ap (λ us. us ++ drop i ts) e ∙ append_assoc front more (drop i ts) in
    let cut : length (take i ts) ≡ i = simp length-take (omega arith) in
    let parts : length (take i ts) ≡ length front + length more = rw e (length-append front more) in
    let h : P (take (length front) ts) = below (length front) (omega arith) in
    subst P (front_is ts front (more ++ drop i ts) whole) h

pub none_more : {A : Type 0} (p : A → Bool) (ts : List A) (i : ℕ) (t : A) → i < length ts → t ≡ get_or ts i t → list_any p (take i ts) ≡ false → p t ≡ false → list_any p (take (i + 1) ts) ≡ false
none_more p ts i t below e none not_here = list_any_more p ts i t below ∙ rw (none, ← e, not_here) refl
