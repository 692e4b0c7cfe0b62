-- The first token at which too many brackets are open.
use Rattle.std.proofs.Common.{◌≡◌, ℕ, zero, suc, ◌+◌, ◌<◌, ◌≤◌, List, [], ◌∷◌, ◌++◌, length, take, drop, get_or, fold, refl, sym, ◌∙◌, ap, subst, append_assoc, length-append, length-take, drop-cons, add-one, arith}
use Rattle.std.proofs.Math.Seq.{take-append_seam}
use Rattle.std.proofs.lemmas.List.{take-append-drop}
use Rattle.rdl_tree.specs.declared.token.RdlToken.{RdlToken}
use Rattle.rdl_tree.specs.Tree.{Tokens}
use Rattle.rdl_parse.specs.Depth.{open_with, open_after, IsShallow, IsFirstDeep}

fold_one : (n : ℕ) (ts : Tokens) (t : RdlToken) → fold open_with n (ts ++ t ∷ []) ≡ open_with (fold open_with n ts) t
fold_one n [] t = refl
fold_one n (x ∷ ts) t = fold_one (open_with n x) ts t

front_is : (ts front more : Tokens) → ts ≡ front ++ more → take (length front) ts ≡ front
front_is ts front more e = rw e (take-append_seam front more)

split_at : (ts : Tokens) (i : ℕ) (t : RdlToken) → i < length ts → t ≡ get_or ts i t → ts ≡ take i ts ++ t ∷ drop (i + 1) ts
split_at ts i t below e =
    let here : drop i ts ≡ get_or ts i t ∷ drop (i + 1) ts = rw add-one (drop-cons ts i t below) in
    sym (take-append-drop i ts) ∙ ap (λ us. take i ts ++ us) (here ∙ ap (λ x. x ∷ drop (i + 1) ts) (sym e))

pub shallow_up_to : (ts : Tokens) (n : ℕ) → length ts ≤ n → ((k : ℕ) → k ≤ n → open_after (take k ts) ≤ 64) → IsShallow ts
shallow_up_to ts n all below front more e =
    let long : length ts ≡ length front + length more = rw e (length-append front more) in
    let h : open_after (take (length front) ts) ≤ 64 = below (length front) (omega arith) in
    subst (λ us. open_after us ≤ 64) (front_is ts front more e) h

taken_shallow : (ts : Tokens) (i : ℕ) → i < length ts → ((k : ℕ) → k ≤ i → open_after (take k ts) ≤ 64) → IsShallow (take i ts)
taken_shallow ts i inside below front more e =
    let whole : ts ≡ front ++ (more ++ drop i ts) = sym (take-append-drop i ts) ∙ ap (λ us. us ++ drop i ts) e ∙ append_assoc front more (drop i ts) in
    let cut : length (take i ts) ≡ i = simp length-take (omega arith) in
    let parts : length (take i ts) ≡ length front + length more = rw e (length-append front more) in
    let long : i ≡ length front + length more = omega arith in
    let h : open_after (take (length front) ts) ≤ 64 = below (length front) (omega arith) in
    subst (λ us. open_after us ≤ 64) (front_is ts front (more ++ drop i ts) whole) h

pub found_deep : (ts : Tokens) (i count0 now : ℕ) (t : RdlToken) → i < length ts → t ≡ get_or ts i t → count0 ≡ open_after (take i ts) → ((k : ℕ) → k ≤ i → open_after (take k ts) ≤ 64) → now ≡ open_with count0 t → 64 < now → IsFirstDeep ts t.place
found_deep ts i count0 now t inside e count below is deep = record {
  front = take i ts;
  token = t;
  more = drop (i + 1) ts;
  split = split_at ts i t inside e;
  here = refl;
  deep = let h : open_after (take i ts ++ t ∷ []) ≡ now = fold_one 0 (take i ts) t ∙ ap (λ n. open_with n t) (sym count) ∙ sym is in omega arith;
  shallow = taken_shallow ts i inside below;
}
