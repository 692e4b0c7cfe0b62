-- The modules at the top, as a walk over the modules meets them.
use Rattle.std.proofs.Common.{◌≡◌, ◌≢◌, ℕ, suc, ◌+◌, ◌<◌, ◌≤◌, Bool, true, false, cond, not, List, [], ◌∷◌, length, take, drop, get_or, filter, All, bytes_eq, Option, Some, None, is_some, IfSome, refl, sym, ◌∙◌, ap, subst, append-nil, arith}
use Rattle.std.proofs.lemmas.List.Elements.{filter_more, filter-append, filter_passes}
use Rattle.std.proofs.lemmas.List.Sums.{length-filter}
use Rattle.std.proofs.lemmas.Slice.Eq.{bytes_eq-Decides}
use denote.Ref.{Bor}
use Rattle.std.proofs.lemmas.List.{take_all}
use Rattle.vlog_tree.specs.declared.tree_modules.VlogFile.{VlogFile}
use Rattle.vlog_tree.specs.declared.tree_modules.VModule.{VModule}
use Rattle.vlog_parse.specs.Top.{Name, is_among, instances_of, tops, HasNoTop, count_named}
use Rattle.vlog_parse.proofs.Fronts.{split_at}

abbrev pub listed : {A : Type 0} → Option (Bor A) → List A
listed None = []
listed (Some x) = x.now ∷ []

pub kept : {A : Type 0} (p : A → Bool) (xs found : List A) (i : ℕ) (x : A) → i < length xs → x ≡ get_or xs i x → p x ≡ false → filter p (take i xs) ≡ found → filter p (take (i + 1) xs) ≡ found
kept p xs found i x below e no_ was = filter_more p xs i x below ∙ rw (was, ← e, no_) (append-nil found)

pub added : {A : Type 0} (p : A → Bool) (xs : List A) (i : ℕ) (x : A) → i < length xs → x ≡ get_or xs i x → p x ≡ true → filter p (take i xs) ≡ [] → filter p (take (i + 1) xs) ≡ x ∷ []
added p xs i x below e yes_ was = filter_more p xs i x below ∙ rw (was, ← e, yes_) refl

two_not_one : {A : Type 0} (x y z : A) (more : List A) → x ∷ y ∷ more ≢ z ∷ []
two_not_one x y z more e = let h : suc (suc (length more)) ≡ 1 = ap length e in omega arith

pub several : {A : Type 0} (p : A → Bool) (xs : List A) (i : ℕ) (x y : A) → i < length xs → x ≡ get_or xs i x → p x ≡ true → filter p (take i xs) ≡ y ∷ [] → (z : A) → filter p xs ≢ z ∷ []
several p xs i x y below e yes_ was z one =
    let whole : filter p xs ≡ y ∷ x ∷ filter p (drop (i + 1) xs) = ap (filter p) (split_at xs i x below e) ∙ filter-append p (take i xs) (x ∷ drop (i + 1) xs) ∙ rw (was, yes_) refl in
    two_not_one y x z (filter p (drop (i + 1) xs)) (sym whole ∙ one)

-- ---- of a file

abbrev pub is_top : List VModule → VModule → Bool
is_top modules m = not (is_among (instances_of modules) m.name.text)

pub no_top_of : (file : VlogFile) (modules : List VModule) (i : ℕ) (x : VModule) (found : Option (Bor VModule)) → modules ≡ file.modules → i < length modules → x ≡ get_or modules i x
    → is_top modules x ≡ true → filter (is_top modules) (take i modules) ≡ listed found → is_some found ≡ true → HasNoTop file
no_top_of file modules i x (Some y) e below at yes_ was some_ = subst (λ ms. (z : VModule) → filter (is_top ms) ms ≢ z ∷ []) e (several (is_top modules) modules i x y.now below at yes_ was)
no_top_of file modules i x None e below at yes_ was some_ = absurd (cc)

pub one_of : (file : VlogFile) (modules : List VModule) (i : ℕ) (found : Option (Bor VModule)) → modules ≡ file.modules → length modules ≤ i → filter (is_top modules) (take i modules) ≡ listed found
    → IfSome found (λ top. tops file ≡ top.now ∷ [])
one_of file modules i None e long was = tt
one_of file modules i (Some top) e long was =
    subst (λ ms. filter (is_top ms) ms ≡ top.now ∷ []) e (ap (filter (is_top modules)) (sym (take_all i modules long)) ∙ was)

-- ---- no other module has its name

narrow : {A : Type 0} (p q : A → Bool) → ((x : A) → p x ≡ true → q x ≡ true) → (xs : List A) → filter p xs ≡ filter p (filter q xs)
narrow p q sub [] = refl
narrow p q sub (x ∷ xs) = both (p x) (q x) refl refl (narrow p q sub xs)
  where
    both : (a b : Bool) → p x ≡ a → q x ≡ b → filter p xs ≡ filter p (filter q xs) → cond a (x ∷ filter p xs) (filter p xs) ≡ filter p (cond b (x ∷ filter q xs) (filter q xs))
    both true true e h rest = rw e (ap (λ ys. x ∷ ys) rest)
    both false true e h rest = rw e rest
    both false false e h rest = rest
    both true false e h rest = absurd (let k : q x ≡ true = sub x e in cc)

pub count_one_top : (file : VlogFile) (top : VModule) (name : Name) → tops file ≡ top ∷ [] → name ≡ top.name.text → count_named file name ≡ 1
count_one_top file top name one e =
    let passes : is_top file.modules top ≡ true = (subst (All (λ x. is_top file.modules x ≡ true)) one (filter_passes (is_top file.modules) file.modules)) 0 top (omega arith) in
    let sub : (m : VModule) → bytes_eq name m.name.text ≡ true → is_top file.modules m ≡ true
    = λ m h. ap (λ text. not (is_among (instances_of file.modules) text)) (sym ((bytes_eq-Decides name m.name.text).0 h) ∙ e) ∙ passes in
    let here : bytes_eq name top.name.text ≡ true = (bytes_eq-Decides name top.name.text).1 e in
    sym (length-filter (λ m. bytes_eq name m.name.text) file.modules)
    ∙ ap length (narrow (λ m. bytes_eq name m.name.text) (is_top file.modules) sub file.modules ∙ ap (filter (λ m. bytes_eq name m.name.text)) one)
    ∙ rw here refl
