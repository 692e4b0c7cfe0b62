-- Names that parts of a list give, as a walk over the list meets them.
use Rattle.std.proofs.Common.{◌≡◌, ℕ, ◌+◌, ◌<◌, ◌≤◌, Bool, true, false, cond, ◌||◌, List, [], ◌∷◌, ◌++◌, length, map, take, get_or, refl, sym, ◌∙◌, ap, append_assoc, append-nil, bytes_eq}
use Rattle.std.proofs.lemmas.Bool.Decides.{same_from_decides, Decides-like}
use Rattle.std.proofs.lemmas.Slice.Eq.{bytes_eq-Decides}
use Rattle.std.proofs.lemmas.List.Folds.{list_any-append}
use Rattle.vlog_parse.specs.Top.{Name, Names, all_names, is_among}
use Rattle.std.proofs.lemmas.List.{take_all}
use Rattle.vlog_parse.specs.declared.top.Met.{Met}
use Rattle.vlog_parse.specs.Met.{has, Meets}
use Rattle.vlog_parse.proofs.Fronts.{take_one}

all_append : {A : Type 0} (f : A → Names) (xs ys : List A) → all_names (map f (xs ++ ys)) ≡ all_names (map f xs) ++ all_names (map f ys)
all_append f [] ys = refl
all_append f (x ∷ xs) ys = ap (λ names. f x ++ names) (all_append f xs ys) ∙ sym (append_assoc (f x) (all_names (map f xs)) (all_names (map f ys)))

or_false : (a : Bool) → (a || false) ≡ a
or_false true = refl
or_false false = refl

or_assoc : (a b c : Bool) → ((a || b) || c) ≡ (a || (b || c))
or_assoc true b c = refl
or_assoc false b c = refl

-- one name more
pub key_met : (name q : Name) (old : Bool) → cond (bytes_eq name q) true old ≡ (old || is_among (name ∷ []) q)
key_met name q old = by (bytes_eq name q) ∙ ap (λ b. old || (b || false)) (same_from_decides (bytes_eq name q) (bytes_eq q name) (bytes_eq-Decides name q) (Decides-like (bytes_eq q name) (λ e. sym e) (λ e. sym e) (bytes_eq-Decides q name)))
  where
    or_true : (b : Bool) → (b || true) ≡ true
    or_true true = refl
    or_true false = refl

    by : (b : Bool) → cond b true old ≡ (old || (b || false))
    by true = sym (or_true old)
    by false = sym (or_false old)

-- no name more
pub meets_none : (old : Met) → Meets old [] old
meets_none old q = sym (or_false (has old q))

-- the names of one list, and then those of another
pub meets_both : (old mid new : Met) (xs ys : Names) → Meets old xs mid → Meets mid ys new → Meets old (xs ++ ys) new
meets_both old mid new xs ys h g q =
    g q ∙ ap (λ b. b || is_among ys q) (h q) ∙ or_assoc (has old q) (is_among xs q) (is_among ys q)
    ∙ ap (λ b. has old q || b) (sym (list_any-append (bytes_eq q) xs ys))

pub meets_alone : (old new : Met) (xs : Names) → Meets old xs new → Meets old (xs ++ []) new
meets_alone old new xs h q = h q ∙ ap (λ names. has old q || is_among names q) (sym (append-nil xs))

-- those of the parts so far, and of one part more
pub meets_more : {A : Type 0} (f : A → Names) (xs : List A) (i : ℕ) (x : A) (old mid new : Met) → i < length xs → x ≡ get_or xs i x
    → Meets old (all_names (map f (take i xs))) mid → Meets mid (f x) new → Meets old (all_names (map f (take (i + 1) xs))) new
meets_more f xs i x old mid new below e h g q =
    meets_both old mid new (all_names (map f (take i xs))) (f x) h g q
    ∙ ap (λ names. has old q || is_among names q) (ap (λ names. all_names (map f (take i xs)) ++ names) (sym (append-nil (f x))) ∙ sym (all_append f (take i xs) (x ∷ [])) ∙ ap (λ ys. all_names (map f ys)) (sym (take_one xs i x below e)))

pub meets_all : {A : Type 0} (f : A → Names) (xs : List A) (i : ℕ) (old new : Met) → length xs ≤ i → Meets old (all_names (map f (take i xs))) new → Meets old (all_names (map f xs)) new
meets_all f xs i old new long h q = h q ∙ ap (λ ys. has old q || is_among (all_names (map f ys)) q) (take_all i xs long)

-- where none was met before, those and no other are met
pub all_met : (old new : Met) (xs : Names) → ((q : Name) → has old q ≡ false) → Meets old xs new → (q : Name) → has new q ≡ is_among xs q
all_met old new xs none h q = h q ∙ ap (λ b. b || is_among xs q) (none q)
