-- The names of instances are names, as the tree's tokens are spelled.
use Rattle.std.proofs.Common.{◌≡◌, inl, inr, ℕ, ◌-◌, Bool, true, false, ◌&&◌, ◌||◌, ◌==◌, nat_lt, nat_le, List, [], ◌∷◌, ◌++◌, Option, Some, None, codes, refl, sym, ◌∙◌, ap, subst, arith, if◌then◌else◌, rules}
use Rattle.std.specs.List.{list_all, AllByRecursion}
use denote.Enum.Bare.{same_true}
use Rattle.std.proofs.lemmas.Bool.{cases_Bool}
use Rattle.std.proofs.lemmas.Bool.Decides.{nat_tests}
use Rattle.std.proofs.lemmas.List.Folds.{list_all-map}
use Rattle.field_policies.specs.FieldPath as path
use Rattle.rdl_tree.specs.contracts.token.RdlTokenKind.{the_type}
use Rattle.rdl_tree.specs.declared.token.RdlToken.{RdlToken}
use Rattle.rdl_tree.specs.declared.token.RdlTokenKind.{RdlTokenKind}
use Rattle.rdl_tree.specs.declared.token.RdlTokenKind.TheVariants.{Word}
use Rattle.rdl_tree.specs.declared.tree.RdlFile.{RdlFile}
use Rattle.rdl_tree.specs.declared.tree.RdlItem.{RdlItem, out-RdlItem, roll-RdlItem, roll-out-RdlItem}
use Rattle.rdl_tree.specs.declared.tree.RdlItem.TheOpen.{RdlItem-F, RdlDef-F}
use Rattle.rdl_tree.specs.declared.tree.RdlItem.TheFolds.{fold-roll-RdlItem, fold-roll-RdlDef}
use Rattle.rdl_tree.specs.declared.tree.RdlDef.{RdlDef, out-RdlDef, roll-RdlDef, roll-out-RdlDef}
use Rattle.rdl_tree.specs.declared.tree.RdlInst.{RdlInst}
use Rattle.rdl_tree.specs.declared.tree.RdlInsts.{RdlInsts}
use Rattle.rdl_tree.specs.declared.tree.RdlNextInst.{RdlNextInst}
use Rattle.rdl_tree.specs.Spelling as spelling
use Rattle.rdl_tree.specs.Spelling.{is_token, is_word, is_word_byte, digit_of}
use Rattle.rdl_tree.specs.Tree.{is_kind, is_name, is_text, fits, fits_item, fits_def, fits_item_layer, fits_def_layer, fits_inst, fits_insts, fits_next_inst, fits_use, fits_kind, fits_option, is_named_or_used}
use Rattle.rdl_text.specs.declared.scope.Meaning.{Meaning}
use Rattle.rdl_text.specs.declared.scope.Meaning.TheVariants as meaning
use Rattle.rdl_text.specs.Chains.{Chain}
use Rattle.rdl_text.specs.Components.{Component}
use Rattle.rdl_text.specs.Types.{is_named, named_by, named_in, meaning_from, meaning_of, type_of}
use Rattle.rdl_text.specs.Names.{can_be_top}
use Rattle.rdl_values.specs.OneInstance.{Instance}
use Rattle.rdl_values.specs.Instances.{next_with, all_with, any_with, used_with, instances_by, instances_from, instances_of, top_by, top_from, top_of}
use Rattle.rdl_regmap.proofs.Has.{OptionCase, option_case, Has, has_cases}
use Rattle.rdl_regmap.proofs.Instances.{yes_left, yes_right}

-- ---- tokens

letters : (b : ℕ) → spelling.is_letter b ≡ true → path.is_letter b ≡ true
letters b e = e

digit_by : (b : ℕ) (c d e : Bool) → (nat_le 97 b && nat_le b 102) ≡ d → (nat_le 65 b && nat_le b 70) ≡ e → nat_lt (if c then b - 48 else if d then b - 87 else if e then b - 55 else 16) 10 ≡ true → c ≡ true
digit_by b true d e f g h = refl
digit_by b false true e f g h = let l : nat_le 97 b ≡ true = yes_left _ _ f in absurd (grind (arith, nat_tests, l, h))
digit_by b false false true f g h = let l : nat_le 65 b ≡ true = yes_left _ _ g in absurd (grind (arith, nat_tests, l, h))
digit_by b false false false f g h = cc

digits : (b : ℕ) → nat_lt (digit_of b) 10 ≡ true → path.is_digit b ≡ true
digits b e = digit_by b (nat_le 48 b && nat_le b 57) (nat_le 97 b && nat_le b 102) (nat_le 65 b && nat_le b 70) refl refl e

either_true : (a b c d : Bool) → (a ≡ true → c ≡ true) → (b ≡ true → d ≡ true) → (a || b) ≡ true → (c || d) ≡ true
either_true true b c d f g h = rw (f refl) refl
either_true false b true d f g h = refl
either_true false b false d f g h = g h

word_bytes : (bs : List ℕ) → list_all is_word_byte bs ≡ true → list_all (λ d. path.is_letter d || path.is_digit d) bs ≡ true
word_bytes [] e = refl
word_bytes (b ∷ bs) e =
    both (path.is_letter b || path.is_digit b) _ (either_true (spelling.is_letter b) (nat_lt (digit_of b) 10) (path.is_letter b) (path.is_digit b) (letters b) (digits b) (yes_left _ (list_all is_word_byte bs) e))
    (word_bytes bs (yes_right (is_word_byte b) _ e))
  where
    both : (x y : Bool) → x ≡ true → y ≡ true → (x && y) ≡ true
    both true true f g = refl
    both true false f g = cc
    both false y f g = cc

is_path_name : (bs : List ℕ) → is_word bs ≡ true → path.is_name bs ≡ true
is_path_name [] e = cc
is_path_name (b ∷ bs) e = both (path.is_letter b) _ (yes_left _ (list_all is_word_byte bs) e) (word_bytes bs (yes_right (spelling.is_letter b) _ e))
  where
    both : (x y : Bool) → x ≡ true → y ≡ true → (x && y) ≡ true
    both true true f g = refl
    both true false f g = cc
    both false y f g = cc

spelled_word : (k : RdlTokenKind) (w : List ℕ) (n : ℕ) → k ≡ Word → is_token k w n ≡ true → is_word w ≡ true
unfolding is_token
spelled_word k w n e t = yes_left (is_word w) _ (yes_left _ _ (subst (λ (z : RdlTokenKind). (spelling.is_spelled z w && spelling.token_fits z w && (n == spelling.token_value z w)) ≡ true) e t))

token_name : (t : RdlToken) → is_name t ≡ true → path.is_name t.text ≡ true
token_name t e =
    let k : t.kind ≡ Word = same_true the_type (search rules) t.kind Word (yes_left (is_kind Word t) _ e) in
    is_path_name t.text (spelled_word t.kind t.text t.value k t.spelled)

-- ---- trees that fit

abbrev pub FitsItems : List RdlItem → Type 0
FitsItems items = list_all fits_item items ≡ true

def_fits : (x : RdlItem) (d : RdlDef) → fits_item x ≡ true → out-RdlItem x ≡ RdlItem-F.Def d → fits_def d ≡ true
def_fits x d e is = sym (ap fits_item (sym (roll-out-RdlItem x) ∙ ap roll-RdlItem is) ∙ fold-roll-RdlItem Bool Bool fits_item_layer fits_def_layer (RdlItem-F.Def d)) ∙ e

use_fits : (x : RdlItem) (u : Rattle.rdl_tree.specs.declared.tree.RdlUse.RdlUse) → fits_item x ≡ true → out-RdlItem x ≡ RdlItem-F.Use u → fits_use u ≡ true
use_fits x u e is = sym (ap fits_item (sym (roll-out-RdlItem x) ∙ ap roll-RdlItem is) ∙ fold-roll-RdlItem Bool Bool fits_item_layer fits_def_layer (RdlItem-F.Use u)) ∙ e

fits_rolled : (d : RdlDef-F RdlItem RdlDef) → fits_def (roll-RdlDef d) ≡ (fits_kind d.kind && fits_option is_name d.name && is_text (codes "{") d.open && list_all fits_item d.items && is_text (codes "}") d.close
    && fits_option fits_insts d.insts && is_named_or_used d.name d.insts && is_text (codes ";") d.semi)
fits_rolled d = fold-roll-RdlDef Bool Bool fits_item_layer fits_def_layer d ∙ rw (list_all-map (λ fits. fits) fits_item d.items) refl

record IsFitting (d : RdlDef) : Type 0 where
  items : FitsItems (out-RdlDef d).items
  insts : fits_option fits_insts (out-RdlDef d).insts ≡ true

def_parts : (d : RdlDef) → fits_def d ≡ true → IsFitting d
def_parts d e =
    let o : RdlDef-F RdlItem RdlDef = out-RdlDef d in
    let q = sym (fits_rolled (out-RdlDef d)) ∙ ap fits_def (roll-out-RdlDef d) ∙ e in
    record {
      items = yes_right _ (list_all fits_item (out-RdlDef d).items) (yes_left _ _ (yes_left _ _ (yes_left _ _ (yes_left _ _ q))));
      insts = yes_right _ (fits_option fits_insts (out-RdlDef d).insts) (yes_left _ _ (yes_left _ _ q));
    }

-- ---- components

abbrev pub FitsChain : Chain → Type 0
FitsChain chain = AllByRecursion FitsItems chain

chain_more : (chain : Chain) (before : List RdlItem) → FitsChain chain → FitsItems before → FitsChain (chain ++ before ∷ [])
chain_more [] before all here = (here, tt)
chain_more (b ∷ chain) before all here = (all.0, chain_more chain before all.1 here)

pub record FitsComponent (c : Component) : Type 0 where
  pub own : FitsItems (out-RdlDef c.definition).items
  pub around : FitsChain c.chain

items_more : (before : List RdlItem) (x : RdlItem) → FitsItems before → fits_item x ≡ true → FitsItems (before ++ x ∷ [])
items_more [] x all here = rw here refl
items_more (y ∷ before) x all here = both (fits_item y) _ (yes_left _ _ all) (items_more before x (yes_right (fits_item y) _ all) here)
  where
    both : (a b : Bool) → a ≡ true → b ≡ true → (a && b) ≡ true
    both true true f g = refl
    both true false f g = cc
    both false y f g = cc

defined : (outer : Chain) (before : List RdlItem) (x : RdlItem) (d : RdlDef) → FitsChain outer → FitsItems before → fits_item x ≡ true → out-RdlItem x ≡ RdlItem-F.Def d → FitsComponent (record { definition = d; chain = outer ++ before ∷ [] })
defined outer before x d chain all here is = record { own = (def_parts d (def_fits x d here is)).items; around = chain_more outer before chain all }

some_type : (c d : Component) → Some (meaning.Type c) ≡ Some (meaning.Type d) → c ≡ d
some_type c d e = cc

named_by_fits : (outer : Chain) (before : List RdlItem) (name : List ℕ) (x : RdlItem) (c : Component) → FitsChain outer → FitsItems before → fits_item x ≡ true
    → (y : RdlItem-F RdlItem RdlDef) → out-RdlItem x ≡ y → named_by outer before name y ≡ Some (meaning.Type c) → FitsComponent c
named_by_fits outer before name x c chain all here (RdlItem-F.Def d) is e = elim (cases_Bool (is_named name (out-RdlDef d).name)) [
  | inl t ↦ subst FitsComponent (some_type _ _ (rw t at e)) (defined outer before x d chain all here is)
  | inr t ↦ let off = rw t at e in cc
]
named_by_fits outer before name x c chain all here (RdlItem-F.Enum n) is e = elim (cases_Bool (is_text name n.name)) [
  | inl t ↦ let off = rw t at e in cc
  | inr t ↦ let off = rw t at e in cc
]
named_by_fits outer before name x c chain all here (RdlItem-F.Use u) is e = cc
named_by_fits outer before name x c chain all here (RdlItem-F.Default a b d) is e = cc
named_by_fits outer before name x c chain all here (RdlItem-F.Prop a b) is e = cc
named_by_fits outer before name x c chain all here (RdlItem-F.Dynamic a b d f) is e = cc

named_in_fits : (outer : Chain) (before : List RdlItem) (name : List ℕ) (xs : List RdlItem) (c : Component) → FitsChain outer → FitsItems before → FitsItems xs → named_in outer before name xs ≡ Some (meaning.Type c) → FitsComponent c
named_in_fits outer before name [] c chain all more e = cc
named_in_fits outer before name (x ∷ xs) c chain all more e = elim (option_case (named_in outer (before ++ x ∷ []) name xs)) [
  | OptionCase.IsNone t ↦ named_by_fits outer before name x c chain all (yes_left _ (list_all fits_item xs) more) (out-RdlItem x) refl (rw t at e)
  | OptionCase.IsSome m t ↦ named_in_fits outer (before ++ x ∷ []) name xs c chain (items_more before x all (yes_left _ (list_all fits_item xs) more)) (yes_right (fits_item x) _ more) (t ∙ (rw t at e))
]

meaning_fits : (outer : Chain) (name : List ℕ) (chain : Chain) (c : Component) → FitsChain outer → FitsChain chain → meaning_from outer name chain ≡ Some (meaning.Type c) → FitsComponent c
meaning_fits outer name [] c out all e = cc
meaning_fits outer name (before ∷ inner) c out all e = elim (option_case (meaning_from (outer ++ before ∷ []) name inner)) [
  | OptionCase.IsNone t ↦ named_in_fits outer [] name before c out refl all.0 (rw t at e)
  | OptionCase.IsSome m t ↦ meaning_fits (outer ++ before ∷ []) name inner c (chain_more outer before out all.0) all.1 (t ∙ (rw t at e))
]

type_fits : (chain : Chain) (name : List ℕ) (c : Component) → FitsChain chain → type_of chain name ≡ Some c → FitsComponent c
type_fits chain name c all e = by (meaning_of chain name) refl
  where
    by : (m : Option Meaning) → meaning_of chain name ≡ m → FitsComponent c
    by None t = let off = rw t at e in cc
    by (Some meaning.Values) t = let off = rw t at e in cc
    by (Some (meaning.Type d)) t = meaning_fits [] name chain c tt all (t ∙ ap (λ (x : Component). Some (meaning.Type x)) (some_is d c (rw t at e)))
      where
        some_is : (a b : Component) → Some a ≡ Some b → a ≡ b
        some_is a b q = cc

-- ---- instances

pub record IsSpelled (i : Instance) : Type 0 where
  pub name : path.is_name i.inst.name.text ≡ true
  pub inside : FitsComponent i.component

inst_name : (i : RdlInst) → fits_inst i ≡ true → path.is_name i.name.text ≡ true
inst_name i e = token_name i.name (yes_left (is_name i.name) _ (yes_left _ _ (yes_left _ _ (yes_left _ _ (yes_left _ _ e)))))

next_spelled : (c : Component) (ns : List RdlNextInst) (i : Instance) → FitsComponent c → list_all fits_next_inst ns ≡ true → Has i (next_with c ns) → IsSpelled i
next_spelled c [] i fit all h = absurd h
next_spelled c (n ∷ ns) i fit all h = elim h [
  | inl e ↦ subst IsSpelled (sym e) (record { name = inst_name n.inst (yes_right _ (fits_inst n.inst) (yes_left _ (list_all fits_next_inst ns) all)); inside = fit })
  | inr r ↦ next_spelled c ns i fit (yes_right (fits_next_inst n) _ all) r
]

all_spelled : (c : Component) (is : RdlInsts) (i : Instance) → FitsComponent c → fits_insts is ≡ true → Has i (all_with c is) → IsSpelled i
all_spelled c is i fit all h = elim h [
  | inl e ↦ subst IsSpelled (sym e) (record { name = inst_name is.first (yes_left _ (list_all fits_next_inst is.more) all); inside = fit })
  | inr r ↦ next_spelled c is.more i fit (yes_right (fits_inst is.first) _ all) r
]

item_spelled : (outer : Chain) (before : List RdlItem) (x : RdlItem) (i : Instance) → FitsChain outer → FitsItems before → fits_item x ≡ true → (y : RdlItem-F RdlItem RdlDef) → out-RdlItem x ≡ y → Has i (instances_by outer before y) → IsSpelled i
item_spelled outer before x i chain all here (RdlItem-F.Def d) is h = by (out-RdlDef d).insts refl
  where
    comp : Component
    comp = record { definition = d; chain = outer ++ before ∷ [] }

    by : (o : Option RdlInsts) → (out-RdlDef d).insts ≡ o → IsSpelled i
    by None e = absurd (subst (λ (o : Option RdlInsts). Has i (any_with comp o)) e h)
    by (Some insts) e = all_spelled comp insts i (defined outer before x d chain all here is)
        (subst (λ (o : Option RdlInsts). fits_option fits_insts o ≡ true) e (def_parts d (def_fits x d here is)).insts) (subst (λ (o : Option RdlInsts). Has i (any_with comp o)) e h)
item_spelled outer before x i chain all here (RdlItem-F.Use u) is h = by (type_of (outer ++ before ∷ []) u.name.text) refl
  where
    by : (o : Option Component) → type_of (outer ++ before ∷ []) u.name.text ≡ o → IsSpelled i
    by None e = absurd (subst (λ (o : Option Component). Has i (used_with o u.insts)) e h)
    by (Some c) e = all_spelled c u.insts i (type_fits (outer ++ before ∷ []) u.name.text c (chain_more outer before chain all) e)
        (yes_right (is_name u.name) (fits_insts u.insts) (yes_left _ _ (use_fits x u here is))) (subst (λ (o : Option Component). Has i (used_with o u.insts)) e h)
item_spelled outer before x i chain all here (RdlItem-F.Enum n) is h = absurd h
item_spelled outer before x i chain all here (RdlItem-F.Default a b d) is h = absurd h
item_spelled outer before x i chain all here (RdlItem-F.Prop a b) is h = absurd h
item_spelled outer before x i chain all here (RdlItem-F.Dynamic a b d f) is h = absurd h

items_spelled : (outer : Chain) (before xs : List RdlItem) (i : Instance) → FitsChain outer → FitsItems before → FitsItems xs → Has i (instances_from outer before xs) → IsSpelled i
items_spelled outer before [] i chain all more h = absurd h
items_spelled outer before (x ∷ xs) i chain all more h = elim (has_cases i (instances_by outer before (out-RdlItem x)) _ h) [
  | inl l ↦ item_spelled outer before x i chain all (yes_left _ (list_all fits_item xs) more) (out-RdlItem x) refl l
  | inr r ↦ items_spelled outer (before ++ x ∷ []) xs i chain (items_more before x all (yes_left _ (list_all fits_item xs) more)) (yes_right (fits_item x) _ more) r
]

pub is_spelled : (c : Component) (i : Instance) → FitsComponent c → Has i (instances_of c) → IsSpelled i
is_spelled c i fit h = items_spelled c.chain [] (out-RdlDef c.definition).items i fit.around refl fit.own h

-- ---- the top

top_fits : (before xs : List RdlItem) (c : Component) → FitsItems before → FitsItems xs → top_from before xs ≡ Some c → FitsComponent c
top_fits before [] c all more e = cc
top_fits before (x ∷ xs) c all more e = elim (option_case (top_from (before ++ x ∷ []) xs)) [
  | OptionCase.IsNone t ↦ here (out-RdlItem x) refl (rw t at e)
  | OptionCase.IsSome m t ↦ top_fits (before ++ x ∷ []) xs c (items_more before x all (yes_left _ (list_all fits_item xs) more)) (yes_right (fits_item x) _ more) (t ∙ (rw t at e))
]
  where
    some_is : (a b : Component) → Some a ≡ Some b → a ≡ b
    some_is a b r = cc

    here : (y : RdlItem-F RdlItem RdlDef) → out-RdlItem x ≡ y → top_by before y ≡ Some c → FitsComponent c
    here (RdlItem-F.Def d) is q = elim (cases_Bool (can_be_top (RdlItem-F.Def d))) [
      | inl t ↦ subst FitsComponent (some_is _ _ (rw t at q)) (defined [] before x d tt all (yes_left _ (list_all fits_item xs) more) is)
      | inr t ↦ let off = rw t at q in cc
    ]
    here (RdlItem-F.Use u) is q = cc
    here (RdlItem-F.Enum n) is q = cc
    here (RdlItem-F.Default a b d) is q = cc
    here (RdlItem-F.Prop a b) is q = cc
    here (RdlItem-F.Dynamic a b d f) is q = cc

pub top_is_fitting : (file : RdlFile) (c : Component) → fits file ≡ true → top_of file ≡ Some c → FitsComponent c
top_is_fitting file c fit e = top_fits [] file.items c refl fit e
