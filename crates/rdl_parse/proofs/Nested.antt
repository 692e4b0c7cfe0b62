-- The laws of items and definitions.
use Rattle.std.proofs.Common.{◌≡◌, ℕ, zero, suc, ◌+◌, ◌<◌, ◌≤◌, Bool, true, false, ◌&&◌, ◌||◌, List, [], ◌∷◌, ◌++◌, length, Option, Some, None, is_some, codes, refl, sym, ◌∙◌, ◌⊎◌, inl, inr, ap, subst, append_assoc, arith}
use Rattle.std.specs.List.{list_all}
use Rattle.parsing.specs.Parser.{Parser, seq, form, expect, on, optional, many, sunk}
use Rattle.parsing.proofs.Rules.{sunk_rule, no_room_rule}
use Rattle.rdl_tree.specs.declared.token.RdlToken.{RdlToken}
use Rattle.rdl_tree.specs.declared.tree.RdlItem.{RdlItem}
use Rattle.rdl_tree.specs.declared.tree.RdlItem.TheVariants as item
use Rattle.rdl_tree.specs.declared.tree.RdlItem.TheOpen.{RdlDef-F}
use Rattle.rdl_tree.specs.declared.tree.RdlDef.{RdlDef, out-RdlDef, roll-RdlDef, roll-out-RdlDef}
use Rattle.rdl_tree.specs.declared.tree.RdlKind.{RdlKind}
use Rattle.rdl_tree.specs.declared.tree.RdlUse.{RdlUse}
use Rattle.rdl_tree.specs.declared.tree.RdlInsts.{RdlInsts}
use Rattle.rdl_tree.specs.declared.tree.RdlProp.{RdlProp}
use Rattle.rdl_tree.specs.declared.tree.RdlPath.{RdlPath}
use Rattle.rdl_tree.specs.declared.tree.RdlStep.{RdlStep}
use Rattle.rdl_tree.specs.declared.tree.RdlNextStep.{RdlNextStep}
use Rattle.rdl_tree.specs.declared.tree.RdlIndex.{RdlIndex}
use Rattle.rdl_tree.specs.declared.tree.RdlAssigned.{RdlAssigned}
use Rattle.rdl_tree.specs.declared.tree.RdlEnum.{RdlEnum}
use Rattle.rdl_tree.specs.Tree.{Tokens, is_text, is_name, flat_option, flat_token, flat_list, flat_kind, flat_index, flat_next_step, flat_assigned, flat_prop, flat_insts, flat_enum, flat_item, flat_def, fits_option, fits_kind, fits_index, fits_next_step, fits_assigned, fits_prop, fits_insts, fits_enum, fits_item, fits_def, is_named_or_used}
use Rattle.rdl_parse.specs.declared.items.Tail.{Tail}
use Rattle.rdl_parse.specs.declared.items.Tail.TheVariants.{Use, Path, Prop}
use Rattle.rdl_parse.specs.Grammar.{mark, name, use_tail, path_tail, prop_tail, is_path_tail, after_name, named_item, named, is_kind_word, kind, default_prop, any_name, insts, insts_after, ending, definition, item_of, begins_item, items}
use Rattle.rdl_parse.proofs.Sorts.{and_both, and_left, and_right, among, Sorted, sorted_or, name_sorted, open_bracket_sorted, dot_sorted, arrow_sorted, addrmap_sorted, regfile_sorted, reg_sorted, field_sorted, default_sorted, enum_sorted}
use Rattle.rdl_parse.proofs.Build.{Reading, Holds, Image, then_rule, then_step_rule, as_rule, any_rule, each_rule, or_rule, image_rule, fitting_rule, wider_rule}
use Rattle.rdl_parse.proofs.Tokens.{name_rule, open_brace_rule, close_brace_rule, semi_rule, arrow_rule, default_rule}
use Rattle.rdl_parse.proofs.Rows.{any_index_rule, tail_steps_rule, any_assigned_rule, prop_rule, insts_rule, enumeration_rule, one_kind, kind_rule}
use Rattle.rdl_parse.proofs.Folds.{flat-Def, flat-Use, flat-Default, flat-Prop, flat-Dynamic, flat-Enum, fits-Def, fits-Use, fits-Default, fits-Prop, fits-Dynamic, fits-Enum, flat-roll, fits-roll, by_variant}

-- the sorts that an item begins with, and those that come after one
abbrev firsts : List ℕ
firsts = 30 ∷ 31 ∷ 32 ∷ 33 ∷ 35 ∷ 34 ∷ 4 ∷ []

abbrev nexts : List ℕ
nexts = 30 ∷ 31 ∷ 32 ∷ 33 ∷ 35 ∷ 34 ∷ 4 ∷ 11 ∷ 0 ∷ []

-- ---- what comes after a name

abbrev flat_tail : Tail → Tokens
flat_tail (Use insts semi) = flat_insts insts ++ semi ∷ []
flat_tail (Path index more arrow prop semi) = flat_option flat_index index ++ (flat_list flat_next_step more ++ (arrow ∷ (flat_prop prop ++ semi ∷ [])))
flat_tail (Prop value semi) = flat_option flat_assigned value ++ semi ∷ []

abbrev FitsTail : Tail → Type 0
FitsTail (Use insts semi) = (fits_insts insts ≡ true) × (is_text (codes ";") semi ≡ true)
FitsTail (Path index more arrow prop semi) =
    (fits_option fits_index index ≡ true) × ((list_all fits_next_step more ≡ true) × ((is_text (codes "->") arrow ≡ true) × ((fits_prop prop ≡ true) × (is_text (codes ";") semi ≡ true))))
FitsTail (Prop value semi) = (fits_option fits_assigned value ≡ true) × (is_text (codes ";") semi ≡ true)

abbrev make_use : RdlInsts × RdlToken → Tail
make_use p = Use p.0 p.1

abbrev make_path : Option RdlIndex × (List RdlNextStep × (RdlToken × (RdlProp × RdlToken))) → Tail
make_path p = Path p.0 p.1.0 p.1.1.0 p.1.1.1.0 p.1.1.1.1

abbrev make_prop : Option RdlAssigned × RdlToken → Tail
make_prop p = Prop p.0 p.1

abbrev FitsUse : Tail → Type 0
FitsUse = Image make_use (λ p. (fits_insts p.0 ≡ true) × (is_text (codes ";") p.1 ≡ true))

abbrev FitsPath : Tail → Type 0
FitsPath = Image make_path (λ p. (fits_option fits_index p.0 ≡ true) × ((list_all fits_next_step p.1.0 ≡ true) × ((is_text (codes "->") p.1.1.0 ≡ true) × ((fits_prop p.1.1.1.0 ≡ true) × (is_text (codes ";") p.1.1.1.1 ≡ true)))))

abbrev FitsProp : Tail → Type 0
FitsProp = Image make_prop (λ p. (fits_option fits_assigned p.0 ≡ true) × (is_text (codes ";") p.1 ≡ true))

use_tail_rule : (room more : ℕ) → Reading room more (4 ∷ []) nexts use_tail use_tail flat_tail FitsUse
unfolding use_tail
use_tail_rule room more = image_rule make_use flat_tail (λ p h. refl) (then_rule refl (insts_rule room more) (λ _. semi_rule room more nexts))

path_tail_rule : (room more : ℕ) → Reading room more (12 ∷ 22 ∷ 19 ∷ []) nexts path_tail path_tail flat_tail FitsPath
unfolding path_tail
path_tail_rule room more =
    image_rule make_path flat_tail (λ p h. refl)
    (then_rule refl (any_index_rule room more (22 ∷ 19 ∷ []) refl) (λ _. then_rule refl (tail_steps_rule room more)
    (λ _. then_rule refl (arrow_rule room more (4 ∷ [])) (λ _. then_rule refl (prop_rule room more) (λ _. semi_rule room more nexts)))))

prop_tail_rule : (room more : ℕ) → Reading room more (16 ∷ 14 ∷ []) nexts prop_tail prop_tail flat_tail FitsProp
unfolding prop_tail
prop_tail_rule room more = image_rule make_prop flat_tail (λ p h. refl) (then_rule refl (any_assigned_rule room more) (λ _. semi_rule room more nexts))

tail_fits : (t : Tail) → FitsUse t ⊎ (FitsPath t ⊎ FitsProp t) → FitsTail t
tail_fits t (inl (p, (e, h))) = subst FitsTail e h
tail_fits t (inr (inl (p, (e, h)))) = subst FitsTail e h
tail_fits t (inr (inr (p, (e, h)))) = subst FitsTail e h

fits_tails : (t : Tail) → FitsTail t → FitsUse t ⊎ (FitsPath t ⊎ FitsProp t)
fits_tails (Use insts semi) h = inl ((insts, semi), (refl, h))
fits_tails (Path index more arrow prop semi) h = inr (inl ((index, (more, (arrow, (prop, semi)))), (refl, h)))
fits_tails (Prop value semi) h = inr (inr ((value, semi), (refl, h)))

is_path_tail_sorted : Sorted is_path_tail (12 ∷ 22 ∷ 19 ∷ [])
unfolding is_path_tail
is_path_tail_sorted = sorted_or _ _ (12 ∷ 22 ∷ []) (19 ∷ []) (sorted_or _ _ (12 ∷ []) (22 ∷ []) open_bracket_sorted dot_sorted) arrow_sorted

after_name_rule : (room more : ℕ) → Reading room more (4 ∷ 12 ∷ 22 ∷ 19 ∷ 16 ∷ 14 ∷ []) nexts after_name after_name flat_tail FitsTail
unfolding after_name
after_name_rule room more =
    fitting_rule FitsTail tail_fits fits_tails
    (or_rule is_name (4 ∷ []) name_sorted refl refl refl (use_tail_rule room more)
    (or_rule is_path_tail (12 ∷ 22 ∷ 19 ∷ []) is_path_tail_sorted refl refl refl (path_tail_rule room more) (prop_tail_rule room more)))

abbrev make_named : RdlToken × Tail → RdlItem
make_named p = named_item p.0 p.1

named_flat : (n : RdlToken) (t : Tail) → flat_item (named_item n t) ≡ n ∷ flat_tail t
named_flat n (Use insts semi) = flat-Use _
named_flat n (Path index more arrow prop semi) = flat-Dynamic _ _ _ _ ∙ simp append_assoc
named_flat n (Prop value semi) = flat-Prop _ _

abbrev FitsNamed : RdlItem → Type 0
FitsNamed = Image make_named (λ p. (is_name p.0 ≡ true) × FitsTail p.1)

named_rule : (room more : ℕ) → Reading room more (4 ∷ []) nexts named named flat_item FitsNamed
unfolding named
named_rule room more =
    image_rule make_named flat_item (λ p h. named_flat p.0 p.1) (then_rule refl (name_rule room more (4 ∷ 12 ∷ 22 ∷ 19 ∷ 16 ∷ 14 ∷ [])) (λ _. after_name_rule room more))

named_fits : (n : RdlToken) (t : Tail) → is_name n ≡ true → FitsTail t → fits_item (named_item n t) ≡ true
named_fits n (Use insts semi) e h = fits-Use _ ∙ and_both _ _ (and_both _ _ e h.0) h.1
named_fits n (Path index more arrow prop semi) e h =
    fits-Dynamic _ _ _ _ ∙ and_both _ _ (and_both _ _ (and_both _ _ (and_both _ _ (and_both _ _ e h.0) h.1.0) h.1.1.0) h.1.1.1.0) h.1.1.1.1
named_fits n (Prop value semi) e h = fits-Prop _ _ ∙ and_both _ _ (and_both _ _ e h.0) h.1

-- ---- definitions

any_name_rule : (room more : ℕ) → Reading room more (4 ∷ 10 ∷ []) (10 ∷ []) any_name any_name (flat_option flat_token) (Holds (fits_option is_name))
unfolding any_name
any_name_rule room more = any_rule is_name (4 ∷ []) name_sorted refl refl refl (name_rule room more (10 ∷ []))

abbrev FitsInsts : Option RdlToken → Option RdlInsts → Type 0
FitsInsts n o = (fits_option fits_insts o ≡ true) × (is_named_or_used n o ≡ true)

some_fits : (o : Option RdlInsts) → Image Some (Holds fits_insts) o → FitsInsts None o
some_fits o (i, (e, h)) = subst (FitsInsts None) e (h, refl)

fits_some : (o : Option RdlInsts) → FitsInsts None o → Image Some (Holds fits_insts) o
fits_some None h = absurd (no_insts h.1)
  where
    no_insts : false ≡ true → ⊥
    no_insts e = cc
fits_some (Some i) h = (i, (refl, h.0))

insts_after_rule : (room more : ℕ) (n : Option RdlToken) → Reading room more (4 ∷ 14 ∷ []) (14 ∷ []) (insts_after n) (insts_after n) (flat_option flat_insts) (FitsInsts n)
unfolding insts_after
insts_after_rule room more None = wider_rule (4 ∷ 14 ∷ []) (14 ∷ []) refl refl (fitting_rule (FitsInsts None) some_fits fits_some (image_rule Some (flat_option flat_insts) (λ i h. refl) (insts_rule room more)))
insts_after_rule room more (Some n) = fitting_rule (FitsInsts (Some n)) (λ o h. (h, refl)) (λ o h. h.0) (any_rule is_name (4 ∷ []) name_sorted refl refl refl (insts_rule room more))

abbrev flat_ending : Option RdlInsts × RdlToken → Tokens
flat_ending p = flat_option flat_insts p.0 ++ p.1 ∷ []

abbrev FitsEnding : Option RdlToken → Option RdlInsts × RdlToken → Type 0
FitsEnding n p = FitsInsts n p.0 × (is_text (codes ";") p.1 ≡ true)

ending_rule : (room more : ℕ) (n : Option RdlToken) → Reading room more (4 ∷ 14 ∷ []) nexts (ending n) (ending n) flat_ending (FitsEnding n)
unfolding ending
ending_rule room more n = then_rule refl (insts_after_rule room more n) (λ _. semi_rule room more nexts)

abbrev Parts : Type 0
Parts = RdlKind × (Option RdlToken × (RdlToken × (List RdlItem × (RdlToken × (Option RdlInsts × RdlToken)))))

abbrev make_def : Parts → RdlDef
make_def p = roll-RdlDef (record { kind = p.0; name = p.1.0; «open» = p.1.1.0; items = p.1.1.1.0; close = p.1.1.1.1.0; insts = p.1.1.1.1.1.0; semi = p.1.1.1.1.1.1 })

abbrev flat_parts : Parts → Tokens
flat_parts p = one_kind p.0 ++ (flat_option flat_token p.1.0 ++ ((p.1.1.0 ∷ []) ++ (flat_list flat_item p.1.1.1.0 ++ ((p.1.1.1.1.0 ∷ []) ++ flat_ending p.1.1.1.1.1))))

abbrev FitsParts : Parts → Type 0
FitsParts p = (fits_kind p.0 ≡ true) × ((fits_option is_name p.1.0 ≡ true) × ((is_text (codes "{") p.1.1.0 ≡ true) × ((list_all fits_item p.1.1.1.0 ≡ true) × ((is_text (codes "}") p.1.1.1.1.0 ≡ true) × FitsEnding p.1.0 p.1.1.1.1.1))))

def_flat : (p : Parts) → flat_def (make_def p) ≡ flat_parts p
def_flat p = flat-roll _ ∙ simp append_assoc

def_fits : (p : Parts) → FitsParts p → fits_def (make_def p) ≡ true
def_fits p h =
    fits-roll _ ∙ and_both _ _ (and_both _ _ (and_both _ _ (and_both _ _ (and_both _ _ (and_both _ _ (and_both _ _ h.0 h.1.0) h.1.1.0) h.1.1.1.0) h.1.1.1.1.0) h.1.1.1.1.1.0.0) h.1.1.1.1.1.0.1) h.1.1.1.1.1.1

parts_fit : (a b c d e f g i : Bool) → (a && b && c && d && e && f && g && i) ≡ true → (a ≡ true) × ((b ≡ true) × ((c ≡ true) × ((d ≡ true) × ((e ≡ true) × (((f ≡ true) × (g ≡ true)) × (i ≡ true))))))
parts_fit a b c d e f g i h =
    let h7 = and_left _ _ h in let h6 = and_left _ _ h7 in let h5 = and_left _ _ h6 in let h4 = and_left _ _ h5 in let h3 = and_left _ _ h4 in let h2 = and_left _ _ h3 in
    (and_left _ _ h2, (and_right _ _ h2, (and_right _ _ h3, (and_right _ _ h4, (and_right _ _ h5, ((and_right _ _ h6, and_right _ _ h7), and_right _ _ h))))))

def_parts : (d : RdlDef) → fits_def d ≡ true → (p : Parts) × ((make_def p ≡ d) × FitsParts p)
def_parts d h =
    let o = out-RdlDef d in
    let e : fits_def (roll-RdlDef o) ≡ true = subst (λ x. fits_def x ≡ true) (sym (roll-out-RdlDef d)) h in
    ((o.kind, (o.name, (o.open, (o.items, (o.close, (o.insts, o.semi)))))), (roll-out-RdlDef d, parts_fit _ _ _ _ _ _ _ _ (sym (fits-roll o) ∙ e)))

definition_rule : (room more : ℕ) (inner inner' : Parser RdlToken (List RdlItem)) → Reading room more nexts (11 ∷ []) inner inner' (flat_list flat_item) (Holds (list_all fits_item))
    → Reading (suc room) (suc more) (30 ∷ 31 ∷ 32 ∷ 33 ∷ []) nexts (definition inner) (definition inner') flat_def (Holds fits_def)
unfolding definition
definition_rule room more inner inner' rule =
    as_rule make_def flat_def (Holds fits_def) (λ p h. (def_flat p, def_fits p h)) def_parts
    (then_step_rule refl (λ a h. omega arith) (kind_rule (suc room) (suc more)) (λ _. then_rule refl (any_name_rule room more)
    (λ n. then_rule refl (open_brace_rule room more nexts) (λ _. then_rule refl rule (λ _. then_rule refl (close_brace_rule room more (4 ∷ 14 ∷ [])) (λ _. ending_rule room more n))))))

-- ---- items

abbrev make_default : RdlToken × (RdlProp × RdlToken) → RdlItem
make_default p = item.Default p.0 p.1.0 p.1.1

abbrev FitsDefault : RdlItem → Type 0
FitsDefault = Image make_default (λ p. (is_text (codes "default") p.0 ≡ true) × ((fits_prop p.1.0 ≡ true) × (is_text (codes ";") p.1.1 ≡ true)))

default_prop_rule : (room more : ℕ) → Reading room more (35 ∷ []) nexts default_prop default_prop flat_item FitsDefault
unfolding default_prop
default_prop_rule room more =
    image_rule make_default flat_item (λ p h. flat-Default _ _ _) (then_rule refl (default_rule room more (4 ∷ [])) (λ _. then_rule refl (prop_rule room more) (λ _. semi_rule room more nexts)))

is_kind_word_sorted : Sorted is_kind_word (30 ∷ 31 ∷ 32 ∷ 33 ∷ [])
unfolding is_kind_word
is_kind_word_sorted =
    sorted_or _ _ (30 ∷ 31 ∷ 32 ∷ []) (33 ∷ []) (sorted_or _ _ (30 ∷ 31 ∷ []) (32 ∷ []) (sorted_or _ _ (30 ∷ []) (31 ∷ []) addrmap_sorted regfile_sorted) reg_sorted) field_sorted

begins_item_sorted : Sorted begins_item firsts
unfolding begins_item
begins_item_sorted =
    sorted_or _ _ (30 ∷ 31 ∷ 32 ∷ 33 ∷ 35 ∷ 34 ∷ []) (4 ∷ [])
    (sorted_or _ _ (30 ∷ 31 ∷ 32 ∷ 33 ∷ 35 ∷ []) (34 ∷ []) (sorted_or _ _ (30 ∷ 31 ∷ 32 ∷ 33 ∷ []) (35 ∷ []) is_kind_word_sorted default_sorted) enum_sorted) name_sorted

abbrev FitsAny : RdlItem → Type 0
FitsAny t = Image item.Def (Holds fits_def) t ⊎ (FitsDefault t ⊎ (Image item.Enum (Holds fits_enum) t ⊎ FitsNamed t))

abbrev Fitting : RdlItem → Type 0
Fitting t = fits_item t ≡ true

item_fits : (t : RdlItem) → FitsAny t → fits_item t ≡ true
item_fits t (inl (d, (e, h))) = subst Fitting e (fits-Def d ∙ h)
item_fits t (inr (inl (p, (e, h)))) = subst Fitting e (fits-Default _ _ _ ∙ and_both _ _ (and_both _ _ h.0 h.1.0) h.1.1)
item_fits t (inr (inr (inl (x, (e, h))))) = subst Fitting e (fits-Enum x ∙ h)
item_fits t (inr (inr (inr (p, (e, h))))) = subst Fitting e (named_fits p.0 p.1 h.0 h.1)

fits_items : (t : RdlItem) → fits_item t ≡ true → FitsAny t
fits_items =
    by_variant (λ t. fits_item t ≡ true → FitsAny t)
    (λ d h. inl (d, (refl, sym (fits-Def d) ∙ h)))
    (λ u h. let e = sym (fits-Use u) ∙ h in inr (inr (inr ((u.name, Use u.insts u.semi), (refl, (and_left _ _ (and_left _ _ e), (and_right _ _ (and_left _ _ e), and_right _ _ e)))))))
    (λ w p s h. let e = sym (fits-Default w p s) ∙ h in inr (inl ((w, (p, s)), (refl, (and_left _ _ (and_left _ _ e), (and_right _ _ (and_left _ _ e), and_right _ _ e))))))
    (λ p s h. let e = sym (fits-Prop p s) ∙ h in let e1 = and_left _ _ e in inr (inr (inr ((p.name, Prop p.value s), (refl, (and_left _ _ e1, (and_right _ _ e1, and_right _ _ e)))))))
    (λ q a p s h. let e = sym (fits-Dynamic q a p s) ∙ h in let e1 = and_left _ _ e in let e2 = and_left _ _ e1 in let e3 = and_left _ _ e2 in let e4 = and_left _ _ e3 in
    inr (inr (inr ((q.first.name, Path q.first.index q.more a p s), (refl, (and_left _ _ e4, (and_right _ _ e4, (and_right _ _ e3, (and_right _ _ e2, (and_right _ _ e1, and_right _ _ e))))))))))
    (λ x h. inr (inr (inl (x, (refl, sym (fits-Enum x) ∙ h)))))

item_rule : (room more : ℕ) (inner inner' : Parser RdlToken (List RdlItem)) → Reading room more nexts (11 ∷ []) inner inner' (flat_list flat_item) (Holds (list_all fits_item))
    → Reading (suc room) (suc more) firsts nexts (item_of inner) (item_of inner') flat_item (Holds fits_item)
unfolding item_of
item_rule room more inner inner' rule =
    fitting_rule (Holds fits_item) item_fits fits_items
    (or_rule is_kind_word (30 ∷ 31 ∷ 32 ∷ 33 ∷ []) is_kind_word_sorted refl refl refl (image_rule item.Def flat_item (λ d h. flat-Def d) (definition_rule room more inner inner' rule))
    (or_rule (is_text (codes "default")) (35 ∷ []) default_sorted refl refl refl (default_prop_rule (suc room) (suc more))
    (or_rule (is_text (codes "enum")) (34 ∷ []) enum_sorted refl refl refl (image_rule item.Enum flat_item (λ x h. flat-Enum x) (enumeration_rule (suc room) (suc more) nexts)) (named_rule (suc room) (suc more)))))

-- every item has a token
nonempty : (t : RdlItem) → fits_item t ≡ true → 0 < length (flat_item t)
nonempty =
    by_variant (λ t. fits_item t ≡ true → 0 < length (flat_item t))
    (λ d h. rw (flat-Def d) (def_nonempty d))
    (λ u h. rw (flat-Use u) (omega arith))
    (λ w p s h. rw (flat-Default w p s) (omega arith))
    (λ p s h. rw (flat-Prop p s) (omega arith))
    (λ q a p s h. rw (flat-Dynamic q a p s) (omega arith))
    (λ x h. rw (flat-Enum x) (omega arith))
  where
    def_nonempty : (d : RdlDef) → 0 < length (flat_def d)
    def_nonempty d = subst (λ x. 0 < length (flat_def x)) (roll-out-RdlDef d) (rw (flat-roll (out-RdlDef d)) (omega arith))

list_rule : (room more : ℕ) (inner inner' : Parser RdlToken (List RdlItem)) (N : List ℕ) → Reading room more nexts (11 ∷ []) inner inner' (flat_list flat_item) (Holds (list_all fits_item))
    → Reading (suc room) (suc more) nexts (11 ∷ 0 ∷ []) (many begins_item (item_of inner)) (many begins_item (item_of inner')) (flat_list flat_item) (Holds (list_all fits_item))
list_rule room more inner inner' N rule = each_rule begins_item firsts (11 ∷ 0 ∷ []) begins_item_sorted refl refl refl refl nonempty (item_rule room more inner inner' rule)

inside : {room more : ℕ} (p q : Parser RdlToken (List RdlItem)) → Reading room more nexts (11 ∷ 0 ∷ []) p q (flat_list flat_item) (Holds (list_all fits_item)) → Reading room more nexts (11 ∷ []) p q (flat_list flat_item) (Holds (list_all fits_item))
inside p q rule = wider_rule nexts (11 ∷ []) refl refl rule

pub items_rule : (room more : ℕ) → room ≤ more → Reading room more nexts (11 ∷ 0 ∷ []) (items room) (items more) (flat_list flat_item) (Holds (list_all fits_item))
unfolding items
items_rule zero zero le = record { rule = no_room_rule [] refl }
items_rule zero (suc more) le = let r = list_rule more more (items more) (items more) [] (inside _ _ (items_rule more more (omega arith))) in record { rule = sunk_rule r.rule }
items_rule (suc room) (suc more) le = list_rule room more (items room) (items more) [] (inside _ _ (items_rule room more (omega arith)))
items_rule (suc room) zero le = absurd (omega arith)
