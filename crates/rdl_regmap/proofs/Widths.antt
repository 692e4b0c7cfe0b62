-- What a property is given has as many bits as the property asks for.
use Rattle.std.proofs.Common.{◌≡◌, inl, inr, ℕ, ◌+◌, ◌<◌, ◌≤◌, Bool, true, false, ◌&&◌, ◌==◌, not, nat_lt, List, [], ◌∷◌, ◌++◌, length, length-append, map, take, Option, Some, None, is_some, refl, sym, ◌∙◌, ap, subst, arith, append-nil, append_assoc, if◌then◌else◌, codes}
use Rattle.std.specs.Prelude.{⊤}
use Rattle.std.specs.Option.{option_map, option_and_then}
use Rattle.std.proofs.lemmas.Bool.{cases_Bool, true≢false}
use Rattle.std.proofs.lemmas.Bool.Decides.{nat_tests}
use Rattle.std.proofs.lemmas.List.{map-append}
use Rattle.field_policies.specs.FieldPath.{Step, path_text}
use Rattle.rdl_tree.specs.declared.token.RdlToken.{RdlToken}
use Rattle.rdl_tree.specs.declared.tree.RdlIndex.{RdlIndex}
use Rattle.rdl_tree.specs.declared.tree.RdlRange.{RdlRange}
use Rattle.rdl_tree.specs.declared.tree.RdlStep.{RdlStep}
use Rattle.rdl_tree.specs.declared.tree.RdlNextStep.{RdlNextStep}
use Rattle.rdl_tree.specs.declared.tree.RdlPath.{RdlPath}
use Rattle.rdl_tree.specs.declared.tree.RdlProp.{RdlProp}
use Rattle.rdl_tree.specs.declared.tree.RdlAssigned.{RdlAssigned}
use Rattle.rdl_tree.specs.declared.tree.RdlSignal.{RdlSignal}
use Rattle.rdl_tree.specs.declared.tree.RdlValue.{RdlValue}
use Rattle.rdl_tree.specs.declared.tree.RdlValue.TheVariants as value
use Rattle.rdl_tree.specs.Tree.{is_text}
use Rattle.rdl_text.specs.declared.instance.Body.{Body}
use Rattle.rdl_text.specs.declared.property.Property.{Property}
use Rattle.rdl_text.specs.declared.property.Form.{Form}
use Rattle.rdl_text.specs.declared.property.Row.{Row}
use Rattle.rdl_text.specs.Components.{Component}
use Rattle.rdl_text.specs.Instances.{kind_of, is_field}
use Rattle.rdl_text.specs.Properties.{row_of}
use Rattle.rdl_text.specs.References.{reference_in}
use Rattle.rdl_values.specs.OneInstance.{Instance}
use Rattle.rdl_values.specs.OneFrame.{Target, Trail}
use Rattle.rdl_values.specs.Frames.{frame_of}
use Rattle.rdl_values.specs.Instances.{instances_of, elements_in, count_of}
use Rattle.rdl_values.specs.Values.{assigned_at, depth_at, is_set, is_array, is_index, names, fits_step, fit_steps, leads_along}
use Rattle.rdl_values.specs.Fields.{width_at, starts_known}
use Rattle.rdl_effects.specs.Bodies.{misreferred}
use Rattle.rdl_effects.specs.References.{index_in, is_element, instance_in, instance_by, frame_by, steps_on, path_from, facts_at, facts_by, has_bits, is_misfit, is_misreferred_to, is_misreferred_by, is_misreferred}
use Rattle.rdl_effects.specs.Registers.{accesswidth_at}
use Rattle.rdl_layout.specs.Bits.{bits_of}
use Rattle.rdl_layout.specs.Walks.{over}
use Rattle.rdl_fields.specs.declared.named.NamedExpr.{NamedExpr}
use Rattle.rdl_fields.specs.declared.named.NamedExpr.TheVariants as named
use Rattle.rdl_fields.specs.declared.named.NamedField.{NamedField}
use Rattle.rdl_fields.specs.Exprs.{reduced, expr_of, expr_given, expr_at}
use Rattle.rdl_fields.specs.Paths.{step_of, named_steps, path_at, target_of}
use Rattle.rdl_fields.specs.Registers.{field_in, fields_in, fields_by, fields_at, fields_below}
use Rattle.rdl_regmap.proofs.Has.{Has, has_flat, none_left, none_right}
use Rattle.rdl_regmap.proofs.Visits.{visit, at_visit, over_is}
use Rattle.rdl_regmap.proofs.Trails.{IsTrail, targets_in, IsVisited, visited}
use Rattle.rdl_regmap.proofs.Depths.{is_shallow}
use Rattle.rdl_regmap.proofs.Bodies.{FineComponent}
use Rattle.rdl_regmap.proofs.Instances.{no_place, no_right, yes_left, yes_right, held_by_no, no_by_not, same_bytes, instance_is, Along, steps_in, IsLed, led, along, joined, EndsInRegister, ends_in_register}
use Rattle.rdl_regmap.proofs.Names.{one_of_name}
use Rattle.rdl_regmap.proofs.Effective.{IsDynamic}
use Rattle.rdl_regmap.proofs.References.{LeadsToField, leads_to_field}
use Rattle.rdl_regmap.proofs.Givens.{IsClear, unrefused}

-- ---- the instance that a step names

first_element : (s : RdlStep) (is : List Instance) (i : Instance) → Has i is → is_element s i ≡ true → ((j : Instance) → Has j is → is_element s j ≡ true → j ≡ i) → instance_in s is ≡ Some i
first_element s [] i h e one = absurd h
first_element s (x ∷ xs) i h e one = elim (cases_Bool (is_element s x)) [
  | inl t ↦ rw t (ap (λ (z : Instance). Some z) (one x (inl refl) t))
  | inr t ↦ elim h [
    | inl q ↦ absurd (true≢false (sym (subst (λ (z : Instance). is_element s z ≡ true) q e) ∙ t))
    | inr r ↦ rw t (first_element s xs i r e (λ j k. one j (inr k)))
  ]
]

both_true : (a b : Bool) → a ≡ true → b ≡ true → (a && b) ≡ true
both_true true true e f = refl
both_true true false e f = cc
both_true false b e f = cc

index_is : (i : Instance) (k : ℕ) (o : Option RdlIndex) → k < count_of i → is_index (is_array (kind_of i.component) i.inst) k o ≡ true → index_in o ≡ k
index_is i k None lt e = by (is_field (kind_of i.component)) i.inst.range refl refl
  where
    by : (f : Bool) (r : Option RdlRange) → is_field (kind_of i.component) ≡ f → i.inst.range ≡ r → 0 ≡ k
    by true r u v = let a : k < 1 = subst (λ b. k < (if b then 1 else elements_in i.inst.range)) u lt in omega (arith, a)
    by false None u v = let a : k < 1 = subst (λ b. k < elements_in b) v (subst (λ b. k < (if b then 1 else elements_in i.inst.range)) u lt) in omega (arith, a)
    by false (Some x) u v = absurd (true≢false (sym (array_is (is_field (kind_of i.component)) i.inst.range u v) ∙ no_by_not _ e))
      where
        array_is : (f : Bool) (o : Option RdlRange) → f ≡ false → o ≡ Some x → (not f && is_some o) ≡ true
        array_is f o a b = rw (a, b) refl
index_is i k (Some x) lt e = let t : (x.number.value == k) ≡ true = yes_right (is_array (kind_of i.component) i.inst) _ e in grind (arith, nat_tests, t)

pub record IsNamed (d : Component) (s : RdlStep) (i : Instance) (k : ℕ) : Type 0 where
  pub index : index_in s.index ≡ k
  pub here : instance_by d s ≡ Some i

is_named : (d : Component) (s : RdlStep) (i : Instance) (k : ℕ) → FineComponent d → Has i (instances_of d) → k < count_of i → names s (kind_of i.component) i.inst k ≡ true → IsNamed d s i k
is_named d s i k fine h lt e =
    let n : index_in s.index ≡ k = index_is i k s.index lt (yes_right (is_text s.name.text i.inst.name) _ e) in
    let own : names s (kind_of i.component) i.inst (index_in s.index) ≡ true = subst (λ m. names s (kind_of i.component) i.inst m ≡ true) (sym n) e in
    let few : nat_lt (index_in s.index) (count_of i) ≡ true = grind (arith, nat_tests, n, lt) in
    let name : i.inst.name.text ≡ s.name.text = same_bytes _ _ (yes_left (is_text s.name.text i.inst.name) _ e) in
    record {
      index = n;
      here = first_element s (instances_of d) i h (both_true (names s (kind_of i.component) i.inst (index_in s.index)) _ own few) (λ j q t.
          one_of_name d j i fine q h (same_bytes _ _ (yes_left (is_text s.name.text j.inst.name) _ (yes_left (names s (kind_of j.component) j.inst (index_in s.index)) _ t)) ∙ sym name));
    }

-- ---- where a path leads

on_from : (t : Trail) (c : Component) (ns : List RdlNextStep) (fs : Trail) (d : Component) → FineComponent c → IsTrail c fs d → Along (steps_in ns) fs → steps_on t c ns ≡ Some (t ++ fs)
on_from t c [] fs d fine (IsTrail.here _) a = ap (λ (x : Trail). Some x) (sym (append-nil t))
on_from t c (n ∷ ns) fs d fine (IsTrail.here _) a = absurd a
on_from t c [] fs d fine (IsTrail.step _ i k r _ among lt more) a = absurd a
on_from t c (n ∷ ns) fs d fine (IsTrail.step _ i k r _ among lt more) a =
    let x : IsNamed c n.step i k = is_named c n.step i k fine among lt a.0 in
    ap (λ (o : Option Instance). option_and_then (λ (j : Instance). steps_on (t ++ frame_by c n.step j ∷ []) j.component ns) o) x.here
    ∙ ap (λ m. steps_on (t ++ frame_of (targets_in c) i m ∷ []) i.component ns) x.index
    ∙ on_from (t ++ frame_of (targets_in c) i k ∷ []) i.component ns r d (instance_is c i fine among).fine more a.1
    ∙ ap (λ (z : Trail). Some z) (append_assoc t (frame_of (targets_in c) i k ∷ []) r)

pub leads : (up : Trail) (c : Component) (path : RdlPath) (fs : Trail) (d : Component) → FineComponent c → IsTrail c fs d → Along (path.first ∷ steps_in path.more) fs → path_from up c path ≡ Some (up ++ fs)
leads up c path fs d fine (IsTrail.here _) a = absurd a
leads up c path fs d fine (IsTrail.step _ i k r _ among lt more) a =
    let x : IsNamed c path.first i k = is_named c path.first i k fine among lt a.0 in
    ap (λ (o : Option Instance). option_and_then (λ (j : Instance). steps_on (up ++ frame_by c path.first j ∷ []) j.component path.more) o) x.here
    ∙ ap (λ m. steps_on (up ++ frame_of (targets_in c) i m ∷ []) i.component path.more) x.index
    ∙ on_from (up ++ frame_of (targets_in c) i k ∷ []) i.component path.more r d (instance_is c i fine among).fine more a.1
    ∙ ap (λ (z : Trail). Some z) (append_assoc up (frame_of (targets_in c) i k ∷ []) r)

along_steps : (ns : List RdlNextStep) (fs : Trail) → fit_steps ns fs ≡ true → Along (steps_in ns) fs
along_steps [] [] e = tt
along_steps [] (f ∷ fs) e = cc
along_steps (n ∷ ns) [] e = cc
along_steps (n ∷ ns) (f ∷ fs) e = (yes_left (fits_step n.step f) _ e, along_steps ns fs (yes_right (fits_step n.step f) _ e))

along_path : (path : RdlPath) (fs : Trail) → leads_along path fs ≡ true → Along (path.first ∷ steps_in path.more) fs
along_path path [] e = cc
along_path path (f ∷ fs) e = (yes_left (fits_step path.first f) _ e, along_steps path.more fs (yes_right (fits_step path.first f) _ e))

-- ---- a field below the top, with its bits

pub record HasWide (t : Trail) (fields : List NamedField) : Type 0 where
  pub field : NamedField
  pub among : Has field fields
  pub named : field.path ≡ path_at t
  pub width : field.spot.width ≡ width_at t

wide_in : (register access : ℕ) (t : Trail) (targets : List Target) (next : ℕ) (is : List Instance) (i : Instance) → Has i is → HasWide (t ++ frame_of targets i 0 ∷ []) (fields_in register access t targets next is)
wide_in register access t targets next [] i h = absurd h
wide_in register access t targets next (j ∷ is) i h = elim h [
  | inl e ↦ record {
    field = field_in register access t targets j (bits_of t targets next j);
    among = inl refl;
    named = ap (λ (x : Instance). path_at (t ++ frame_of targets x 0 ∷ [])) (sym e);
    width = ap (λ (x : Instance). width_at (t ++ frame_of targets x 0 ∷ [])) (sym e);
  }
  | inr r ↦ let f : HasWide (t ++ frame_of targets i 0 ∷ []) (fields_in register access t targets (bits_of t targets next j).end is) = wide_in register access t targets (bits_of t targets next j).end is i r in
      record { field = f.field; among = inr f.among; named = f.named; width = f.width }
]

has_wide : (top : Component) (t : Trail) (d : Component) → IsClear top → IsTrail top t d → is_field (kind_of d) ≡ true → HasWide t (fields_below (Some top))
has_wide top t d clear way field =
    let e : EndsInRegister top t d = ends_in_register top t d clear.fine (ap is_field clear.kind) way field in
    let short : length e.before ≤ 64 = is_shallow top e.before e.register clear.few e.trail e.fieldless in
    let v : IsVisited e.before e.register (over visit 65 0 [] top) = visited 65 0 [] top e.before e.register e.trail e.fieldless (omega (arith, short)) in
    let f : HasWide (e.before ++ frame_of (targets_in e.register) e.instance 0 ∷ []) (fields_in v.at (accesswidth_at e.before) e.before (targets_in e.register) 0 (instances_of e.register)) =
    wide_in v.at (accesswidth_at e.before) e.before (targets_in e.register) 0 (instances_of e.register) e.instance e.among in
    let g : Has f.field (fields_at v.at e.before e.register) = subst (λ (k : Body). Has f.field (fields_by k v.at e.before e.register)) (sym e.kind) f.among in
    record {
      field = f.field;
      among = subst (λ (xs : List NamedField). Has f.field xs) (sym (over_is fields_at 65 0 [] top)) (has_flat (at_visit fields_at) f.field _ (over visit 65 0 [] top) v.among g);
      named = f.named ∙ ap path_at (sym e.ends);
      width = f.width ∙ ap width_at (sym e.ends);
    }

-- ---- what is referred to

none_misreferred : (t : Trail) (c : Component) (ts : List Target) (x : Target) → misreferred t c ts ≡ [] → Has x ts → is_misreferred t c x.path x.prop ≡ false
none_misreferred t c [] x none h = absurd h
none_misreferred t c (y ∷ ys) x none h = elim h [
  | inl e ↦ subst (λ (z : Target). is_misreferred t c z.path z.prop ≡ false) (sym e) (no_place _ _ (none_left _ _ none))
  | inr r ↦ none_misreferred t c ys x (none_right _ _ none) r
]

-- the field that is referred to has the bits that are asked for
pub record IsReferred (top : Component) (t : Trail) (q : Property) (x : RdlProp) (kind : Form) (path : RdlPath) : Type 0 where
  pub trail : Trail
  pub wide : HasWide trail (fields_below (Some top))
  pub named : path_at trail ≡ target_of (take (depth_at t q) t) path
  pub bits : has_bits kind x.value (facts_at t) (facts_at trail) ≡ true

pub referred_by : (top : Component) (t : Trail) (d : Component) (q : Property) (x : RdlProp) (row : Row) (path : RdlPath) → IsClear top → length t ≤ 65 → IsTrail top t d → (y : IsDynamic top t d q x) → row_of x.name.text ≡ Some row → reference_in row.form x.value ≡ Some path
    → IsReferred top t q x row.form path
referred_by top t d q x row path clear short way y named ref =
    let f : FineComponent y.body = along top y.body y.around clear.fine y.way in
    let g : Target = y.targeted.target in
    let row_is : row_of y.targeted.target.prop.name.text ≡ Some row = subst (λ (z : RdlProp). row_of z.name.text ≡ Some row) (sym y.targeted.prop) named in
    let ref_is : reference_in row.form y.targeted.target.prop.value ≡ Some path = subst (λ (z : RdlProp). reference_in row.form z.value ≡ Some path) (sym y.targeted.prop) ref in
    let l : LeadsToField y.body path = leads_to_field y.body y.targeted.target row path f y.targeted.among row_is ref_is in
    let s : IsLed y.body (named_steps path) (path.first ∷ steps_in path.more) l.field = led y.body path l.field l.lead in
    let to : path_from y.around y.body path ≡ Some (y.around ++ s.trail) = leads y.around y.body path s.trail l.field f s.way s.along in
    let own : path_from y.around y.body y.targeted.target.path ≡ Some (y.around ++ y.rest) = leads y.around y.body y.targeted.target.path y.rest d f y.onward (along_path y.targeted.target.path y.rest y.targeted.along) in
    let size : length t ≡ length y.around + length y.rest = ap length y.split ∙ length-append y.around y.rest in
    let none : misreferred y.around y.body (targets_in y.body) ≡ [] = none_right _ _ (unrefused top y.around y.body clear y.way (omega (arith, size, short))) in
    let out : is_misreferred y.around y.body y.targeted.target.path y.targeted.target.prop ≡ false = none_misreferred y.around y.body (targets_in y.body) y.targeted.target none y.targeted.among in
    let a : is_misreferred_to y.around y.body y.targeted.target.path row.form y.targeted.target.prop.value (reference_in row.form y.targeted.target.prop.value) ≡ false =
    subst (λ (o : Option Row). is_misreferred_by y.around y.body y.targeted.target.path y.targeted.target.prop.value o ≡ false) row_is out in
    let b : is_misfit row.form y.targeted.target.prop.value (facts_by y.around y.body y.targeted.target.path) (facts_by y.around y.body path) ≡ false =
    subst (λ (o : Option RdlPath). is_misreferred_to y.around y.body y.targeted.target.path row.form y.targeted.target.prop.value o ≡ false) ref_is a in
    let c : is_misfit row.form y.targeted.target.prop.value (Some (facts_at (y.around ++ y.rest))) (Some (facts_at (y.around ++ s.trail))) ≡ false =
    subst (λ (o : Option Trail). is_misfit row.form y.targeted.target.prop.value (option_map facts_at o) (Some (facts_at (y.around ++ s.trail))) ≡ false) own
    (subst (λ (o : Option Trail). is_misfit row.form y.targeted.target.prop.value (facts_by y.around y.body y.targeted.target.path) (option_map facts_at o) ≡ false) to b) in
    let e : has_bits row.form y.targeted.target.prop.value (facts_at (y.around ++ y.rest)) (facts_at (y.around ++ s.trail)) ≡ true = held_by_no _ (no_right (not (starts_known (y.around ++ s.trail))) _ c) in
    record {
      trail = y.around ++ s.trail;
      wide = has_wide top (y.around ++ s.trail) l.field clear (joined top y.body l.field y.around s.trail y.way s.way) l.kind;
      named = ap path_text (map-append step_of y.around s.trail ∙ ap (λ (xs : List Step). map step_of y.around ++ xs) s.named) ∙ ap (λ (z : Trail). target_of z path) (sym y.depth);
      bits = subst (λ (z : Trail). has_bits row.form x.value (facts_at z) (facts_at (y.around ++ s.trail)) ≡ true) (sym y.split)
          (subst (λ (z : RdlProp). has_bits row.form z.value (facts_at (y.around ++ y.rest)) (facts_at (y.around ++ s.trail)) ≡ true) y.targeted.prop e);
    }

-- ---- the reference that an expression comes from

pub record IsValueOf (t : Trail) (q : Property) (path : List ℕ) : Type 0 where
  pub prop : RdlProp
  pub given : RdlAssigned
  pub to : RdlPath
  pub assigned : assigned_at t q ≡ Some prop
  pub says : prop.value ≡ Some given
  pub reference : given.value ≡ value.Reference to None
  pub named : path ≡ target_of (take (depth_at t q) t) to

-- an expression that isn't an input, of a reference with or without a reduction
pub record IsReduced (t : Trail) (q : Property) : Type 0 where
  pub prop : RdlProp
  pub given : RdlAssigned
  pub to : RdlPath
  pub signal : RdlSignal
  pub assigned : assigned_at t q ≡ Some prop
  pub says : prop.value ≡ Some given
  pub reference : given.value ≡ value.Reference to (Some signal)

abbrev pub Source : Trail → Property → NamedExpr → Type 0
Source t q named.Input = ⊤
Source t q (named.Value path) = IsValueOf t q path
Source t q (named.Anded path) = IsReduced t q
Source t q (named.Ored path) = IsReduced t q
Source t q (named.Xored path) = IsReduced t q

reduced_source : (t : Trail) (q : Property) (s : RdlToken) (path : List ℕ) → IsReduced t q → Source t q (reduced s path)
unfolding reduced
reduced_source t q s path r = by (is_text (codes "anded") s) (is_text (codes "ored") s) refl refl
  where
    by : (a b : Bool) → is_text (codes "anded") s ≡ a → is_text (codes "ored") s ≡ b → Source t q (reduced s path)
    by true b u v = rw u r
    by false true u v = rw (u, v) r
    by false false u v = rw (u, v) r

source_of : (t : Trail) (q : Property) (x : RdlProp) (a : RdlAssigned) (v : RdlValue) → assigned_at t q ≡ Some x → x.value ≡ Some a → a.value ≡ v → Source t q (expr_of (take (depth_at t q) t) v)
source_of t q x a (value.Num n) u w z = tt
source_of t q x a (value.Str n) u w z = tt
source_of t q x a (value.True n) u w z = tt
source_of t q x a (value.False n) u w z = tt
source_of t q x a (value.Reference to None) u w z = record { prop = x; given = a; to = to; assigned = u; says = w; reference = z; named = refl }
source_of t q x a (value.Reference to (Some s)) u w z = reduced_source t q s.name (target_of (take (depth_at t q) t) to) (record { prop = x; given = a; to = to; signal = s; assigned = u; says = w; reference = z })

same_expr : (a b : NamedExpr) → Some a ≡ Some b → a ≡ b
same_expr a b e = cc

pub source : (t : Trail) (q : Property) (ne : NamedExpr) → expr_at t q ≡ Some ne → Source t q ne
source t q ne e = by (assigned_at t q) refl
  where
    given_source : (x : RdlProp) → assigned_at t q ≡ Some x → (o : Option RdlAssigned) → x.value ≡ o → Source t q (expr_given (take (depth_at t q) t) o)
    given_source x u None w = tt
    given_source x u (Some a) w = source_of t q x a a.value u w refl

    by : (o : Option RdlProp) → assigned_at t q ≡ o → Source t q ne
    by None u = let off = rw u at e in cc
    by (Some x) u = elim (cases_Bool (is_set (Some x))) [
      | inl s ↦ subst (Source t q) (same_expr _ _ (rw (u, s) at e)) (given_source x u x.value refl)
      | inr s ↦ let off = rw (u, s) at e in cc
    ]
