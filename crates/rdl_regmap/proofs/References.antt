-- What a reference names is there: where nothing is refused in the text, it leads to a field below the top.
use Rattle.std.proofs.Common.{◌≡◌, ◌⊎◌, inl, inr, ℕ, zero, suc, ◌+◌, ◌<◌, ◌≤◌, Bool, true, false, ◌&&◌, ◌||◌, not, List, [], ◌∷◌, ◌++◌, length, map, take, Option, Some, None, is_some, refl, sym, ◌∙◌, ap, subst, arith, if◌then◌else◌}
use Rattle.std.proofs.lemmas.List.{map-append}
use Rattle.rdl_tree.specs.declared.tree.RdlItem.{RdlItem, out-RdlItem}
use Rattle.rdl_tree.specs.declared.tree.RdlItem.TheOpen.{RdlItem-F}
use Rattle.rdl_tree.specs.declared.tree.RdlDef.{RdlDef, out-RdlDef}
use Rattle.rdl_tree.specs.declared.tree.RdlPath.{RdlPath}
use Rattle.rdl_tree.specs.declared.tree.RdlProp.{RdlProp}
use Rattle.rdl_text.specs.declared.instance.Body.{Body}
use Rattle.rdl_text.specs.declared.property.Property.{Property}
use Rattle.rdl_text.specs.declared.property.Row.{Row}
use Rattle.rdl_text.specs.declared.text.Check.TheVariants as check
use Rattle.rdl_text.specs.Chains.{Chain}
use Rattle.rdl_text.specs.Components.{Component}
use Rattle.rdl_text.specs.Instances.{kind_of, is_field, lead}
use Rattle.rdl_text.specs.Properties.{row_of}
use Rattle.rdl_text.specs.References.{reference_in}
use Rattle.rdl_text.specs.Names.{is_file, owns, is_of_field, is_misled}
use Rattle.rdl_values.specs.OneInstance.{Instance}
use Rattle.rdl_values.specs.OneFrame.{Target, Trail}
use Rattle.rdl_values.specs.Instances.{instances_of}
use Rattle.rdl_values.specs.Frames.{target_by, targets_of, frame_of}
use Rattle.rdl_effects.specs.Registers.{accesswidth_at}
use Rattle.rdl_layout.specs.Bits.{bits_of}
use Rattle.rdl_layout.specs.Walks.{over}
use Rattle.rdl_fields.specs.declared.named.NamedField.{NamedField}
use Rattle.rdl_fields.specs.Paths.{step_of, named_steps, path_at, target_of}
use Rattle.rdl_fields.specs.Registers.{field_in, fields_in, fields_by, fields_at, fields_below}
use Rattle.field_policies.specs.FieldPath.{Step, path_text}
use Rattle.rdl_regmap.proofs.Has.{Has, has_cases, has_flat}
use Rattle.rdl_regmap.proofs.Visits.{visit, at_visit, over_is}
use Rattle.rdl_regmap.proofs.Trails.{IsTrail, targets_in, IsVisited, visited}
use Rattle.rdl_regmap.proofs.Depths.{is_shallow}
use Rattle.rdl_regmap.proofs.Bodies.{Each, NothingRefused, own_none, FineComponent}
use Rattle.rdl_regmap.proofs.Instances.{no_place, no_right, held_by_no, steps_in, IsLed, led, along, joined, EndsInRegister, ends_in_register}
use Rattle.rdl_regmap.proofs.Effective.{IsDynamic}

-- ---- assignments to paths

misled_by : (outer : Chain) (kind : Body) (items before : List RdlItem) (x : RdlItem) (t : Target) → NothingRefused check.Names outer kind items before x
    → (y : RdlItem-F RdlItem RdlDef) → out-RdlItem x ≡ y → Has t (target_by y) → is_misled outer items t.path t.prop ≡ false
misled_by outer kind items before x t none (RdlItem-F.Def d) is h = absurd h
misled_by outer kind items before x t none (RdlItem-F.Use u) is h = absurd h
misled_by outer kind items before x t none (RdlItem-F.Enum n) is h = absurd h
misled_by outer kind items before x t none (RdlItem-F.Default a b d) is h = absurd h
misled_by outer kind items before x t none (RdlItem-F.Prop a b) is h = absurd h
misled_by outer kind items before x t none (RdlItem-F.Dynamic path arrow prop semi) is h = elim h [
  | inl e ↦
      let n = rw is at none in
      let no : is_misled outer items path prop ≡ false = no_right (is_file kind) _ (no_place _ _ n) in
      subst (λ (z : Target). is_misled outer items z.path z.prop ≡ false) (sym e) no
  | inr r ↦ absurd r
]

misled_in : (outer : Chain) (kind : Body) (items before xs : List RdlItem) (t : Target) → Each (NothingRefused check.Names outer kind items) before xs → Has t (targets_of xs) → is_misled outer items t.path t.prop ≡ false
misled_in outer kind items before [] t all h = absurd h
misled_in outer kind items before (x ∷ xs) t all h = elim (has_cases t (target_by (out-RdlItem x)) (targets_of xs) h) [
  | inl l ↦ misled_by outer kind items before x t all.0 (out-RdlItem x) refl l
  | inr r ↦ misled_in outer kind items (before ++ x ∷ []) xs t all.1 r
]

pub not_misled : (c : Component) (t : Target) → FineComponent c → Has t (targets_in c) → is_misled c.chain (out-RdlDef c.definition).items t.path t.prop ≡ false
not_misled c t fine h = misled_in c.chain (kind_of c) (out-RdlDef c.definition).items [] (out-RdlDef c.definition).items t (own_none check.Names c.chain (kind_of c) (out-RdlDef c.definition).items fine.own) h

-- ---- a reference leads to a field

pub record LeadsToField (c : Component) (path : RdlPath) : Type 0 where
  pub field : Component
  pub lead : lead c.chain (out-RdlDef c.definition).items path ≡ Some field
  pub kind : is_field (kind_of field) ≡ true

found_field : (c : Component) (path : RdlPath) (o : Option Component) → lead c.chain (out-RdlDef c.definition).items path ≡ o → is_of_field o ≡ true → LeadsToField c path
found_field c path None e h = cc
found_field c path (Some d) e h = record { field = d; lead = e; kind = h }

pub leads_to_field : (c : Component) (t : Target) (row : Row) (path : RdlPath) → FineComponent c → Has t (targets_in c) → row_of t.prop.name.text ≡ Some row → reference_in row.form t.prop.value ≡ Some path
    → LeadsToField c path
leads_to_field c t row path fine h named ref = by (lead c.chain (out-RdlDef c.definition).items t.path) refl
  where
    by : (o : Option Component) → lead c.chain (out-RdlDef c.definition).items t.path ≡ o → LeadsToField c path
    by None e = let no = rw e at (not_misled c t fine h) in cc
    by (Some d) e =
        let m = rw (e, named, ref) at (not_misled c t fine h) in
        let l : not (is_of_field (lead c.chain (out-RdlDef c.definition).items path)) ≡ false = no_right (not (owns row.owner (kind_of d))) _ m in
        found_field c path (lead c.chain (out-RdlDef c.definition).items path) refl (held_by_no _ l)

-- ---- each field below the top is one of the description's

pub record HasField (path : List ℕ) (fields : List NamedField) : Type 0 where
  pub field : NamedField
  pub among : Has field fields
  pub named : field.path ≡ path

field_of : (register access : ℕ) (t : Trail) (targets : List Target) (next : ℕ) (is : List Instance) (i : Instance) → Has i is
    → HasField (path_at (t ++ frame_of targets i 0 ∷ [])) (fields_in register access t targets next is)
field_of register access t targets next [] i h = absurd h
field_of register access t targets next (j ∷ is) i h = elim h [
  | inl e ↦ record { field = field_in register access t targets j (bits_of t targets next j); among = inl refl; named = ap (λ (x : Instance). path_at (t ++ frame_of targets x 0 ∷ [])) (sym e) }
  | inr r ↦
      let f : HasField (path_at (t ++ frame_of targets i 0 ∷ [])) (fields_in register access t targets (bits_of t targets next j).end is) = field_of register access t targets (bits_of t targets next j).end is i r in
      record { field = f.field; among = inr f.among; named = f.named }
]

pub has_field : (top : Component) (t : Trail) (d : Component) → FineComponent top → is_field (kind_of top) ≡ false → Rattle.std.proofs.Common.nat_lt 1048576 (Rattle.rdl_effects.specs.Limits.number_in 64 top) ≡ false
    → IsTrail top t d → is_field (kind_of d) ≡ true → HasField (path_at t) (fields_below (Some top))
has_field top t d fine plain few way field =
    let e : EndsInRegister top t d = ends_in_register top t d fine plain way field in
    let short : length e.before ≤ 64 = is_shallow top e.before e.register few e.trail e.fieldless in
    let v : IsVisited e.before e.register (over visit 65 0 [] top) = visited 65 0 [] top e.before e.register e.trail e.fieldless (omega (arith, short)) in
    let f : HasField (path_at (e.before ++ frame_of (targets_in e.register) e.instance 0 ∷ [])) (fields_in v.at (accesswidth_at e.before) e.before (targets_in e.register) 0 (instances_of e.register)) =
    field_of v.at (accesswidth_at e.before) e.before (targets_in e.register) 0 (instances_of e.register) e.instance e.among in
    let g : Has f.field (fields_at v.at e.before e.register) = subst (λ (k : Body). Has f.field (fields_by k v.at e.before e.register)) (sym e.kind) f.among in
    record {
      field = f.field;
      among = subst (λ (xs : List NamedField). Has f.field xs) (sym (over_is fields_at 65 0 [] top)) (has_flat (at_visit fields_at) f.field _ (over visit 65 0 [] top) v.among g);
      named = f.named ∙ ap path_at (sym e.ends);
    }

-- ---- what an assignment in effect refers to

pub refers : (top : Component) (t : Trail) (d : Component) (q : Property) (x : RdlProp) (row : Row) (path : RdlPath) → FineComponent top → is_field (kind_of top) ≡ false
    → Rattle.std.proofs.Common.nat_lt 1048576 (Rattle.rdl_effects.specs.Limits.number_in 64 top) ≡ false
    → (y : IsDynamic top t d q x) → row_of x.name.text ≡ Some row → reference_in row.form x.value ≡ Some path
    → HasField (target_of y.around path) (fields_below (Some top))
refers top t d q x row path fine plain few y named ref =
    let f : FineComponent y.body = along top y.body y.around fine y.way in
    let l : LeadsToField y.body path =
    leads_to_field y.body y.targeted.target row path f y.targeted.among
    (subst (λ (z : RdlProp). row_of z.name.text ≡ Some row) (sym y.targeted.prop) named)
    (subst (λ (z : RdlProp). reference_in row.form z.value ≡ Some path) (sym y.targeted.prop) ref) in
    let s : IsLed y.body (named_steps path) (path.first ∷ steps_in path.more) l.field = led y.body path l.field l.lead in
    let h : HasField (path_at (y.around ++ s.trail)) (fields_below (Some top)) = has_field top (y.around ++ s.trail) l.field fine plain few (joined top y.body l.field y.around s.trail y.way s.way) l.kind in
    record {
      field = h.field;
      among = h.among;
      named = h.named ∙ ap path_text (map-append step_of y.around s.trail ∙ ap (λ (xs : List Step). map step_of y.around ++ xs) s.named);
    }
