-- The instances of a component in whose text nothing is refused, and where paths lead from it.
use Rattle.std.proofs.Common.{◌≡◌, inl, inr, ℕ, ◌<◌, Bool, true, false, ◌&&◌, ◌||◌, not, List, [], ◌∷◌, ◌++◌, map, Option, Some, None, is_some, refl, sym, ◌∙◌, ap, subst, arith, if◌then◌else◌, bytes_eq}
use Rattle.std.specs.Prelude.{⊤}
use Rattle.std.proofs.lemmas.Bool.{cases_Bool, true≢false}
use Rattle.std.proofs.lemmas.Bool.Decides.{nat_tests}
use Rattle.std.proofs.lemmas.Slice.Eq.{bytes_eq-Decides}
use Rattle.bit_base.specs.declared.place.Place.{Place}
use Rattle.rdl_tree.specs.declared.tree.RdlItem.{RdlItem, out-RdlItem}
use Rattle.rdl_tree.specs.declared.tree.RdlItem.TheOpen.{RdlItem-F}
use Rattle.rdl_tree.specs.declared.tree.RdlDef.{RdlDef, out-RdlDef}
use Rattle.rdl_tree.specs.declared.tree.RdlInst.{RdlInst}
use Rattle.rdl_tree.specs.declared.tree.RdlInsts.{RdlInsts}
use Rattle.rdl_tree.specs.declared.tree.RdlNextInst.{RdlNextInst}
use Rattle.rdl_tree.specs.declared.tree.RdlStep.{RdlStep}
use Rattle.rdl_tree.specs.declared.tree.RdlNextStep.{RdlNextStep}
use Rattle.rdl_tree.specs.declared.tree.RdlPath.{RdlPath}
use Rattle.rdl_tree.specs.declared.tree.RdlIndex.{RdlIndex}
use Rattle.rdl_tree.specs.declared.tree.RdlRange.{RdlRange}
use Rattle.rdl_tree.specs.Tree.{is_text}
use Rattle.rdl_text.specs.declared.instance.Body.{Body}
use Rattle.rdl_text.specs.declared.instance.Body.TheVariants as body
use Rattle.rdl_text.specs.declared.text.Check.TheVariants as check
use Rattle.rdl_text.specs.Chains.{Chain}
use Rattle.rdl_text.specs.Components.{Component}
use Rattle.rdl_text.specs.Instances.{body_of, kind_of, is_field, holds, next_inst, inst_in, inst_of, names_element, entered, entered_by, step_from, step_on, steps_on, lead}
use Rattle.rdl_text.specs.Types.{type_of}
use Rattle.rdl_text.specs.Names.{place_if, can_be_top, is_out_of_place, is_defined_again}
use Rattle.rdl_text.specs.Forms.{misshaped, misshaped_next, misshaped_all}
use Rattle.rdl_values.specs.OneInstance.{Instance}
use Rattle.rdl_values.specs.OneFrame.{Trail}
use Rattle.rdl_values.specs.Instances.{next_with, all_with, any_with, used_with, instances_by, instances_from, instances_of, elements_in, count_of, top_by, top_from}
use Rattle.rdl_values.specs.Frames.{frame_of}
use Rattle.rdl_values.specs.Values.{is_index, fits_step}
use Rattle.rdl_effects.specs.References.{index_in}
use Rattle.rdl_fields.specs.Paths.{step_of, named_step, next_step, named_steps, step_by, index_of}
use Rattle.field_policies.specs.FieldPath.{Step}
use Rattle.rdl_regmap.proofs.Has.{OptionCase, option_case, Has, has_left, has_right, has_cases, none_left, none_right}
use Rattle.rdl_regmap.proofs.Trails.{IsTrail, targets_in, HasNoField}
use Rattle.rdl_regmap.proofs.Bodies.{Each, each_more, FineBody, InnerFine, NothingRefused, own_none, inner_fine, FineChain, chain_more, FineComponent, defined, fine_type}

-- ---- tests

pub no_place : (b : Bool) (p : Place) → place_if b p ≡ [] → b ≡ false
no_place true p e = cc
no_place false p e = refl

pub no_left : (a b : Bool) → (a || b) ≡ false → a ≡ false
no_left true b e = cc
no_left false b e = refl

pub no_right : (a b : Bool) → (a || b) ≡ false → b ≡ false
no_right true b e = cc
no_right false b e = e

pub yes_left : (a b : Bool) → (a && b) ≡ true → a ≡ true
yes_left true b e = refl
yes_left false b e = cc

pub yes_right : (a b : Bool) → (a && b) ≡ true → b ≡ true
yes_right true b e = e
yes_right false b e = cc

pub held_by_no : (b : Bool) → not b ≡ false → b ≡ true
held_by_no true e = refl
held_by_no false e = cc

pub no_by_not : (b : Bool) → not b ≡ true → b ≡ false
no_by_not true e = cc
no_by_not false e = refl

pub same_bytes : (a b : List ℕ) → bytes_eq a b ≡ true → a ≡ b
same_bytes a b e = (bytes_eq-Decides a b).0 e

-- ---- instances

pub record IsInstance (c : Component) (i : Instance) : Type 0 where
  pub fine : FineComponent i.component
  pub held : holds (kind_of c) (kind_of i.component) ≡ true
  pub shaped : misshaped (is_field (kind_of i.component)) i.inst ≡ []

-- those of one list have its component, and their shapes
record OfList (c : Component) (i : Instance) : Type 0 where
  component : i.component ≡ c
  shaped : misshaped (is_field (kind_of c)) i.inst ≡ []

of_next : (c : Component) (ns : List RdlNextInst) (i : Instance) → misshaped_next (is_field (kind_of c)) ns ≡ [] → Has i (next_with c ns) → OfList c i
of_next c [] i e h = absurd h
of_next c (n ∷ ns) i e h = elim h [
  | inl s ↦ subst (λ (j : Instance). OfList c j) (sym s) (record { component = refl; shaped = none_left (misshaped (is_field (kind_of c)) n.inst) _ e })
  | inr r ↦ of_next c ns i (none_right (misshaped (is_field (kind_of c)) n.inst) _ e) r
]

of_all : (c : Component) (is : RdlInsts) (i : Instance) → misshaped_all (is_field (kind_of c)) is ≡ [] → Has i (all_with c is) → OfList c i
of_all c is i e h = elim h [
  | inl s ↦ subst (λ (j : Instance). OfList c j) (sym s) (record { component = refl; shaped = none_left (misshaped (is_field (kind_of c)) is.first) _ e })
  | inr r ↦ of_next c is.more i (none_right (misshaped (is_field (kind_of c)) is.first) _ e) r
]

instance_of_list : (c d : Component) (i : Instance) → FineComponent d → holds (kind_of c) (kind_of d) ≡ true → OfList d i → IsInstance c i
instance_of_list c d i fine held o = record {
  fine = subst FineComponent (sym o.component) fine;
  held = subst (λ (x : Component). holds (kind_of c) (kind_of x) ≡ true) (sym o.component) held;
  shaped = subst (λ (x : Component). misshaped (is_field (kind_of x)) i.inst ≡ []) (sym o.component) o.shaped;
}

-- of one item
of_item : (c : Component) (items before : List RdlItem) (x : RdlItem) (i : Instance) → FineChain [] c.chain → Each (InnerFine c.chain) [] before → InnerFine c.chain before x
    → NothingRefused check.Names c.chain (kind_of c) items before x → NothingRefused check.Values c.chain (kind_of c) items before x
    → (y : RdlItem-F RdlItem RdlDef) → out-RdlItem x ≡ y → Has i (instances_by c.chain before y) → IsInstance c i
of_item c items before x i chain all here names values (RdlItem-F.Def d) is h = by (out-RdlDef d).insts refl
  where
    comp : Component
    comp = record { definition = d; chain = c.chain ++ before ∷ [] }

    by : (o : Option RdlInsts) → (out-RdlDef d).insts ≡ o → IsInstance c i
    by None e = absurd (subst (λ (o : Option RdlInsts). Has i (any_with comp o)) e h)
    by (Some insts) e =
        let n = rw is at names in
        let v = rw is at values in
        let out : (is_defined_again before (out-RdlDef d).name || is_out_of_place (kind_of c) (out-RdlDef d)) ≡ false = no_place _ _ (none_left _ _ n) in
        let o : (is_some (out-RdlDef d).insts && not (holds (kind_of c) (body_of (out-RdlDef d).kind))) ≡ false = no_right _ _ out in
        let held : holds (kind_of c) (body_of (out-RdlDef d).kind) ≡ true = held_by_no _ (rw e at o) in
        let shaped : misshaped_all (is_field (body_of (out-RdlDef d).kind)) insts ≡ [] = rw e at v in
        let among : Has i (all_with comp insts) = subst (λ (o : Option RdlInsts). Has i (any_with comp o)) e h in
        instance_of_list c comp i (defined c.chain before x d chain all here is) held (of_all comp insts i shaped among)
of_item c items before x i chain all here names values (RdlItem-F.Use u) is h = by (type_of (c.chain ++ before ∷ []) u.name.text) refl
  where
    by : (o : Option Component) → type_of (c.chain ++ before ∷ []) u.name.text ≡ o → IsInstance c i
    by None e = absurd (rw e at h)
    by (Some d) e =
        let n = rw (is, e) at names in
        let v = rw (is, e) at values in
        let held : holds (kind_of c) (kind_of d) ≡ true = held_by_no _ (no_place _ _ (none_left _ _ n)) in
        let among : Has i (all_with d u.insts) = rw e at h in
        instance_of_list c d i (fine_type (c.chain ++ before ∷ []) u.name.text d (chain_more [] c.chain before chain all) e) held (of_all d u.insts i v among)
of_item c items before x i chain all here names values (RdlItem-F.Enum n) is h = absurd h
of_item c items before x i chain all here names values (RdlItem-F.Default a b d) is h = absurd h
of_item c items before x i chain all here names values (RdlItem-F.Prop a b) is h = absurd h
of_item c items before x i chain all here names values (RdlItem-F.Dynamic a b d f) is h = absurd h

of_items : (c : Component) (items before xs : List RdlItem) (i : Instance) → FineChain [] c.chain → Each (InnerFine c.chain) [] before → Each (InnerFine c.chain) before xs
    → Each (NothingRefused check.Names c.chain (kind_of c) items) before xs → Each (NothingRefused check.Values c.chain (kind_of c) items) before xs
    → Has i (instances_from c.chain before xs) → IsInstance c i
of_items c items before [] i chain all more names values h = absurd h
of_items c items before (x ∷ xs) i chain all more names values h = elim (has_cases i (instances_by c.chain before (out-RdlItem x)) _ h) [
  | inl l ↦ of_item c items before x i chain all more.0 names.0 values.0 (out-RdlItem x) refl l
  | inr r ↦ of_items c items (before ++ x ∷ []) xs i chain (each_more (InnerFine c.chain) [] before x all more.0) more.1 names.1 values.1 r
]

pub instance_is : (c : Component) (i : Instance) → FineComponent c → Has i (instances_of c) → IsInstance c i
instance_is c i fine h =
    let items : List RdlItem = (out-RdlDef c.definition).items in
    of_items c (out-RdlDef c.definition).items [] (out-RdlDef c.definition).items i fine.around tt
    (inner_fine c.chain (kind_of c) (out-RdlDef c.definition).items fine.own)
    (own_none check.Names c.chain (kind_of c) (out-RdlDef c.definition).items fine.own)
    (own_none check.Values c.chain (kind_of c) (out-RdlDef c.definition).items fine.own) h

-- ---- the top

top_fine : (before xs : List RdlItem) (c : Component) → Each (InnerFine []) [] before → Each (InnerFine []) before xs → top_from before xs ≡ Some c → FineComponent c
top_fine before [] c all more e = cc
top_fine before (x ∷ xs) c all more e = elim (option_case (top_from (before ++ x ∷ []) xs)) [
  | OptionCase.IsNone t ↦ here (out-RdlItem x) refl (rw t at e)
  | OptionCase.IsSome m t ↦ top_fine (before ++ x ∷ []) xs c (each_more (InnerFine []) [] before x all more.0) more.1 (t ∙ (rw t at e))
]
  where
    here : (y : RdlItem-F RdlItem RdlDef) → out-RdlItem x ≡ y → top_by before y ≡ Some c → FineComponent c
    here (RdlItem-F.Def d) is q = by_top (can_be_top (RdlItem-F.Def d)) refl
      where
        some_is : (a b : Component) → Some a ≡ Some b → a ≡ b
        some_is a b r = cc

        by_top : (b : Bool) → can_be_top (RdlItem-F.Def d) ≡ b → FineComponent c
        by_top true t = subst FineComponent (some_is _ _ (rw t at q)) (defined [] before x d tt all more.0 is)
        by_top false t = let no = rw t at q in cc
    here (RdlItem-F.Use u) is q = cc
    here (RdlItem-F.Enum n) is q = cc
    here (RdlItem-F.Default a b d) is q = cc
    here (RdlItem-F.Prop a b) is q = cc
    here (RdlItem-F.Dynamic a b d f) is q = cc

pub top_is_fine : (items : List RdlItem) (c : Component) → FineBody [] body.File items → top_from [] items ≡ Some c → FineComponent c
top_is_fine items c fine e = top_fine [] items c tt (inner_fine [] body.File items fine) e

-- ---- a trail to a field ends in a register

pub along : (c d : Component) (t : Trail) → FineComponent c → IsTrail c t d → FineComponent d
along c d t fine (IsTrail.here _) = fine
along c d t fine (IsTrail.step _ i k s _ among lt more) = along i.component d s (instance_is c i fine among).fine more

pub joined : (c d e : Component) (s t : Trail) → IsTrail c s d → IsTrail d t e → IsTrail c (s ++ t) e
joined c d e s t (IsTrail.here _) more = more
joined c d e s t (IsTrail.step _ i k r _ among lt rest) more = IsTrail.step c i k (r ++ t) e among lt (joined i.component d e r t rest more)

holds_nothing : (k l : Body) → is_field k ≡ true → holds k l ≡ true → ⊥
holds_nothing body.File l f h = cc
holds_nothing body.Addrmap l f h = cc
holds_nothing body.Regfile l f h = cc
holds_nothing body.Reg l f h = cc
holds_nothing body.Field l f h = cc

holds_field : (k l : Body) → is_field l ≡ true → holds k l ≡ true → k ≡ body.Reg
holds_field k body.File f h = cc
holds_field k body.Addrmap f h = cc
holds_field k body.Regfile f h = cc
holds_field k body.Reg f h = cc
holds_field body.File body.Field f h = cc
holds_field body.Addrmap body.Field f h = cc
holds_field body.Regfile body.Field f h = cc
holds_field body.Reg body.Field f h = refl
holds_field body.Field body.Field f h = cc

pub record EndsInRegister (c : Component) (t : Trail) (d : Component) : Type 0 where
  pub before : Trail
  pub register : Component
  pub instance : Instance
  pub trail : IsTrail c before register
  pub fieldless : HasNoField before
  pub kind : kind_of register ≡ body.Reg
  pub among : Has instance (instances_of register)
  pub ends : t ≡ before ++ frame_of (targets_in register) instance 0 ∷ []
  pub component : d ≡ instance.component

no_elements : (i : Instance) (k : ℕ) → is_field (kind_of i.component) ≡ true → k < count_of i → k ≡ 0
no_elements i k f lt = let one : count_of i ≡ 1 = rw f refl in omega (arith, lt, one)

ends_here : (c : Component) (i : Instance) (k : ℕ) (r : Trail) (d x : Component) → x ≡ i.component → Has i (instances_of c) → k < count_of i → IsInstance c i → is_field (kind_of i.component) ≡ true
    → IsTrail x r d → EndsInRegister c (frame_of (targets_in c) i k ∷ r) d
ends_here c i k r d x e among lt inst f (IsTrail.here _) = record {
  before = [];
  register = c;
  instance = i;
  trail = IsTrail.here c;
  fieldless = tt;
  kind = holds_field (kind_of c) (kind_of i.component) f inst.held;
  among = among;
  ends = ap (λ (n : ℕ). frame_of (targets_in c) i n ∷ []) (no_elements i k f lt);
  component = e;
}
ends_here c i k r d x e among lt inst f (IsTrail.step _ j n q _ in_it below rest) =
    absurd (holds_nothing (kind_of i.component) (kind_of j.component) f (instance_is i.component j inst.fine (subst (λ (y : Component). Has j (instances_of y)) e in_it)).held)

pub ends_in_register : (c : Component) (t : Trail) (d : Component) → FineComponent c → is_field (kind_of c) ≡ false → IsTrail c t d → is_field (kind_of d) ≡ true → EndsInRegister c t d
ends_in_register c t d fine plain (IsTrail.here _) field = absurd (true≢false (sym field ∙ plain))
ends_in_register c t d fine plain (IsTrail.step _ i k s _ among lt more) field = elim (cases_Bool (is_field (kind_of i.component))) [
  | inl f ↦ ends_here c i k s d i.component refl among lt inst f more
  | inr f ↦
      let e : EndsInRegister i.component s d = ends_in_register i.component s d inst.fine f more field in
      record {
        before = frame_of (targets_in c) i k ∷ e.before;
        register = e.register;
        instance = e.instance;
        trail = IsTrail.step c i k e.before e.register among lt e.trail;
        fieldless = (f, e.fieldless);
        kind = e.kind;
        among = e.among;
        ends = ap (λ (x : Trail). frame_of (targets_in c) i k ∷ x) e.ends;
        component = e.component;
      }
]
  where
    inst : IsInstance c i
    inst = instance_is c i fine among

-- ---- where a path leads

record IsStep (s : RdlStep) (d : Component) (is : List Instance) : Type 0 where
  instance : Instance
  among : Has instance is
  component : instance.component ≡ d
  named : instance.inst.name.text ≡ s.name.text
  element : names_element (is_field (kind_of instance.component)) instance.inst.range s.index ≡ true

step_more : (s : RdlStep) (d : Component) (xs ys : List Instance) → IsStep s d ys → IsStep s d (xs ++ ys)
step_more s d xs ys h = record { instance = h.instance; among = has_right h.instance xs ys h.among; component = h.component; named = h.named; element = h.element }

step_here : (s : RdlStep) (d : Component) (xs ys : List Instance) → IsStep s d xs → IsStep s d (xs ++ ys)
step_here s d xs ys h = record { instance = h.instance; among = has_left h.instance xs ys h.among; component = h.component; named = h.named; element = h.element }

record InList (name : List ℕ) (c : Component) (i : RdlInst) (is : List Instance) : Type 0 where
  among : Has (record { inst = i; component = c }) is
  named : i.name.text ≡ name

some_inst : (a b : RdlInst) → Some a ≡ Some b → a ≡ b
some_inst a b q = cc

in_next : (name : List ℕ) (c : Component) (ns : List RdlNextInst) (i : RdlInst) → next_inst name ns ≡ Some i → InList name c i (next_with c ns)
in_next name c [] i e = cc
in_next name c (n ∷ ns) i e = elim (cases_Bool (is_text name n.inst.name)) [
  | inl t ↦
      let same : n.inst ≡ i = some_inst n.inst i (rw t at e) in
      record { among = inl (ap (λ (x : RdlInst). record { inst = x; component = c }) (sym same)); named = ap (λ (x : RdlInst). x.name.text) (sym same) ∙ same_bytes _ _ t }
  | inr t ↦ let r : InList name c i (next_with c ns) = in_next name c ns i (rw t at e) in record { among = inr r.among; named = r.named }
]

in_all : (name : List ℕ) (c : Component) (is : RdlInsts) (i : RdlInst) → inst_in name is ≡ Some i → InList name c i (all_with c is)
in_all name c is i e = by (is_text name is.first.name) refl
  where
    some_is : (a b : RdlInst) → Some a ≡ Some b → a ≡ b
    some_is a b q = cc

    by : (b : Bool) → is_text name is.first.name ≡ b → InList name c i (all_with c is)
    by true t =
        let same : is.first ≡ i = some_is is.first i (rw t at e) in
        record { among = inl (ap (λ (x : RdlInst). record { inst = x; component = c }) (sym same)); named = ap (λ (x : RdlInst). x.name.text) (sym same) ∙ same_bytes _ _ t }
    by false t = let r : InList name c i (next_with c is.more) = in_next name c is.more i (rw t at e) in record { among = inr r.among; named = r.named }

by_entering : (s : RdlStep) (c d : Component) (o : Option RdlInst) (is : List Instance) → ((i : RdlInst) → o ≡ Some i → InList s.name.text c i is) → entered s o (Some c) ≡ Some d → IsStep s d is
by_entering s c d None is all e = cc
by_entering s c d (Some i) is all e = by (names_element (is_field (kind_of c)) i.range s.index) refl
  where
    some_is : (a b : Component) → Some a ≡ Some b → a ≡ b
    some_is a b q = cc

    by : (b : Bool) → names_element (is_field (kind_of c)) i.range s.index ≡ b → IsStep s d is
    by true t = let l : InList s.name.text c i is = all i refl in record { instance = record { inst = i; component = c }; among = l.among; component = some_is c d (rw t at e); named = l.named; element = t }
    by false t = let no = rw t at e in cc

no_entering : (s : RdlStep) (d : Component) (o : Option RdlInst) → entered s o None ≡ Some d → ⊥
no_entering s d None e = cc
no_entering s d (Some i) e = cc

by_item : (outer : Chain) (before : List RdlItem) (s : RdlStep) (d : Component) (y : RdlItem-F RdlItem RdlDef) → entered_by outer before s y ≡ Some d → IsStep s d (instances_by outer before y)
by_item outer before s d (RdlItem-F.Def x) e = by (out-RdlDef x).insts refl
  where
    comp : Component
    comp = record { definition = x; chain = outer ++ before ∷ [] }

    by : (o : Option RdlInsts) → (out-RdlDef x).insts ≡ o → IsStep s d (any_with (record { definition = x; chain = outer ++ before ∷ [] }) (out-RdlDef x).insts)
    by None q = let no = subst (λ (o : Option RdlInsts). entered s (inst_of s.name.text o) (Some comp) ≡ Some d) q e in cc
    by (Some insts) q = subst (λ (o : Option RdlInsts). IsStep s d (any_with comp o)) (sym q)
        (by_entering s comp d (inst_in s.name.text insts) _ (in_all s.name.text comp insts) (subst (λ (o : Option RdlInsts). entered s (inst_of s.name.text o) (Some comp) ≡ Some d) q e))
by_item outer before s d (RdlItem-F.Use u) e = by (type_of (outer ++ before ∷ []) u.name.text) refl
  where
    by : (o : Option Component) → type_of (outer ++ before ∷ []) u.name.text ≡ o → IsStep s d (used_with (type_of (outer ++ before ∷ []) u.name.text) u.insts)
    by None q = absurd (no_entering s d (inst_in s.name.text u.insts) (rw q at e))
    by (Some c) q = rw q (by_entering s c d (inst_in s.name.text u.insts) _ (in_all s.name.text c u.insts) (rw q at e))
by_item outer before s d (RdlItem-F.Enum n) e = cc
by_item outer before s d (RdlItem-F.Default a b f) e = cc
by_item outer before s d (RdlItem-F.Prop a b) e = cc
by_item outer before s d (RdlItem-F.Dynamic a b f g) e = cc

by_items : (outer : Chain) (before xs : List RdlItem) (s : RdlStep) (d : Component) → step_from outer before s xs ≡ Some d → IsStep s d (instances_from outer before xs)
by_items outer before [] s d e = cc
by_items outer before (x ∷ xs) s d e = elim (option_case (entered_by outer before s (out-RdlItem x))) [
  | OptionCase.IsNone q ↦ step_more s d (instances_by outer before (out-RdlItem x)) _ (by_items outer (before ++ x ∷ []) xs s d (rw q at e))
  | OptionCase.IsSome f q ↦ step_here s d (instances_by outer before (out-RdlItem x)) _ (by_item outer before s d (out-RdlItem x) (q ∙ (rw q at e)))
]

-- the element that a step names
element_is : (of_field : Bool) (range : Option RdlRange) (index : Option RdlIndex) → names_element of_field range index ≡ true
    → ((if (not of_field && is_some range) then Some (index_in index) else None) ≡ Rattle.std.specs.Option.option_map (λ (i : RdlIndex). i.number.value) index)
    × (index_in index < (if of_field then 1 else elements_in range))
    × (is_index (not of_field && is_some range) (index_in index) index ≡ true)
element_is true None None e = (refl, omega arith, refl)
element_is false None None e = (refl, omega arith, refl)
element_is f None (Some k) e = cc
element_is true (Some r) None e = (refl, omega arith, refl)
element_is false (Some r) None e = cc
element_is true (Some r) (Some k) e = cc
element_is false (Some r) (Some k) e = (refl, grind (arith, nat_tests, e), grind (arith, nat_tests))

-- the steps name the frames one by one
abbrev pub Along : List RdlStep → Trail → Type 0
Along [] [] = ⊤
Along (s ∷ ss) (f ∷ fs) = (fits_step s f ≡ true) × Along ss fs
Along _ _ = ⊥

abbrev pub steps_in : List RdlNextStep → List RdlStep
steps_in [] = []
steps_in (n ∷ ns) = n.step ∷ steps_in ns

pub record IsLed (c : Component) (steps : List Step) (rs : List RdlStep) (d : Component) : Type 0 where
  pub trail : Trail
  pub way : IsTrail c trail d
  pub named : map step_of trail ≡ steps
  pub along : Along rs trail

both_true : (a b : Bool) → a ≡ true → b ≡ true → (a && b) ≡ true
both_true true true e f = refl
both_true true false e f = cc
both_true false b e f = cc

one_step : (c d e : Component) (s : RdlStep) (steps : List Step) (rs : List RdlStep) → IsStep s d (instances_of c) → IsLed d steps rs e → IsLed c (named_step s ∷ steps) (s ∷ rs) e
one_step c d e s steps rs h led =
    let n = element_is (is_field (kind_of h.instance.component)) h.instance.inst.range s.index h.element in
    record {
      trail = frame_of (targets_in c) h.instance (index_in s.index) ∷ led.trail;
      way = IsTrail.step c h.instance (index_in s.index) led.trail e h.among n.1 (subst (λ (x : Component). IsTrail x led.trail e) (sym h.component) led.way);
      named = ap (λ (x : Step). x ∷ map step_of led.trail) (ap (λ (o : Option ℕ). step_by h.instance.inst.name.text o) n.0 ∙ ap (λ (t : List ℕ). step_by t (index_of s)) h.named)
          ∙ ap (λ (xs : List Step). named_step s ∷ xs) led.named;
      along = (both_true (is_text s.name.text h.instance.inst.name) _ ((bytes_eq-Decides h.instance.inst.name.text s.name.text).1 h.named) n.2, led.along);
    }

no_steps : (ns : List RdlNextStep) → steps_on None ns ≡ None
no_steps [] = refl
no_steps (n ∷ ns) = no_steps ns

led_on : (c : Component) (ns : List RdlNextStep) (e : Component) → steps_on (Some c) ns ≡ Some e → IsLed c (map next_step ns) (steps_in ns) e
led_on c [] e q = record { trail = []; way = subst (λ (x : Component). IsTrail c [] x) (some_is c e q) (IsTrail.here c); named = refl; along = tt }
  where
    some_is : (a b : Component) → Some a ≡ Some b → a ≡ b
    some_is a b r = cc
led_on c (n ∷ ns) e q = elim (option_case (step_on n.step (Some c))) [
  | OptionCase.IsNone t ↦ let no = sym (no_steps ns) ∙ (rw t at q) in cc
  | OptionCase.IsSome d t ↦ one_step c d e n.step (map next_step ns) (steps_in ns) (by_items c.chain [] (out-RdlDef c.definition).items n.step d t) (led_on d ns e (rw t at q))
]

pub led : (c : Component) (path : RdlPath) (e : Component) → lead c.chain (out-RdlDef c.definition).items path ≡ Some e → IsLed c (named_steps path) (path.first ∷ steps_in path.more) e
led c path e q = by (step_from c.chain [] path.first (out-RdlDef c.definition).items) refl
  where
    by : (o : Option Component) → step_from c.chain [] path.first (out-RdlDef c.definition).items ≡ o → IsLed c (named_steps path) (path.first ∷ steps_in path.more) e
    by None t = let no = sym (no_steps path.more) ∙ (rw t at q) in cc
    by (Some d) t = one_step c d e path.first (map next_step path.more) (steps_in path.more) (by_items c.chain [] (out-RdlDef c.definition).items path.first d t) (led_on d path.more e (rw t at q))
