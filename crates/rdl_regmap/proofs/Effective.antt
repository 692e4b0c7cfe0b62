-- Effective values: where an assignment in effect stands, and what it may say.
use Rattle.std.proofs.Common.{◌≡◌, inl, inr, ℕ, suc, Bool, true, false, ◌&&◌, List, [], ◌∷◌, ◌++◌, take, Option, Some, None, is_some, refl, ◌∙◌, ap, subst, if◌then◌else◌}
use Rattle.std.specs.Option.{option_and_then}
use Rattle.rdl_tree.specs.declared.token.RdlToken.{RdlToken}
use Rattle.rdl_tree.specs.declared.tree.RdlProp.{RdlProp}
use Rattle.rdl_tree.specs.declared.tree.RdlAssigned.{RdlAssigned}
use Rattle.rdl_tree.specs.declared.tree.RdlValue.{RdlValue}
use Rattle.rdl_tree.specs.declared.tree.RdlValue.TheVariants as value
use Rattle.rdl_text.specs.declared.property.Property.{Property}
use Rattle.rdl_text.specs.declared.property.Form.{Form}
use Rattle.rdl_text.specs.Lists.{or_else}
use Rattle.rdl_text.specs.Components.{Component}
use Rattle.rdl_text.specs.Properties.{row_of}
use Rattle.rdl_text.specs.Assignments.{is_property}
use Rattle.rdl_text.specs.Forms.{takes, takes_assigned}
use Rattle.rdl_values.specs.OneFrame.{Target, Frame, Trail}
use Rattle.rdl_values.specs.Values.{here_of, leads_along, assigned_in, last_in, target_in, dynamic_at, depth_at, own_at, default_at, takes_by, right, assigned_at, number_in, number_at}
use Rattle.rdl_values.specs.Frames.{frame_of}
use Rattle.std.proofs.lemmas.Bool.{cases_Bool}
use Rattle.rdl_regmap.proofs.Has.{OptionCase, option_case, Has}
use Rattle.rdl_regmap.proofs.Trails.{IsTrail, targets_in}
use Rattle.rdl_regmap.proofs.Instances.{yes_left, yes_right}
use Rattle.rdl_regmap.proofs.Forms.{IsRowOf, row_is, fits_form}

some_prop : (a b : RdlProp) → Some a ≡ Some b → a ≡ b
some_prop a b e = cc

-- ---- each is one of the property

assigned_is : (q : Property) (xs : List RdlProp) (x : RdlProp) → assigned_in q xs ≡ Some x → is_property q x ≡ true
assigned_is q [] x e = cc
assigned_is q (y ∷ ys) x e = elim (cases_Bool (is_property q y)) [
  | inl t ↦ subst (λ (z : RdlProp). is_property q z ≡ true) (some_prop y x (rw t at e)) t
  | inr t ↦ assigned_is q ys x (rw t at e)
]

last_is : (q : Property) (xs : List RdlProp) (x : RdlProp) → last_in q xs ≡ Some x → is_property q x ≡ true
last_is q [] x e = cc
last_is q (y ∷ ys) x e = elim (option_case (last_in q ys)) [
  | OptionCase.IsSome z t ↦ last_is q ys x (t ∙ (rw t at e))
  | OptionCase.IsNone t ↦ elim (cases_Bool (is_property q y)) [
    | inl u ↦ subst (λ (z : RdlProp). is_property q z ≡ true) (some_prop y x (rw (t, u) at e)) u
    | inr u ↦ let no = rw (t, u) at e in cc
  ]
]

own_is : (t : Trail) (q : Property) (x : RdlProp) → own_at t q ≡ Some x → is_property q x ≡ true
own_is t q x e = by (here_of t) refl
  where
    by : (o : Option Frame) → here_of t ≡ o → is_property q x ≡ true
    by None f = let no = rw f at e in cc
    by (Some y) f = assigned_is q y.own x (rw f at e)

default_is : (t : Trail) (q : Property) (x : RdlProp) → default_at t q ≡ Some x → is_property q x ≡ true
default_is t q x e = by (here_of t) refl
  where
    by : (o : Option Frame) → here_of t ≡ o → is_property q x ≡ true
    by None f = let no = rw f at e in cc
    by (Some y) f = last_is q y.defaults x (rw f at e)

-- ---- an assignment to a path

pub record IsTargeted (q : Property) (frames : Trail) (targets : List Target) (x : RdlProp) : Type 0 where
  pub target : Target
  pub among : Has target targets
  pub prop : target.prop ≡ x
  pub along : leads_along target.path frames ≡ true
  pub property : is_property q x ≡ true

targeted : (q : Property) (frames : Trail) (ts : List Target) (x : RdlProp) → target_in q frames ts ≡ Some x → IsTargeted q frames ts x
targeted q frames [] x e = cc
targeted q frames (t ∷ ts) x e = elim (cases_Bool (is_property q t.prop && leads_along t.path frames)) [
  | inl u ↦
      let same : t.prop ≡ x = some_prop t.prop x (rw u at e) in
      record {
        target = t;
        among = inl refl;
        prop = same;
        along = yes_right (is_property q t.prop) (leads_along t.path frames) u;
        property = subst (λ (z : RdlProp). is_property q z ≡ true) same (yes_left (is_property q t.prop) (leads_along t.path frames) u);
      }
  | inr u ↦ let r : IsTargeted q frames ts x = targeted q frames ts x (rw u at e) in record { target = r.target; among = inr r.among; prop = r.prop; along = r.along; property = r.property }
]

-- where on a way it stands: in the body of a component on it, behind the instances that `depth_at` counts
pub record IsDynamic (c : Component) (t : Trail) (d : Component) (q : Property) (x : RdlProp) : Type 0 where
  pub around : Trail
  pub body : Component
  pub rest : Trail
  pub split : t ≡ around ++ rest
  pub depth : take (depth_at t q) t ≡ around
  pub way : IsTrail c around body
  pub onward : IsTrail body rest d
  pub targeted : IsTargeted q rest (targets_in body) x

pub dynamic : (c : Component) (t : Trail) (d : Component) (q : Property) (x : RdlProp) → IsTrail c t d → dynamic_at t q ≡ Some x → IsDynamic c t d q x
dynamic c t d q x (IsTrail.here _) e = cc
dynamic c t d q x (IsTrail.step _ i k s _ among lt more) e =
    let f : Frame = frame_of (targets_in c) i k in
    elim (option_case (target_in q (f ∷ s) (targets_in c))) [
      | OptionCase.IsSome y u ↦ record {
        around = [];
        body = c;
        rest = f ∷ s;
        split = refl;
        depth = ap (λ (o : Option RdlProp). take (if is_some o then 0 else suc (depth_at s q)) (f ∷ s)) u;
        way = IsTrail.here c;
        onward = IsTrail.step c i k s d among lt more;
        targeted = targeted q (f ∷ s) (targets_in c) x (u ∙ (rw u at e));
      }
      | OptionCase.IsNone u ↦
          let r : IsDynamic i.component s d q x = dynamic i.component s d q x more (rw u at e) in
          record {
            around = f ∷ r.around;
            body = r.body;
            rest = r.rest;
            split = ap (λ (z : Trail). f ∷ z) r.split;
            depth = ap (λ (o : Option RdlProp). take (if is_some o then 0 else suc (depth_at s q)) (f ∷ s)) u ∙ ap (λ (z : Trail). f ∷ z) r.depth;
            way = IsTrail.step c i k r.around r.body among lt r.way;
            onward = r.onward;
            targeted = r.targeted;
          }
    ]

-- ---- the one in effect

pub record IsTaken (t : Trail) (q : Property) (x : RdlProp) : Type 0 where
  pub property : is_property q x ≡ true
  pub of : IsRowOf q x
  -- a reference stands in an assignment to a path alone
  pub referable : Bool
  pub takes : takes_assigned referable of.row.form x.value ≡ true
  pub dynamic : referable ≡ true → dynamic_at t q ≡ Some x

right_is : (referable : Bool) (y x : RdlProp) → right referable y ≡ Some x → (y ≡ x) × (takes_by referable (row_of x.name.text) x ≡ true)
right_is referable y x e = by (takes_by referable (row_of y.name.text) y) refl
  where
    by : (b : Bool) → takes_by referable (row_of y.name.text) y ≡ b → (y ≡ x) × (takes_by referable (row_of x.name.text) x ≡ true)
    by true t = let same : y ≡ x = some_prop y x (rw t at e) in (same, subst (λ (z : RdlProp). takes_by referable (row_of z.name.text) z ≡ true) same t)
    by false t = let no = rw t at e in cc

taken_by : (t : Trail) (q : Property) (x : RdlProp) (referable : Bool) → is_property q x ≡ true → takes_by referable (row_of x.name.text) x ≡ true → (referable ≡ true → dynamic_at t q ≡ Some x) → IsTaken t q x
taken_by t q x referable is takes dyn =
    let o : IsRowOf q x = row_is q x is in
    record { property = is; of = o; referable = referable; takes = rw o.named at takes; dynamic = dyn }

pub taken : (t : Trail) (q : Property) (x : RdlProp) → (c d : Component) → IsTrail c t d → assigned_at t q ≡ Some x → IsTaken t q x
taken t q x c d way e = by (dynamic_at t q) refl
  where
    other : (o : Option RdlProp) → or_else (own_at t q) (default_at t q) ≡ o → option_and_then (right false) o ≡ Some x → IsTaken t q x
    other None u f = cc
    other (Some y) u f =
        let r : (y ≡ x) × (takes_by false (row_of x.name.text) x ≡ true) = right_is false y x f in
        taken_by t q x false (subst (λ (z : RdlProp). is_property q z ≡ true) r.0 (of_two (own_at t q) refl (u))) r.1 (λ no. cc)
      where
        of_two : (m : Option RdlProp) → own_at t q ≡ m → or_else m (default_at t q) ≡ Some y → is_property q y ≡ true
        of_two None v g = default_is t q y g
        of_two (Some z) v g = own_is t q y (v ∙ g)

    by : (o : Option RdlProp) → dynamic_at t q ≡ o → IsTaken t q x
    by (Some y) u =
        let r : (y ≡ x) × (takes_by true (row_of x.name.text) x ≡ true) = right_is true y x (rw u at e) in
        taken_by t q x true (dynamic c t d q x way (u ∙ ap Some r.0)).targeted.property r.1 (λ yes. u ∙ ap Some r.0)
    by None u = other (or_else (own_at t q) (default_at t q)) refl (rw u at e)

-- ---- numbers

pub record IsNumber (q : Property) (n : ℕ) : Type 0 where
  pub referable : Bool
  pub kind : Form
  pub token : RdlToken
  pub fits : fits_form q kind ≡ true
  pub says : token.value ≡ n
  pub takes : takes referable kind (value.Num token) ≡ true

some_nat : (a b : ℕ) → Some a ≡ Some b → a ≡ b
some_nat a b e = cc

number_by : (q : Property) (n : ℕ) (referable : Bool) (f : Form) (o : Option RdlAssigned) → fits_form q f ≡ true → takes_assigned referable f o ≡ true
    → option_and_then (λ (a : RdlAssigned). number_in a.value) o ≡ Some n → IsNumber q n
number_by q n referable f None fits takes e = cc
number_by q n referable f (Some a) fits takes e = by a.value refl takes e
  where
    by : (v : RdlValue) → a.value ≡ v → Rattle.rdl_text.specs.Forms.takes referable f v ≡ true → number_in v ≡ Some n → IsNumber q n
    by (value.Num t) u h g = record { referable = referable; kind = f; token = t; fits = fits; says = some_nat t.value n g; takes = h }
    by (value.Str t) u h g = cc
    by (value.True t) u h g = cc
    by (value.False t) u h g = cc
    by (value.Reference a b) u h g = cc

pub number : (t : Trail) (q : Property) (n : ℕ) (c d : Component) → IsTrail c t d → number_at t q ≡ Some n → IsNumber q n
number t q n c d way e = by (assigned_at t q) refl
  where
    by : (o : Option RdlProp) → assigned_at t q ≡ o → IsNumber q n
    by None u = let no = rw u at e in cc
    by (Some x) u =
        let k : IsTaken t q x = taken t q x c d way u in
        number_by q n k.referable k.of.row.form x.value k.of.form k.takes (rw u at e)
