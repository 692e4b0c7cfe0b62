-- What a field is given can be told where what it refers to is there.
use Rattle.std.proofs.Common.{◌≡◌, ◌⊎◌, inl, inr, ℕ, zero, suc, ◌+◌, ◌<◌, ◌≤◌, Bool, true, false, ◌&&◌, ◌||◌, not, List, [], ◌∷◌, ◌++◌, length, map, take, Option, Some, None, is_some, refl, sym, ◌∙◌, ap, subst, arith, if◌then◌else◌, bytes_eq, codes}
use Rattle.std.specs.List.{position, position_or_len}
use Rattle.std.specs.Option.{option_map}
use Rattle.std.proofs.lemmas.Bool.{cases_Bool}
use Rattle.std.proofs.lemmas.Bool.Decides.{nat_tests}
use Rattle.std.proofs.lemmas.Slice.Eq.{bytes_eq-Decides}
use Rattle.rdl_tree.specs.declared.tree.RdlAssigned.{RdlAssigned}
use Rattle.rdl_tree.specs.declared.tree.RdlPath.{RdlPath}
use Rattle.rdl_tree.specs.declared.tree.RdlProp.{RdlProp}
use Rattle.rdl_tree.specs.declared.tree.RdlSignal.{RdlSignal}
use Rattle.rdl_tree.specs.declared.tree.RdlValue.{RdlValue}
use Rattle.rdl_tree.specs.declared.tree.RdlValue.TheVariants as value
use Rattle.rdl_tree.specs.Tree.{is_text}
use Rattle.rdl_text.specs.declared.property.Property.{Property}
use Rattle.rdl_text.specs.declared.property.Form.{Form}
use Rattle.rdl_text.specs.declared.property.Form.TheVariants as form
use Rattle.rdl_text.specs.Components.{Component}
use Rattle.rdl_text.specs.Instances.{kind_of, is_field}
use Rattle.rdl_text.specs.References.{is_reduction, reference_in}
use Rattle.rdl_text.specs.Forms.{takes, takes_assigned}
use Rattle.rdl_values.specs.OneFrame.{Trail}
use Rattle.rdl_values.specs.Values.{assigned_at, depth_at, is_set}
use Rattle.rdl_effects.specs.Limits.{number_in}
use Rattle.rdl_fields.specs.declared.named.NamedExpr.{NamedExpr}
use Rattle.rdl_fields.specs.declared.named.NamedExpr.TheVariants as named
use Rattle.rdl_fields.specs.declared.named.NamedField.{NamedField}
use Rattle.rdl_fields.specs.Paths.{target_of}
use Rattle.rdl_fields.specs.Exprs.{reduced, named_by, expr_of, expr_given, expr_at, is_reference, asks_by, asks, gate_of, gate_at, gate_if}
use Rattle.rdl_fields.specs.Registers.{fields_below}
use Rattle.rdl_numbers.specs.Numbers.{has_path, number_of, numbered}
use Rattle.rdl_map.specs.Given.{given_expr, given_gate}
use Rattle.rdl_regmap.proofs.Has.{Has}
use Rattle.rdl_regmap.proofs.Trails.{IsTrail}
use Rattle.rdl_regmap.proofs.Bodies.{FineComponent}
use Rattle.rdl_regmap.proofs.Forms.{fits_form}
use Rattle.rdl_regmap.proofs.Effective.{IsTaken, taken, IsDynamic, dynamic}
use Rattle.rdl_regmap.proofs.References.{HasField, refers}

-- ---- positions

within : {A : Type 0} (test : A → Bool) (x : A) (xs : List A) → Has x xs → test x ≡ true → position_or_len test xs < length xs
within test x [] h e = absurd h
within test x (y ∷ ys) h e = elim (cases_Bool (test y)) [
  | inl t ↦ rw t (omega arith)
  | inr t ↦ elim h [
    | inl s ↦ let no : false ≡ true = sym t ∙ ap test (sym s) ∙ e in cc
    | inr r ↦ let w : position_or_len test ys < length ys = within test x ys r e in rw t (omega (arith, w))
  ]
]

pub is_positioned : {A : Type 0} (test : A → Bool) (x : A) (xs : List A) → Has x xs → test x ≡ true → is_some (position test xs) ≡ true
is_positioned test x xs h e =
    let w : position_or_len test xs < length xs = within test x xs h e in
    let t : Rattle.std.proofs.Common.nat_lt (position_or_len test xs) (length xs) ≡ true = grind (arith, nat_tests, w) in
    rw t refl

-- the field with the path has a number among these
pub is_numbered : (given : List NamedField) (path : List ℕ) → HasField path given → is_some (number_of given path) ≡ true
is_numbered given path h = is_positioned (has_path path) h.field given h.among ((bytes_eq-Decides h.field.path path).1 h.named)

-- ---- what is named by a reference

-- each reference of the property in effect names a field among these
abbrev pub FindsAll : List NamedField → Trail → Property → Type 0
FindsAll given t q = (x : RdlProp) (a : RdlAssigned) (path : RdlPath) (signal : Option RdlSignal) → assigned_at t q ≡ Some x → x.value ≡ Some a → a.value ≡ value.Reference path signal
    → is_some (number_of given (target_of (take (depth_at t q) t) path)) ≡ true

some_mapped : {A B : Type 0} (f : A → B) (o : Option A) → is_some o ≡ true → is_some (option_map f o) ≡ true
some_mapped f None e = cc
some_mapped f (Some x) e = refl

reduced_found : (given : List NamedField) (input : Option ℕ) (t : Rattle.rdl_tree.specs.declared.token.RdlToken.RdlToken) (path : List ℕ) → is_some (number_of given path) ≡ true → is_some (numbered given input (reduced t path)) ≡ true
unfolding reduced
reduced_found given input t path e = by (is_text (codes "anded") t) (is_text (codes "ored") t) refl refl
  where
    by : (a b : Bool) → is_text (codes "anded") t ≡ a → is_text (codes "ored") t ≡ b → is_some (numbered given input (reduced t path)) ≡ true
    by true b u v = rw u (some_mapped _ (number_of given path) e)
    by false true u v = rw (u, v) (some_mapped _ (number_of given path) e)
    by false false u v = rw (u, v) (some_mapped _ (number_of given path) e)

named_found : (given : List NamedField) (input : Option ℕ) (signal : Option RdlSignal) (path : List ℕ) → is_some (number_of given path) ≡ true → is_some (numbered given input (named_by path signal)) ≡ true
named_found given input None path e = some_mapped _ (number_of given path) e
named_found given input (Some s) path e = reduced_found given input s.name path e

input_found : (given : List NamedField) (input : Option ℕ) → is_some input ≡ true → is_some (numbered given input named.Input) ≡ true
input_found given input e = some_mapped _ input e

some_expr : (a b : NamedExpr) → Some a ≡ Some b → a ≡ b
some_expr a b e = cc

pub expr_found : (given : List NamedField) (input : Option ℕ) (t : Trail) (q : Property) → FindsAll given t q → (asks t q ≡ true → is_some input ≡ true)
    → (e : NamedExpr) → expr_at t q ≡ Some e → is_some (numbered given input e) ≡ true
expr_found given input t q finds own e is = by (assigned_at t q) refl
  where
    set : (x : RdlProp) → assigned_at t q ≡ Some x → is_set (Some x) ≡ true → (o : Option RdlAssigned) → x.value ≡ o
        → is_some (numbered given input (expr_given (take (depth_at t q) t) o)) ≡ true
    set x u s None v = input_found given input (own (rw (u, s, v) refl))
    set x u s (Some a) v = value_by a.value refl
      where
        plain : is_reference a.value ≡ false → is_some input ≡ true
        plain r = own (rw (u, s, v, r) refl)

        value_by : (w : RdlValue) → a.value ≡ w → is_some (numbered given input (expr_of (take (depth_at t q) t) w)) ≡ true
        value_by (value.Num n) z = input_found given input (plain (ap is_reference z))
        value_by (value.Str n) z = input_found given input (plain (ap is_reference z))
        value_by (value.True n) z = input_found given input (plain (ap is_reference z))
        value_by (value.False n) z = input_found given input (plain (ap is_reference z))
        value_by (value.Reference path signal) z = named_found given input signal (target_of (take (depth_at t q) t) path) (finds x a path signal u v z)

    by : (o : Option RdlProp) → assigned_at t q ≡ o → is_some (numbered given input e) ≡ true
    by None u = let no = rw u at is in cc
    by (Some x) u = here (is_set (Some x)) refl
      where
        here : (b : Bool) → is_set (Some x) ≡ b → is_some (numbered given input e) ≡ true
        here true s = subst (λ (z : NamedExpr). is_some (numbered given input z) ≡ true) (some_expr _ _ (rw (u, s) at is)) (set x u s x.value refl)
        here false s = let no = rw (u, s) at is in cc

pub expr_told : (given : List NamedField) (input : Option ℕ) (o : Option NamedExpr) → ((e : NamedExpr) → o ≡ Some e → is_some (numbered given input e) ≡ true) → is_some (given_expr given input o) ≡ true
expr_told given input None all = refl
expr_told given input (Some e) all = some_mapped Some (numbered given input e) (all e refl)

pub gate_told : (given : List NamedField) (high low : Option ℕ) (t : Trail) (a b : Property)
    → ((e : NamedExpr) → expr_at t a ≡ Some e → is_some (numbered given high e) ≡ true) → ((e : NamedExpr) → expr_at t b ≡ Some e → is_some (numbered given low e) ≡ true)
    → is_some (given_gate given high low (gate_at t a b)) ≡ true
gate_told given high low t a b first second = by (expr_at t a) (expr_at t b) first second
  where
    by : (x y : Option NamedExpr) → ((e : NamedExpr) → x ≡ Some e → is_some (numbered given high e) ≡ true) → ((e : NamedExpr) → y ≡ Some e → is_some (numbered given low e) ≡ true)
        → is_some (given_gate given high low (gate_of x y)) ≡ true
    by (Some e) y f g = some_mapped _ _ (some_mapped _ (numbered given high e) (f e refl))
    by None (Some e) f g = some_mapped _ _ (some_mapped _ (numbered given low e) (g e refl))
    by None None f g = refl

pub gate_if_told : (given : List NamedField) (high low : Option ℕ) (acts : Bool) (t : Trail) (a b : Property) → is_some (given_gate given high low (gate_at t a b)) ≡ true
    → is_some (given_gate given high low (gate_if acts t a b)) ≡ true
gate_if_told given high low true t a b e = e
gate_if_told given high low false t a b e = refl

-- ---- the form tells what a reference is

pub bit_found : (referable : Bool) (o : Option RdlAssigned) (a : RdlAssigned) (path : RdlPath) (signal : Option RdlSignal) → o ≡ Some a → a.value ≡ value.Reference path signal
    → takes_assigned referable form.FlagOrBit o ≡ true → (referable ≡ true) × (reference_in form.FlagOrBit o ≡ Some path)
bit_found referable o a path None u v e = by referable (rw (u, v) at e)
  where
    by : (b : Bool) → takes b form.FlagOrBit (value.Reference path None) ≡ true → (b ≡ true) × (reference_in form.FlagOrBit o ≡ Some path)
    by true h = (refl, rw (u, v) refl)
    by false h = cc
bit_found referable o a path (Some s) u v e = by referable (is_reduction s.name) refl (rw (u, v) at e)
  where
    by : (b c : Bool) → is_reduction s.name ≡ c → takes b form.FlagOrBit (value.Reference path (Some s)) ≡ true → (b ≡ true) × (reference_in form.FlagOrBit o ≡ Some path)
    by true true r h = (refl, rw (u, v, r) refl)
    by true false r h = let no = rw r at h in cc
    by false c r h = cc

pub whole_found : (referable : Bool) (o : Option RdlAssigned) (a : RdlAssigned) (path : RdlPath) (signal : Option RdlSignal) → o ≡ Some a → a.value ≡ value.Reference path signal
    → takes_assigned referable form.Whole o ≡ true → (referable ≡ true) × (reference_in form.Whole o ≡ Some path)
whole_found referable o a path None u v e = by referable (rw (u, v) at e)
  where
    by : (b : Bool) → takes b form.Whole (value.Reference path None) ≡ true → (b ≡ true) × (reference_in form.Whole o ≡ Some path)
    by true h = (refl, rw (u, v) refl)
    by false h = cc
whole_found referable o a path (Some s) u v e = by referable (rw (u, v) at e)
  where
    by : (b : Bool) → takes b form.Whole (value.Reference path (Some s)) ≡ true → (b ≡ true) × (reference_in form.Whole o ≡ Some path)
    by true h = cc
    by false h = cc

-- a whole reference is no input
whole_asks_not : (referable : Bool) (x : RdlProp) (o : Option RdlAssigned) → x.value ≡ o → takes_assigned referable form.Whole o ≡ true → asks_by (Some x) ≡ false
whole_asks_not referable x None u e = cc
whole_asks_not referable x (Some a) u e = by referable a.value refl e
  where
    by : (b : Bool) (v : RdlValue) → a.value ≡ v → takes b form.Whole v ≡ true → asks_by (Some x) ≡ false
    by true (value.Num n) z h = cc
    by true (value.Str n) z h = cc
    by true (value.True n) z h = cc
    by true (value.False n) z h = cc
    by true (value.Reference path signal) z h = rw (u, z) refl
    by false v z h = cc

-- ---- of a field below the top of a fine description

pub record IsBelow (top : Component) (t : Trail) (d : Component) : Type 0 where
  pub fine : FineComponent top
  pub plain : is_field (kind_of top) ≡ false
  pub few : Rattle.std.proofs.Common.nat_lt 1048576 (number_in 64 top) ≡ false
  pub way : IsTrail top t d

abbrev pub takes_references : Property → Type 0
takes_references q = (f : Form) → fits_form q f ≡ true → (f ≡ form.FlagOrBit) ⊎ (f ≡ form.Whole)

pub refers_found : (top : Component) (t : Trail) (d : Component) (q : Property) (given : List NamedField) → IsBelow top t d → takes_references q
    → ((path : List ℕ) → HasField path (fields_below (Some top)) → HasField path given) → FindsAll given t q
refers_found top t d q given b forms move x a path signal is u v =
    let k : IsTaken t q x = taken t q x top d b.way is in
    let r : (k.referable ≡ true) × (reference_in k.of.row.form x.value ≡ Some path) = elim (forms k.of.row.form k.of.form) [
      | inl e ↦ subst (λ (f : Form). (k.referable ≡ true) × (reference_in f x.value ≡ Some path)) (sym e) (bit_found k.referable x.value a path signal u v (subst (λ (f : Form). takes_assigned k.referable f x.value ≡ true) e k.takes))
      | inr e ↦ subst (λ (f : Form). (k.referable ≡ true) × (reference_in f x.value ≡ Some path)) (sym e) (whole_found k.referable x.value a path signal u v (subst (λ (f : Form). takes_assigned k.referable f x.value ≡ true) e k.takes))
    ] in
    let y : IsDynamic top t d q x = dynamic top t d q x b.way (k.dynamic r.0) in
    let h : HasField (target_of y.around path) (fields_below (Some top)) = refers top t d q x k.of.row path b.fine b.plain b.few y k.of.named r.1 in
    is_numbered given (target_of (take (depth_at t q) t) path) (move (target_of (take (depth_at t q) t) path) (subst (λ (z : Trail). HasField (target_of z path) (fields_below (Some top))) (sym y.depth) h))

pub whole_not_asked : (top : Component) (t : Trail) (d : Component) (q : Property) → IsTrail top t d → ((f : Form) → fits_form q f ≡ true → f ≡ form.Whole) → asks t q ≡ false
whole_not_asked top t d q way forms = by (assigned_at t q) refl
  where
    by : (o : Option RdlProp) → assigned_at t q ≡ o → asks_by o ≡ false
    by None u = refl
    by (Some x) u =
        let k : IsTaken t q x = taken t q x top d way u in
        whole_asks_not k.referable x x.value refl (subst (λ (f : Form). takes_assigned k.referable f x.value ≡ true) (forms k.of.row.form k.of.form) k.takes)
