-- What form the values of a property have, by whatever name it is assigned.
use Rattle.std.proofs.Common.{◌≡◌, ℕ, Bool, true, false, List, [], ◌∷◌, Option, Some, None, refl, inl, inr, subst, bytes_eq, rules}
use Rattle.std.specs.List.{list_all}
use denote.Enum.Bare.{same_true}
use Rattle.rdl_tree.specs.declared.tree.RdlProp.{RdlProp}
use Rattle.rdl_text.specs.contracts.property.Property.{the_type}
use Rattle.rdl_text.specs.declared.property.Property.{Property}
use Rattle.rdl_text.specs.declared.property.Property.TheVariants as p
use Rattle.rdl_text.specs.declared.property.Form.{Form}
use Rattle.rdl_text.specs.declared.property.Form.TheVariants as form
use Rattle.rdl_text.specs.declared.property.Row.{Row}
use Rattle.rdl_text.specs.Lists.{or_else}
use Rattle.rdl_text.specs.Properties.{Named, row_among, row_of, common_rows, access_rows, hardware_rows, counting_rows}
use Rattle.rdl_text.specs.Assignments.{is_property}
use Rattle.std.proofs.lemmas.Bool.{cases_Bool}
use Rattle.rdl_regmap.proofs.Instances.{yes_left, yes_right}

abbrev pub is_accesswidth : Form → Bool
is_accesswidth form.AccessWidth = true
is_accesswidth _ = false

pub is_accesswidth_form : (f : Form) → is_accesswidth f ≡ true → f ≡ form.AccessWidth
is_accesswidth_form form.Text e = cc
is_accesswidth_form form.Regalign e = cc
is_accesswidth_form form.True e = cc
is_accesswidth_form form.RegWidth e = cc
is_accesswidth_form form.AccessWidth e = refl
is_accesswidth_form form.Name e = cc
is_accesswidth_form form.FieldWidth e = cc
is_accesswidth_form form.Number e = cc
is_accesswidth_form form.Step e = cc
is_accesswidth_form form.Sw e = cc
is_accesswidth_form form.Hw e = cc
is_accesswidth_form form.OnRead e = cc
is_accesswidth_form form.OnWrite e = cc
is_accesswidth_form form.Precedence e = cc
is_accesswidth_form form.Flag e = cc
is_accesswidth_form form.FlagOrBit e = cc
is_accesswidth_form form.Whole e = cc

abbrev pub is_fieldwidth : Form → Bool
is_fieldwidth form.FieldWidth = true
is_fieldwidth _ = false

pub is_fieldwidth_form : (f : Form) → is_fieldwidth f ≡ true → f ≡ form.FieldWidth
is_fieldwidth_form form.Text e = cc
is_fieldwidth_form form.Regalign e = cc
is_fieldwidth_form form.True e = cc
is_fieldwidth_form form.RegWidth e = cc
is_fieldwidth_form form.AccessWidth e = cc
is_fieldwidth_form form.Name e = cc
is_fieldwidth_form form.FieldWidth e = refl
is_fieldwidth_form form.Number e = cc
is_fieldwidth_form form.Step e = cc
is_fieldwidth_form form.Sw e = cc
is_fieldwidth_form form.Hw e = cc
is_fieldwidth_form form.OnRead e = cc
is_fieldwidth_form form.OnWrite e = cc
is_fieldwidth_form form.Precedence e = cc
is_fieldwidth_form form.Flag e = cc
is_fieldwidth_form form.FlagOrBit e = cc
is_fieldwidth_form form.Whole e = cc

abbrev pub is_flagorbit : Form → Bool
is_flagorbit form.FlagOrBit = true
is_flagorbit _ = false

pub is_flagorbit_form : (f : Form) → is_flagorbit f ≡ true → f ≡ form.FlagOrBit
is_flagorbit_form form.Text e = cc
is_flagorbit_form form.Regalign e = cc
is_flagorbit_form form.True e = cc
is_flagorbit_form form.RegWidth e = cc
is_flagorbit_form form.AccessWidth e = cc
is_flagorbit_form form.Name e = cc
is_flagorbit_form form.FieldWidth e = cc
is_flagorbit_form form.Number e = cc
is_flagorbit_form form.Step e = cc
is_flagorbit_form form.Sw e = cc
is_flagorbit_form form.Hw e = cc
is_flagorbit_form form.OnRead e = cc
is_flagorbit_form form.OnWrite e = cc
is_flagorbit_form form.Precedence e = cc
is_flagorbit_form form.Flag e = cc
is_flagorbit_form form.FlagOrBit e = refl
is_flagorbit_form form.Whole e = cc

abbrev pub is_regwidth : Form → Bool
is_regwidth form.RegWidth = true
is_regwidth _ = false

pub is_regwidth_form : (f : Form) → is_regwidth f ≡ true → f ≡ form.RegWidth
is_regwidth_form form.Text e = cc
is_regwidth_form form.Regalign e = cc
is_regwidth_form form.True e = cc
is_regwidth_form form.RegWidth e = refl
is_regwidth_form form.AccessWidth e = cc
is_regwidth_form form.Name e = cc
is_regwidth_form form.FieldWidth e = cc
is_regwidth_form form.Number e = cc
is_regwidth_form form.Step e = cc
is_regwidth_form form.Sw e = cc
is_regwidth_form form.Hw e = cc
is_regwidth_form form.OnRead e = cc
is_regwidth_form form.OnWrite e = cc
is_regwidth_form form.Precedence e = cc
is_regwidth_form form.Flag e = cc
is_regwidth_form form.FlagOrBit e = cc
is_regwidth_form form.Whole e = cc

abbrev pub is_whole : Form → Bool
is_whole form.Whole = true
is_whole _ = false

pub is_whole_form : (f : Form) → is_whole f ≡ true → f ≡ form.Whole
is_whole_form form.Text e = cc
is_whole_form form.Regalign e = cc
is_whole_form form.True e = cc
is_whole_form form.RegWidth e = cc
is_whole_form form.AccessWidth e = cc
is_whole_form form.Name e = cc
is_whole_form form.FieldWidth e = cc
is_whole_form form.Number e = cc
is_whole_form form.Step e = cc
is_whole_form form.Sw e = cc
is_whole_form form.Hw e = cc
is_whole_form form.OnRead e = cc
is_whole_form form.OnWrite e = cc
is_whole_form form.Precedence e = cc
is_whole_form form.Flag e = cc
is_whole_form form.FlagOrBit e = cc
is_whole_form form.Whole e = refl

-- the form of the properties that are asked for
abbrev pub fits_form : Property → Form → Bool
fits_form p.Regwidth f = is_regwidth f
fits_form p.Accesswidth f = is_accesswidth f
fits_form p.Fieldwidth f = is_fieldwidth f
fits_form p.We f = is_flagorbit f
fits_form p.Wel f = is_flagorbit f
fits_form p.Hwset f = is_flagorbit f
fits_form p.Hwclr f = is_flagorbit f
fits_form p.Swwe f = is_flagorbit f
fits_form p.Swwel f = is_flagorbit f
fits_form p.Incr f = is_flagorbit f
fits_form p.Decr f = is_flagorbit f
fits_form p.Hwenable f = is_whole f
fits_form p.Hwmask f = is_whole f
fits_form p.Enable f = is_whole f
fits_form p.Mask f = is_whole f
fits_form _ f = true

row_fits : Named → Bool
row_fits n = fits_form n.row.property n.row.form

some_row : (a b : Row) → Some a ≡ Some b → a ≡ b
some_row a b e = cc

among_fits : (name : List ℕ) (rows : List Named) (r : Row) → list_all (λ (n : Named). fits_form n.row.property n.row.form) rows ≡ true → row_among name rows ≡ Some r → fits_form r.property r.form ≡ true
among_fits name [] r all e = cc
among_fits name (n ∷ ns) r all e = elim (cases_Bool (bytes_eq name n.word)) [
  | inl t ↦ subst (λ (x : Row). fits_form x.property x.form ≡ true) (some_row n.row r (rw t at e)) (yes_left (fits_form n.row.property n.row.form) _ all)
  | inr t ↦ among_fits name ns r (yes_right (fits_form n.row.property n.row.form) _ all) (rw t at e)
]

of_either : (a b : Option Row) (r : Row) (P : Row → Type 0) → ((x : Row) → a ≡ Some x → P x) → ((x : Row) → b ≡ Some x → P x) → or_else a b ≡ Some r → P r
of_either None b r P f g e = g r e
of_either (Some x) b r P f g e = f r e

pub row_form : (name : List ℕ) (r : Row) → row_of name ≡ Some r → fits_form r.property r.form ≡ true
unfolding row_of
row_form name r e =
    let P = λ (x : Row). fits_form x.property x.form ≡ true in
    of_either (row_among name common_rows) _ r (λ (x : Row). fits_form x.property x.form ≡ true) (λ x. among_fits name common_rows x refl)
    (λ x. of_either (row_among name access_rows) _ x (λ (x : Row). fits_form x.property x.form ≡ true) (λ y. among_fits name access_rows y refl)
    (λ y. of_either (row_among name hardware_rows) _ y (λ (x : Row). fits_form x.property x.form ≡ true) (λ z. among_fits name hardware_rows z refl) (λ z. among_fits name counting_rows z refl))) e

-- ---- the row of a property's assignment

pub record IsRowOf (q : Property) (x : RdlProp) : Type 0 where
  pub row : Row
  pub named : row_of x.name.text ≡ Some row
  pub property : row.property ≡ q
  pub form : fits_form q row.form ≡ true

pub row_is : (q : Property) (x : RdlProp) → is_property q x ≡ true → IsRowOf q x
row_is q x e = by (row_of x.name.text) refl
  where
    by : (o : Option Row) → row_of x.name.text ≡ o → IsRowOf q x
    by None t = let no = rw t at e in cc
    by (Some r) t =
        let same : r.property ≡ q = same_true the_type (search rules) r.property q (rw t at e) in
        record { row = r; named = t; property = same; form = subst (λ (z : Property). fits_form z r.form ≡ true) same (row_form x.name.text r t) }
