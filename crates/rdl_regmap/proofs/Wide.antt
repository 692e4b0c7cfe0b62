-- Each property of a map's fields is given as many bits as it asks for.
use Rattle.std.proofs.Common.{◌≡◌, ℕ, zero, suc, ◌<◌, ◌≤◌, Bool, true, false, ◌||◌, ◌==◌, List, [], ◌∷◌, length, length-append, Option, Some, None, IsTrue, slice_get, refl, sym, ◌∙◌, ap, subst, arith, if◌then◌else◌}
use Rattle.std.specs.Option.{option_map_or}
use Rattle.std.proofs.lemmas.Bool.Decides.{nat_tests}
use Rattle.std.proofs.lemmas.Option.{slice_get_within}
use Rattle.std.proofs.lemmas.Slice.Eq.{bytes_eq-Decides}
use Rattle.std.proofs.lemmas.List.Sorted.{IsPermutation-sym}
use Rattle.field_policies.specs.declared.field.Field.{Field}
use Rattle.field_policies.specs.declared.signal.HwExpr.{HwExpr}
use Rattle.field_policies.specs.declared.signal.HwExpr.TheVariants as expr
use Rattle.field_policies.specs.declared.signal.HwInput.{HwInput}
use Rattle.field_policies.specs.Fields.{expr_width, has_width}
use Rattle.field_policies.specs.Maps.{AreWide}
use Rattle.rdl_tree.specs.declared.tree.RdlPath.{RdlPath}
use Rattle.rdl_tree.specs.declared.tree.RdlAssigned.{RdlAssigned}
use Rattle.rdl_tree.specs.declared.tree.RdlSignal.{RdlSignal}
use Rattle.rdl_tree.specs.declared.tree.RdlValue.TheVariants as value
use Rattle.rdl_text.specs.declared.property.Property.{Property}
use Rattle.rdl_text.specs.declared.property.Property.TheVariants as p
use Rattle.rdl_text.specs.declared.property.Form.{Form}
use Rattle.rdl_text.specs.declared.property.Form.TheVariants as form
use Rattle.rdl_text.specs.Components.{Component}
use Rattle.rdl_text.specs.Forms.{takes_assigned}
use Rattle.rdl_text.specs.References.{reference_in}
use Rattle.rdl_values.specs.OneFrame.{Trail}
use Rattle.rdl_values.specs.Fields.{width_at}
use Rattle.rdl_effects.specs.References.{facts_at, is_reduced_given, has_bits}
use Rattle.rdl_fields.specs.declared.named.NamedExpr.{NamedExpr}
use Rattle.rdl_fields.specs.declared.named.NamedExpr.TheVariants as named
use Rattle.rdl_fields.specs.declared.named.NamedField.{NamedField}
use Rattle.rdl_fields.specs.Exprs.{expr_at}
use Rattle.rdl_fields.specs.Parts.{counts_by_itself}
use Rattle.rdl_fields.specs.Registers.{fields_below}
use Rattle.rdl_numbers.specs.Numbers.{has_path, number_of, numbered}
use Rattle.rdl_numbers.specs.Inputs.{inputs_of}
use Rattle.rdl_regmap.specs.Laws.{AreInputs}
use Rattle.rdl_regmap.proofs.Has.{OptionCase, option_case, Has, has_at, has_permuted}
use Rattle.rdl_values.specs.Frames.{frame_of}
use Rattle.rdl_regmap.proofs.Trails.{IsTrail, targets_in}
use Rattle.rdl_regmap.proofs.Depths.{is_shallow}
use Rattle.rdl_regmap.proofs.Forms.{fits_form, is_flagorbit_form, is_whole_form}
use Rattle.rdl_regmap.proofs.Effective.{IsTaken, taken, IsDynamic, dynamic}
use Rattle.rdl_regmap.proofs.Told.{bit_found, whole_found}
use Rattle.rdl_regmap.proofs.Givens.{trail_of}
use Rattle.rdl_regmap.proofs.MapTold.{AreParts}
use Rattle.rdl_regmap.proofs.Made.{base_at, as_many, IsMap, Here, here}
use Rattle.rdl_regmap.proofs.Inputs.{we_own, wel_own, hwset_own, hwclr_own, swwe_own, swwel_own, incr_own, decr_own, IsThere, is_there}
use Rattle.rdl_regmap.proofs.Exprs.{IsFound, found, AllCome, numbers_of, each_expr, mapped}
use Rattle.rdl_regmap.proofs.Spelled.{FitsComponent}
use Rattle.rdl_regmap.proofs.Distinct.{one_of_path}
use Rattle.rdl_regmap.proofs.Widths.{IsReferred, referred_by, IsValueOf, IsReduced, source}

-- ---- what stands at a number

none_there : {A : Type 0} (xs : List A) (n : ℕ) → n < length xs → slice_get xs n ≡ None → ⊥
none_there [] n lt e = omega (arith, lt)
none_there (x ∷ xs) zero lt e = cc
none_there (x ∷ xs) (suc n) lt e = none_there xs n (omega (arith, lt)) e

same_given : (a b : NamedField) → Some a ≡ Some b → a ≡ b
same_given a b e = cc

-- the field of a number has the bits of the one that it is made of
field_width : (top : Component) (words : List ℕ) (gs : List NamedField) (fields : List Field) (inputs : List HwInput) → IsMap top words gs fields → (n : ℕ) (g : NamedField) → slice_get gs n ≡ Some g → expr_width fields inputs (expr.Value n) ≡ g.spot.width
field_width top words gs fields inputs m n g e = elim (option_case (slice_get fields n)) [
  | OptionCase.IsNone q ↦
      let many : length fields ≡ length gs = as_many words gs 0 0 gs fields m.from in
      let lt : n < length gs = slice_get_within gs n g e in
      absurd (none_there fields n (omega (arith, many, lt)) q)
  | OptionCase.IsSome f q ↦
      let r : Here top words gs n f = here top words gs fields m n f q in
      let s : r.field ≡ g = same_given r.field g (sym r.at ∙ e) in
      ap (λ (o : Option Field). option_map_or (λ (x : Field). x.width) o 0) q ∙ r.is.position.width ∙ ap (λ (x : NamedField). x.spot.width) s
]

-- ---- what a property is given

-- an own input has one bit
input_bit : (gs : List NamedField) (fields : List Field) (inputs : List HwInput) (n : ℕ) → inputs ≡ inputs_of gs → IsThere gs n → expr_width fields inputs (expr.Input n) ≡ 1
input_bit gs fields inputs n same t = elim (option_case (slice_get (inputs_of gs) n)) [
  | OptionCase.IsNone q ↦ absurd (none_there (inputs_of gs) n t.below q)
  | OptionCase.IsSome h q ↦ ap (λ (xs : List HwInput). option_map_or (λ (x : HwInput). x.width) (slice_get xs n) 0) same ∙ ap (λ (o : Option HwInput). option_map_or (λ (x : HwInput). x.width) o 0) q ∙ t.bits h q
]

is_width : (n m : ℕ) → n ≡ m → (n == m) ≡ true
is_width n m e = grind (arith, nat_tests, e)

-- a field of a trail below the top
pub record IsOn (top : Component) (t : Trail) : Type 0 where
  pub leaf : Component
  pub way : IsTrail top t leaf
  pub short : length t ≤ 65

-- the bits of what is referred to, without a reduction
value_bits : (top : Component) (words : List ℕ) (gs : List NamedField) (t : Trail) (q : Property) (path : List ℕ) (n : ℕ) (g : NamedField) (kind : Form) → AreParts top words gs → FitsComponent top → IsOn top t → (v : IsValueOf t q path)
    → ((f : Form) → fits_form q f ≡ true → f ≡ kind)
    → ((referable : Bool) → takes_assigned referable kind v.prop.value ≡ true → (referable ≡ true) × (reference_in kind v.prop.value ≡ Some v.to))
    → number_of gs path ≡ Some n → slice_get gs n ≡ Some g → (w : ℕ) × (g.spot.width ≡ w) × (t2 : Trail) × (w ≡ width_at t2) × (has_bits kind v.prop.value (facts_at t) (facts_at t2) ≡ true)
value_bits top words gs t q path n g kind parts fit on v forms find e at =
    let k : IsTaken t q v.prop = taken t q v.prop top on.leaf on.way v.assigned in
    let form_is : k.of.row.form ≡ kind = forms k.of.row.form k.of.form in
    let r : (k.referable ≡ true) × (reference_in kind v.prop.value ≡ Some v.to) = find k.referable (subst (λ (f : Form). takes_assigned k.referable f v.prop.value ≡ true) form_is k.takes) in
    let y : IsDynamic top t on.leaf q v.prop = dynamic top t on.leaf q v.prop on.way (k.dynamic r.0) in
    let z : IsReferred top t q v.prop k.of.row.form v.to = referred_by top t on.leaf q v.prop k.of.row v.to parts.clear on.short on.way y k.of.named (subst (λ (f : Form). reference_in f v.prop.value ≡ Some v.to) (sym form_is) r.1) in
    let f : IsFound (has_path path) gs n = found (has_path path) gs n e in
    let same : f.item ≡ g = same_given f.item g (sym f.here ∙ at) in
    let p1 : g.path ≡ path = ap (λ (x : NamedField). x.path) (sym same) ∙ (bytes_eq-Decides f.item.path path).0 f.passes in
    let among : Has z.wide.field gs = has_permuted gs (fields_below (Some top)) (IsPermutation-sym (fields_below (Some top)) gs parts.fields_are) z.wide.field z.wide.among in
    let one : g ≡ z.wide.field = one_of_path top words gs g z.wide.field parts fit (has_at gs n g at) among (p1 ∙ v.named ∙ sym z.named ∙ sym z.wide.named) in
    (g.spot.width, refl, z.trail, ap (λ (x : NamedField). x.spot.width) one ∙ z.wide.width, subst (λ (x : Form). has_bits x v.prop.value (facts_at t) (facts_at z.trail) ≡ true) form_is z.bits)

not_reduced : (o : Option RdlAssigned) (a : RdlAssigned) (to : RdlPath) → o ≡ Some a → a.value ≡ value.Reference to None → is_reduced_given o ≡ false
not_reduced o a to u v = rw (u, v) refl

one_bit : (r : Bool) (n : ℕ) → r ≡ false → (r || (n == 1)) ≡ true → n ≡ 1
one_bit true n e f = cc
one_bit false n e f = grind (arith, nat_tests, f)

-- ---- one bit

module _ (top : Component) (words : List ℕ) (gs : List NamedField) (fields : List Field) (inputs : List HwInput) (m : IsMap top words gs fields) (fit : FitsComponent top) (same : inputs ≡ inputs_of gs) where
  bit_comes : (t : Trail) (q : Property) (input : Option ℕ) → IsOn top t → ((f : Form) → fits_form q f ≡ true → f ≡ form.FlagOrBit) → ((n : ℕ) → input ≡ Some n → IsThere gs n)
      → (ne : NamedExpr) (e : HwExpr) → expr_at t q ≡ Some ne → numbered gs input ne ≡ Some e → IsTrue (has_width fields inputs 1 e)
  bit_comes t q input on forms there named.Input e o r =
      let k = mapped expr.Input input e r in
      subst (λ (x : HwExpr). has_width fields inputs 1 x ≡ true) k.2 (is_width _ 1 (input_bit gs fields inputs k.0 same (there k.0 k.1)))
  bit_comes t q input on forms there (named.Value path) e o r =
      let k = mapped expr.Value (number_of gs path) e r in
      let v : IsValueOf t q path = source t q (named.Value path) o in
      let f : IsFound (has_path path) gs k.0 = found (has_path path) gs k.0 k.1 in
      let b = value_bits top words gs t q path k.0 f.item form.FlagOrBit m.parts fit on v forms (λ referable take_it. bit_found referable v.prop.value v.given v.to None v.says v.reference take_it) k.1 f.here in
      let one : width_at b.2 ≡ 1 = one_bit (is_reduced_given v.prop.value) (width_at b.2) (not_reduced v.prop.value v.given v.to v.says v.reference) b.4 in
      subst (λ (x : HwExpr). has_width fields inputs 1 x ≡ true) k.2 (is_width _ 1 (field_width top words gs fields inputs m k.0 f.item f.here ∙ b.1 ∙ b.3 ∙ one))
  bit_comes t q input on forms there (named.Anded path) e o r = let k = mapped expr.Anded (number_of gs path) e r in subst (λ (x : HwExpr). has_width fields inputs 1 x ≡ true) k.2 refl
  bit_comes t q input on forms there (named.Ored path) e o r = let k = mapped expr.Ored (number_of gs path) e r in subst (λ (x : HwExpr). has_width fields inputs 1 x ≡ true) k.2 refl
  bit_comes t q input on forms there (named.Xored path) e o r = let k = mapped expr.Xored (number_of gs path) e r in subst (λ (x : HwExpr). has_width fields inputs 1 x ≡ true) k.2 refl

  -- ---- a bit for each

  no_reduction : (t : Trail) (q : Property) → IsOn top t → ((f : Form) → fits_form q f ≡ true → f ≡ form.Whole) → IsReduced t q → ⊥
  no_reduction t q on forms r =
      let k : IsTaken t q r.prop = taken t q r.prop top on.leaf on.way r.assigned in
      let w = whole_found k.referable r.prop.value r.given r.to (Some r.signal) r.says r.reference (subst (λ (f : Form). takes_assigned k.referable f r.prop.value ≡ true) (forms k.of.row.form k.of.form) k.takes) in
      none_whole r.prop.value r.given r.to r.to r.signal r.says r.reference w.1
    where
      none_whole : (o : Option RdlAssigned) (a : RdlAssigned) (to path : RdlPath) (s : RdlSignal) → o ≡ Some a → a.value ≡ value.Reference to (Some s) → reference_in form.Whole o ≡ Some path → ⊥
      none_whole o a to path s u v e = let off = rw (u, v) at e in cc

  whole_comes : (t : Trail) (q : Property) (width : ℕ) → IsOn top t → width ≡ width_at t → ((f : Form) → fits_form q f ≡ true → f ≡ form.Whole)
      → (ne : NamedExpr) (e : HwExpr) → expr_at t q ≡ Some ne → numbered gs None ne ≡ Some e → IsTrue (has_width fields inputs width e)
  whole_comes t q width on w forms named.Input e o r = cc
  whole_comes t q width on w forms (named.Value path) e o r =
      let k = mapped expr.Value (number_of gs path) e r in
      let v : IsValueOf t q path = source t q (named.Value path) o in
      let f : IsFound (has_path path) gs k.0 = found (has_path path) gs k.0 k.1 in
      let b = value_bits top words gs t q path k.0 f.item form.Whole m.parts fit on v forms (λ referable take_it. whole_found referable v.prop.value v.given v.to None v.says v.reference take_it) k.1 f.here in
      let all : width_at t ≡ width_at b.2 = let z : (width_at t == width_at b.2) ≡ true = b.4 in grind (arith, nat_tests, z) in
      subst (λ (x : HwExpr). has_width fields inputs width x ≡ true) k.2 (is_width _ width (field_width top words gs fields inputs m k.0 f.item f.here ∙ b.1 ∙ b.3 ∙ sym all ∙ sym w))
  whole_comes t q width on w forms (named.Anded path) e o r = absurd (no_reduction t q on forms (source t q (named.Anded path) o))
  whole_comes t q width on w forms (named.Ored path) e o r = absurd (no_reduction t q on forms (source t q (named.Ored path) o))
  whole_comes t q width on w forms (named.Xored path) e o r = absurd (no_reduction t q on forms (source t q (named.Xored path) o))

  same_named : (a b : NamedExpr) → Some a ≡ Some b → a ≡ b
  same_named a b e = cc

  incr_comes : (t : Trail) (input : Option ℕ) → IsOn top t → ((n : ℕ) → input ≡ Some n → IsThere gs n) → (alone : Bool)
      → (ne : NamedExpr) (e : HwExpr) → (if alone then Some named.Input else expr_at t p.Incr) ≡ Some ne → numbered gs input ne ≡ Some e → IsTrue (has_width fields inputs 1 e)
  incr_comes t input on there true ne e o r =
      let s : named.Input ≡ ne = same_named named.Input ne o in
      let k = mapped expr.Input input e (subst (λ (x : NamedExpr). numbered gs input x ≡ Some e) (sym s) r) in
      subst (λ (x : HwExpr). has_width fields inputs 1 x ≡ true) k.2 (is_width _ 1 (input_bit gs fields inputs k.0 same (there k.0 k.1)))
  incr_comes t input on there false ne e o r = bit_comes t p.Incr input on (λ f. is_flagorbit_form f) there ne e o r

  all_wide : (k : ℕ) (f : Field) (h : Here top words gs k f) → AllCome gs (numbers_of gs k h.field) (trail_of top h.field h.source) (λ e. IsTrue (has_width fields inputs 1 e)) (λ e. IsTrue (has_width fields inputs f.width e))
  all_wide k f h =
      let t : Trail = trail_of top h.field h.source in
      let short : length h.source.visit.trail ≤ 64 = is_shallow top h.source.visit.trail h.source.visit.component m.parts.clear.few h.source.register.way h.source.register.fieldless in
      let on : IsOn top (trail_of top h.field h.source) = record { leaf = h.source.field.instance.component; way = h.own.way; short = omega (arith, short, length-append h.source.visit.trail (frame_of (targets_in h.source.visit.component) h.source.field.instance 0 ∷ [])) } in
      let w : f.width ≡ width_at (trail_of top h.field h.source) = h.is.position.width ∙ h.numbers.width in
      record {
        we = bit_comes (trail_of top h.field h.source) p.We _ on (λ x. is_flagorbit_form x) (λ n q. is_there gs k n h.field h.at (we_own h.field.inputs (base_at 0 gs k) n q));
        wel = bit_comes (trail_of top h.field h.source) p.Wel _ on (λ x. is_flagorbit_form x) (λ n q. is_there gs k n h.field h.at (wel_own h.field.inputs (base_at 0 gs k) n q));
        hwset = bit_comes (trail_of top h.field h.source) p.Hwset _ on (λ x. is_flagorbit_form x) (λ n q. is_there gs k n h.field h.at (hwset_own h.field.inputs (base_at 0 gs k) n q));
        hwclr = bit_comes (trail_of top h.field h.source) p.Hwclr _ on (λ x. is_flagorbit_form x) (λ n q. is_there gs k n h.field h.at (hwclr_own h.field.inputs (base_at 0 gs k) n q));
        swwe = bit_comes (trail_of top h.field h.source) p.Swwe _ on (λ x. is_flagorbit_form x) (λ n q. is_there gs k n h.field h.at (swwe_own h.field.inputs (base_at 0 gs k) n q));
        swwel = bit_comes (trail_of top h.field h.source) p.Swwel _ on (λ x. is_flagorbit_form x) (λ n q. is_there gs k n h.field h.at (swwel_own h.field.inputs (base_at 0 gs k) n q));
        incr = incr_comes (trail_of top h.field h.source) _ on (λ n q. is_there gs k n h.field h.at (incr_own h.field.inputs (base_at 0 gs k) n q)) (counts_by_itself (trail_of top h.field h.source));
        decr = bit_comes (trail_of top h.field h.source) p.Decr _ on (λ x. is_flagorbit_form x) (λ n q. is_there gs k n h.field h.at (decr_own h.field.inputs (base_at 0 gs k) n q));
        hwenable = whole_comes (trail_of top h.field h.source) p.Hwenable f.width on w (λ x. is_whole_form x);
        hwmask = whole_comes (trail_of top h.field h.source) p.Hwmask f.width on w (λ x. is_whole_form x);
        enable = whole_comes (trail_of top h.field h.source) p.Enable f.width on w (λ x. is_whole_form x);
        mask = whole_comes (trail_of top h.field h.source) p.Mask f.width on w (λ x. is_whole_form x);
      }

  pub are_wide : AreInputs fields inputs → AreWide fields inputs
  are_wide own = record {
    exprs = λ k f e. let h : Here top words gs k f = here top words gs fields m k f e in each_expr top words gs k f h (has_width fields inputs 1) (has_width fields inputs f.width) (all_wide k f h);
    sources = λ k f e n h d q. own.sources k n f h e d q;
    each_input = own.bits;
  }
