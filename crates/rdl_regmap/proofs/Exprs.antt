-- The expressions of a map's fields, each by the property that it comes from; and that their numbers are in range.
use Rattle.std.proofs.Common.{◌≡◌, inl, inr, ℕ, zero, suc, ◌+◌, ◌<◌, Bool, true, false, nat_lt, List, [], ◌∷◌, length, Option, Some, None, IsTrue, slice_get, refl, sym, ◌∙◌, ap, subst, arith, if◌then◌else◌}
use Rattle.std.specs.List.{position, position_or_len}
use Rattle.std.specs.Option.{option_map}
use Rattle.std.proofs.lemmas.Bool.{cases_Bool}
use Rattle.std.proofs.lemmas.Bool.Decides.{nat_tests}
use Rattle.std.proofs.lemmas.Option.{slice_get_within}
use Rattle.field_policies.specs.declared.field.Field.{Field}
use Rattle.field_policies.specs.declared.extra.Extra.{Extra}
use Rattle.field_policies.specs.declared.extra.Extra.TheVariants as extra
use Rattle.field_policies.specs.declared.signal.HwExpr.{HwExpr}
use Rattle.field_policies.specs.declared.signal.HwExpr.TheVariants as expr
use Rattle.field_policies.specs.declared.signal.Gate.{Gate}
use Rattle.field_policies.specs.declared.signal.HwInput.{HwInput}
use Rattle.field_policies.specs.Fields.{is_in_range, incr_of, decr_of, filter_of, EachExpr}
use Rattle.field_policies.specs.Maps.{AreInRange}
use Rattle.rdl_text.specs.declared.property.Property.{Property}
use Rattle.rdl_text.specs.declared.property.Property.TheVariants as p
use Rattle.rdl_text.specs.Components.{Component}
use Rattle.rdl_values.specs.OneFrame.{Trail}
use Rattle.rdl_values.specs.Values.{in_effect}
use Rattle.rdl_values.specs.Accesses.{sw_at}
use Rattle.rdl_values.specs.Fields.{has_data}
use Rattle.rdl_fields.specs.declared.named.NamedExpr.{NamedExpr}
use Rattle.rdl_fields.specs.declared.named.NamedExpr.TheVariants as named
use Rattle.rdl_fields.specs.declared.named.NamedGate.{NamedGate}
use Rattle.rdl_fields.specs.declared.named.NamedExtra.{NamedExtra}
use Rattle.rdl_fields.specs.declared.named.NamedExtra.TheVariants as given
use Rattle.rdl_fields.specs.declared.named.NamedCounter.{NamedCounter}
use Rattle.rdl_fields.specs.declared.named.NamedIntr.{NamedIntr}
use Rattle.rdl_fields.specs.declared.named.NamedField.{NamedField}
use Rattle.rdl_fields.specs.Exprs.{expr_at, gate_of, gate_if}
use Rattle.rdl_fields.specs.Parts.{acts, incr_at, counter_at, intr_at, extra_at}
use Rattle.rdl_numbers.specs.Numbers.{has_path, number_of, numbered, numbered_gate}
use Rattle.rdl_numbers.specs.Inputs.{inputs_of}
use Rattle.rdl_map.specs.declared.signal.InputNumbers.{InputNumbers}
use Rattle.rdl_map.specs.Signals.{numbers_from}
use Rattle.rdl_map.specs.Given.{given_expr, given_gate}
use Rattle.rdl_map.specs.Extras.{IsExtraOf}
use Rattle.rdl_regmap.proofs.Has.{Has, has_at}
use Rattle.rdl_regmap.proofs.Givens.{trail_of}
use Rattle.rdl_regmap.proofs.Made.{base_at, as_many, IsMap, Here, here}
use Rattle.rdl_regmap.proofs.Counts.{extra_of, IsMember, member_of}
use Rattle.rdl_regmap.proofs.Inputs.{IsInput, input_is, we_own, wel_own, hwset_own, hwclr_own, swwe_own, swwel_own, incr_own, decr_own, is_there, IsData, is_data}

-- ---- positions

pub record IsFound {A : Type 0} (test : A → Bool) (xs : List A) (n : ℕ) : Type 0 where
  pub item : A
  pub here : slice_get xs n ≡ Some item
  pub passes : test item ≡ true

found_from : {A : Type 0} (test : A → Bool) (xs : List A) (n : ℕ) → n ≡ position_or_len test xs → n < length xs → IsFound test xs n
found_from test [] n e lt = absurd (omega (arith, lt))
found_from test (x ∷ xs) zero e lt = elim (cases_Bool (test x)) [
  | inl t ↦ record { item = x; here = refl; passes = t }
  | inr t ↦ let q : 0 ≡ 1 + position_or_len test xs = rw t at e in absurd (omega (arith, q))
]
found_from test (x ∷ xs) (suc n) e lt = elim (cases_Bool (test x)) [
  | inl t ↦ let q : suc n ≡ 0 = rw t at e in absurd (omega (arith, q))
  | inr t ↦
      let q : suc n ≡ 1 + position_or_len test xs = rw t at e in
      let r : IsFound test xs n = found_from test xs n (omega (arith, q)) (omega (arith, lt)) in
      record { item = r.item; here = r.here; passes = r.passes }
]

same_nat : (a b : ℕ) → Some a ≡ Some b → a ≡ b
same_nat a b e = cc

pub found : {A : Type 0} (test : A → Bool) (xs : List A) (n : ℕ) → position test xs ≡ Some n → IsFound test xs n
found test xs n e = elim (cases_Bool (nat_lt (position_or_len test xs) (length xs))) [
  | inl t ↦
      let s : position_or_len test xs ≡ n = same_nat _ n (rw t at e) in
      let lt : position_or_len test xs < length xs = grind (arith, nat_tests, t) in
      found_from test xs n (sym s) (omega (arith, lt, s))
  | inr t ↦ let off = rw t at e in cc
]

-- ---- what an expression comes from

abbrev pub Comes : List NamedField → (HwExpr → Type 0) → Option ℕ → Option NamedExpr → Type 0
Comes fields P input o = (ne : NamedExpr) (e : HwExpr) → o ≡ Some ne → numbered fields input ne ≡ Some e → P e

same_expr : (a b : HwExpr) → Some a ≡ Some b → a ≡ b
same_expr a b e = cc

expr_from : (fields : List NamedField) (P : HwExpr → Type 0) (input : Option ℕ) (o : Option NamedExpr) (e : HwExpr) → Comes fields P input o → given_expr fields input o ≡ Some (Some e) → P e
expr_from fields P input None e all q = cc
expr_from fields P input (Some ne) e all q = by (numbered fields input ne) refl q
  where
    by : (r : Option HwExpr) → numbered fields input ne ≡ r → option_map Some r ≡ Some (Some e) → P e
    by None s t = cc
    by (Some x) s t = all ne e refl (s ∙ cc)

gate_from_one : (fields : List NamedField) (P : HwExpr → Type 0) (input : Option ℕ) (ng : NamedGate) (g : Gate) → ((e : HwExpr) → numbered fields input ng.expr ≡ Some e → P e) → option_map Some (numbered_gate fields input ng) ≡ Some (Some g) → P g.expr
gate_from_one fields P input ng g all q = by (numbered fields input ng.expr) refl q
  where
    some_gate : (a b : Gate) → Some (Some a) ≡ Some (Some b) → a ≡ b
    some_gate a b r = cc

    by : (r : Option HwExpr) → numbered fields input ng.expr ≡ r → option_map Some (option_map (λ (e : HwExpr). record { expr = e; high = ng.high }) r) ≡ Some (Some g) → P g.expr
    by None s t = cc
    by (Some x) s t = subst (λ (y : Gate). P y.expr) (some_gate (record { expr = x; high = ng.high }) g t) (all x s)

gate_from : (fields : List NamedField) (P : HwExpr → Type 0) (high low : Option ℕ) (a b : Option NamedExpr) (g : Gate) → Comes fields P high a → Comes fields P low b → given_gate fields high low (gate_of a b) ≡ Some (Some g) → P g.expr
gate_from fields P high low (Some ne) b g first second q = gate_from_one fields P high (record { expr = ne; high = true }) g (λ e. first ne e refl) q
gate_from fields P high low None (Some ne) g first second q = gate_from_one fields P low (record { expr = ne; high = false }) g (λ e. second ne e refl) q
gate_from fields P high low None None g first second q = cc

gate_if_from : (fields : List NamedField) (P : HwExpr → Type 0) (high low : Option ℕ) (on : Bool) (t : Trail) (a b : Property) (g : Gate) → Comes fields P high (expr_at t a) → Comes fields P low (expr_at t b)
    → given_gate fields high low (gate_if on t a b) ≡ Some (Some g) → P g.expr
gate_if_from fields P high low true t a b g first second q = gate_from fields P high low (expr_at t a) (expr_at t b) g first second q
gate_if_from fields P high low false t a b g first second q = cc

-- all properties of one field
pub record AllCome (fields : List NamedField) (n : InputNumbers) (t : Trail) (P Q : HwExpr → Type 0) : Type 0 where
  pub we : Comes fields P n.we (expr_at t p.We)
  pub wel : Comes fields P n.wel (expr_at t p.Wel)
  pub hwset : Comes fields P n.hwset (expr_at t p.Hwset)
  pub hwclr : Comes fields P n.hwclr (expr_at t p.Hwclr)
  pub swwe : Comes fields P n.swwe (expr_at t p.Swwe)
  pub swwel : Comes fields P n.swwel (expr_at t p.Swwel)
  pub incr : Comes fields P n.incr (incr_at t)
  pub decr : Comes fields P n.decr (expr_at t p.Decr)
  pub hwenable : Comes fields Q None (expr_at t p.Hwenable)
  pub hwmask : Comes fields Q None (expr_at t p.Hwmask)
  pub enable : Comes fields Q None (expr_at t p.Enable)
  pub mask : Comes fields Q None (expr_at t p.Mask)

counter_is : (a b : Bool) (c : NamedCounter) (i : NamedIntr) (g : NamedCounter) → (if a then given.Counter c else if b then given.Intr i else given.Plain) ≡ given.Counter g → c ≡ g
counter_is true b c i g e = cc
counter_is false true c i g e = cc
counter_is false false c i g e = cc

intr_is : (a b : Bool) (c : NamedCounter) (i : NamedIntr) (g : NamedIntr) → (if a then given.Counter c else if b then given.Intr i else given.Plain) ≡ given.Intr g → i ≡ g
intr_is true b c i g e = cc
intr_is false true c i g e = cc
intr_is false false c i g e = cc

incr_from : (fields : List NamedField) (n : InputNumbers) (k register : ℕ) (t : Trail) (P Q : HwExpr → Type 0) (all : AllCome fields n t P Q) (x : NamedExtra) (y : Extra) (e : HwExpr) → extra_at t ≡ x → IsExtraOf fields n k register x y
    → incr_of y ≡ Some e → P e
incr_from fields n k register t P Q all given.Plain extra.Plain e q is r = cc
incr_from fields n k register t P Q all given.Plain (extra.Counter c) e q is r = absurd is
incr_from fields n k register t P Q all given.Plain (extra.Intr c) e q is r = cc
incr_from fields n k register t P Q all (given.Counter g) extra.Plain e q is r = cc
incr_from fields n k register t P Q all (given.Counter g) (extra.Counter c) e q is r =
    expr_from fields P n.incr (incr_at t) e all.incr (ap (λ (z : NamedCounter). given_expr fields n.incr z.incr) (counter_is (in_effect t p.Counter) (in_effect t p.Intr) (counter_at t) (intr_at t) g q) ∙ is.incr ∙ ap Some r)
incr_from fields n k register t P Q all (given.Counter g) (extra.Intr c) e q is r = cc
incr_from fields n k register t P Q all (given.Intr g) extra.Plain e q is r = cc
incr_from fields n k register t P Q all (given.Intr g) (extra.Counter c) e q is r = absurd is
incr_from fields n k register t P Q all (given.Intr g) (extra.Intr c) e q is r = cc

decr_from : (fields : List NamedField) (n : InputNumbers) (k register : ℕ) (t : Trail) (P Q : HwExpr → Type 0) (all : AllCome fields n t P Q) (x : NamedExtra) (y : Extra) (e : HwExpr) → extra_at t ≡ x → IsExtraOf fields n k register x y
    → decr_of y ≡ Some e → P e
decr_from fields n k register t P Q all given.Plain extra.Plain e q is r = cc
decr_from fields n k register t P Q all given.Plain (extra.Counter c) e q is r = absurd is
decr_from fields n k register t P Q all given.Plain (extra.Intr c) e q is r = cc
decr_from fields n k register t P Q all (given.Counter g) extra.Plain e q is r = cc
decr_from fields n k register t P Q all (given.Counter g) (extra.Counter c) e q is r =
    expr_from fields P n.decr (expr_at t p.Decr) e all.decr (ap (λ (z : NamedCounter). given_expr fields n.decr z.decr) (counter_is (in_effect t p.Counter) (in_effect t p.Intr) (counter_at t) (intr_at t) g q) ∙ is.decr ∙ ap Some r)
decr_from fields n k register t P Q all (given.Counter g) (extra.Intr c) e q is r = cc
decr_from fields n k register t P Q all (given.Intr g) extra.Plain e q is r = cc
decr_from fields n k register t P Q all (given.Intr g) (extra.Counter c) e q is r = absurd is
decr_from fields n k register t P Q all (given.Intr g) (extra.Intr c) e q is r = cc

filter_from : (fields : List NamedField) (n : InputNumbers) (k register : ℕ) (t : Trail) (P Q : HwExpr → Type 0) (all : AllCome fields n t P Q) (x : NamedExtra) (y : Extra) (e : Gate) → extra_at t ≡ x → IsExtraOf fields n k register x y
    → filter_of y ≡ Some e → Q e.expr
filter_from fields n k register t P Q all given.Plain extra.Plain e q is r = cc
filter_from fields n k register t P Q all given.Plain (extra.Counter c) e q is r = cc
filter_from fields n k register t P Q all given.Plain (extra.Intr c) e q is r = absurd is
filter_from fields n k register t P Q all (given.Counter g) extra.Plain e q is r = cc
filter_from fields n k register t P Q all (given.Counter g) (extra.Counter c) e q is r = cc
filter_from fields n k register t P Q all (given.Counter g) (extra.Intr c) e q is r = absurd is
filter_from fields n k register t P Q all (given.Intr g) extra.Plain e q is r = cc
filter_from fields n k register t P Q all (given.Intr g) (extra.Counter c) e q is r = cc
filter_from fields n k register t P Q all (given.Intr g) (extra.Intr c) e q is r =
    gate_from fields Q None None (expr_at t p.Enable) (expr_at t p.Mask) e all.enable all.mask
    (ap (λ (z : NamedIntr). given_gate fields None None z.filter) (intr_is (in_effect t p.Counter) (in_effect t p.Intr) (counter_at t) (intr_at t) g q) ∙ is.filter ∙ ap Some r)

-- the numbers of the inputs of a field of the map
abbrev pub numbers_of : List NamedField → ℕ → NamedField → InputNumbers
numbers_of fields k g = numbers_from (base_at 0 fields k) g.inputs

pub each_expr : (top : Component) (words : List ℕ) (fields : List NamedField) (k : ℕ) (f : Field) (h : Here top words fields k f) (one all : HwExpr → Bool)
    → AllCome fields (numbers_of fields k h.field) (trail_of top h.field h.source) (λ e. IsTrue (one e)) (λ e. IsTrue (all e)) → EachExpr one all f
each_expr top words fields k f h one all a =
    let n : InputNumbers = numbers_of fields k h.field in
    let t : Trail = trail_of top h.field h.source in
    record {
      sw_gate = λ g e. gate_if_from fields (λ x. IsTrue (one x)) n.swwe n.swwel (sw_at t).writable t p.Swwe p.Swwel g a.swwe a.swwel
          (ap (λ (x : NamedField). given_gate fields n.swwe n.swwel x.software.gate) (sym h.source.field.is) ∙ h.is.gates.sw_gate ∙ ap Some e);
      data_gate = λ g e. gate_if_from fields (λ x. IsTrue (one x)) n.we n.wel (has_data t) t p.We p.Wel g a.we a.wel
          (ap (λ (x : NamedField). given_gate fields n.we n.wel x.hardware.data_gate) (sym h.source.field.is) ∙ h.is.gates.data_gate ∙ ap Some e);
      set = λ x e. expr_from fields (λ y. IsTrue (one y)) n.hwset (expr_at t p.Hwset) x a.hwset
          (ap (λ (y : NamedField). given_expr fields n.hwset y.hardware.set) (sym h.source.field.is) ∙ h.is.gates.set ∙ ap Some e);
      clear = λ x e. expr_from fields (λ y. IsTrue (one y)) n.hwclr (expr_at t p.Hwclr) x a.hwclr
          (ap (λ (y : NamedField). given_expr fields n.hwclr y.hardware.clear) (sym h.source.field.is) ∙ h.is.gates.clear ∙ ap Some e);
      incr = λ x e. incr_from fields n k h.field.spot.register t (λ y. IsTrue (one y)) (λ y. IsTrue (all y)) a (extra_at t) f.extra x refl (extra_of top words fields k f h) e;
      decr = λ x e. decr_from fields n k h.field.spot.register t (λ y. IsTrue (one y)) (λ y. IsTrue (all y)) a (extra_at t) f.extra x refl (extra_of top words fields k f h) e;
      bit_gate = λ g e. gate_if_from fields (λ x. IsTrue (all x)) None None (acts t) t p.Hwenable p.Hwmask g a.hwenable a.hwmask
          (ap (λ (x : NamedField). given_gate fields None None x.hardware.bit_gate) (sym h.source.field.is) ∙ h.is.gates.bit_gate ∙ ap Some e);
      filter = λ g e. filter_from fields n k h.field.spot.register t (λ y. IsTrue (one y)) (λ y. IsTrue (all y)) a (extra_at t) f.extra g refl (extra_of top words fields k f h) e;
    }

-- ---- ranges

field_in_range : (fields : List NamedField) (path : List ℕ) (inputs n : ℕ) → number_of fields path ≡ Some n → nat_lt n (length fields) ≡ true
field_in_range fields path inputs n e =
    let f : IsFound (has_path path) fields n = found (has_path path) fields n e in
    let lt : n < length fields = slice_get_within fields n f.item f.here in
    grind (arith, nat_tests, lt)

pub mapped : (f : ℕ → HwExpr) (o : Option ℕ) (e : HwExpr) → option_map f o ≡ Some e → (n : ℕ) × (o ≡ Some n) × (f n ≡ e)
mapped f None e q = cc
mapped f (Some n) e q = (n, refl, same_expr (f n) e q)

in_range : (fields : List NamedField) (input : Option ℕ) (inputs : ℕ) (ne : NamedExpr) (e : HwExpr) → ((n : ℕ) → input ≡ Some n → n < inputs) → numbered fields input ne ≡ Some e → IsTrue (is_in_range (length fields) inputs e)
in_range fields input inputs named.Input e all q =
    let m = mapped expr.Input input e q in
    let lt : m.0 < inputs = all m.0 m.1 in
    subst (λ (x : HwExpr). is_in_range (length fields) inputs x ≡ true) m.2 (grind (arith, nat_tests, lt))
in_range fields input inputs (named.Value path) e all q = let m = mapped expr.Value (number_of fields path) e q in subst (λ (x : HwExpr). is_in_range (length fields) inputs x ≡ true) m.2 (field_in_range fields path inputs m.0 m.1)
in_range fields input inputs (named.Anded path) e all q = let m = mapped expr.Anded (number_of fields path) e q in subst (λ (x : HwExpr). is_in_range (length fields) inputs x ≡ true) m.2 (field_in_range fields path inputs m.0 m.1)
in_range fields input inputs (named.Ored path) e all q = let m = mapped expr.Ored (number_of fields path) e q in subst (λ (x : HwExpr). is_in_range (length fields) inputs x ≡ true) m.2 (field_in_range fields path inputs m.0 m.1)
in_range fields input inputs (named.Xored path) e all q = let m = mapped expr.Xored (number_of fields path) e q in subst (λ (x : HwExpr). is_in_range (length fields) inputs x ≡ true) m.2 (field_in_range fields path inputs m.0 m.1)

pub no_input : (inputs n : ℕ) → None ≡ Some n → n < inputs
no_input inputs n e = cc

all_in_range : (top : Component) (words : List ℕ) (fields : List NamedField) (k : ℕ) (f : Field) (h : Here top words fields k f)
    → AllCome fields (numbers_of fields k h.field) (trail_of top h.field h.source) (λ e. IsTrue (is_in_range (length fields) (length (inputs_of fields)) e)) (λ e. IsTrue (is_in_range (length fields) (length (inputs_of fields)) e))
all_in_range top words fields k f h =
    let base : ℕ = base_at 0 fields k in
    let i = h.field.inputs in
    let size : ℕ = length (inputs_of fields) in
    record {
      we = λ ne e o. in_range fields _ (length (inputs_of fields)) ne e (λ n q. (is_there fields k n h.field h.at (we_own h.field.inputs (base_at 0 fields k) n q)).below);
      wel = λ ne e o. in_range fields _ (length (inputs_of fields)) ne e (λ n q. (is_there fields k n h.field h.at (wel_own h.field.inputs (base_at 0 fields k) n q)).below);
      hwset = λ ne e o. in_range fields _ (length (inputs_of fields)) ne e (λ n q. (is_there fields k n h.field h.at (hwset_own h.field.inputs (base_at 0 fields k) n q)).below);
      hwclr = λ ne e o. in_range fields _ (length (inputs_of fields)) ne e (λ n q. (is_there fields k n h.field h.at (hwclr_own h.field.inputs (base_at 0 fields k) n q)).below);
      swwe = λ ne e o. in_range fields _ (length (inputs_of fields)) ne e (λ n q. (is_there fields k n h.field h.at (swwe_own h.field.inputs (base_at 0 fields k) n q)).below);
      swwel = λ ne e o. in_range fields _ (length (inputs_of fields)) ne e (λ n q. (is_there fields k n h.field h.at (swwel_own h.field.inputs (base_at 0 fields k) n q)).below);
      incr = λ ne e o. in_range fields _ (length (inputs_of fields)) ne e (λ n q. (is_there fields k n h.field h.at (incr_own h.field.inputs (base_at 0 fields k) n q)).below);
      decr = λ ne e o. in_range fields _ (length (inputs_of fields)) ne e (λ n q. (is_there fields k n h.field h.at (decr_own h.field.inputs (base_at 0 fields k) n q)).below);
      hwenable = λ ne e o. in_range fields None (length (inputs_of fields)) ne e (no_input (length (inputs_of fields)));
      hwmask = λ ne e o. in_range fields None (length (inputs_of fields)) ne e (no_input (length (inputs_of fields)));
      enable = λ ne e o. in_range fields None (length (inputs_of fields)) ne e (no_input (length (inputs_of fields)));
      mask = λ ne e o. in_range fields None (length (inputs_of fields)) ne e (no_input (length (inputs_of fields)));
    }

pub are_in_range : (top : Component) (words : List ℕ) (given_fields : List NamedField) (fields : List Field) (inputs : List HwInput) → IsMap top words given_fields fields → inputs ≡ inputs_of given_fields → AreInRange fields inputs
are_in_range top words gs fields inputs m same =
    let many : length fields ≡ length gs = as_many words gs 0 0 gs fields m.from in
    let size : length inputs ≡ length (inputs_of gs) = ap length same in
    record {
      exprs = λ k f e.
          let h : Here top words gs k f = here top words gs fields m k f e in
          subst (λ (n : ℕ). EachExpr (is_in_range n (length inputs)) (is_in_range n (length inputs)) f) (sym many)
          (subst (λ (n : ℕ). EachExpr (is_in_range (length gs) n) (is_in_range (length gs) n) f) (sym size)
          (each_expr top words gs k f h (is_in_range (length gs) (length (inputs_of gs))) (is_in_range (length gs) (length (inputs_of gs))) (all_in_range top words gs k f h)));
      sources = λ k f e n q.
          let h : Here top words gs k f = here top words gs fields m k f e in
          let d : IsData gs n h.field = is_data gs k n h.field h.at (sym h.is.rest.data_in ∙ q) in
          omega (arith, d.below, size);
      members = λ n f e i k q.
          let h : Here top words gs n f = here top words gs fields m n f e in
          let b : IsMember h.field.spot.register gs 0 k = member_of top words gs n f h i k q in
          let lt : b.at < length gs = slice_get_within gs b.at b.field b.here in
          omega (arith, b.counted, lt, many);
      owners = λ i h q.
          let x : IsInput gs 0 h = input_is 0 gs h (subst (λ (xs : List HwInput). Has h xs) same (has_at inputs i h q)) in
          let lt : x.at < length gs = slice_get_within gs x.at x.field x.here in
          omega (arith, x.numbered, lt, many);
    }
