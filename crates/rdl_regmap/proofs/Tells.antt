-- All of a field can be told where nothing is refused.
use Rattle.std.proofs.Common.{◌≡◌, inl, inr, ℕ, zero, suc, ◌*◌, ◌^◌, ◌<◌, ◌≤◌, Bool, true, false, ◌&&◌, ◌||◌, List, Option, Some, None, is_some, refl, arith, if◌then◌else◌}
use Rattle.std.proofs.lemmas.Bool.Decides.{nat_tests}
use Rattle.std.proofs.lemmas.Nat.{pow_pos}
use Rattle.std.proofs.Math.Nat.{pow-succ'}
use Rattle.rdl_text.specs.declared.property.Property.TheVariants as p
use Rattle.rdl_text.specs.Components.{Component}
use Rattle.rdl_values.specs.OneFrame.{Trail}
use Rattle.rdl_values.specs.Values.{number_at, in_effect}
use Rattle.rdl_values.specs.Accesses.{sw_at}
use Rattle.rdl_values.specs.Fields.{width_at, has_data, is_over}
use Rattle.rdl_effects.specs.Fields.{is_overstep, is_no_counter, is_miscounted}
use Rattle.rdl_effects.specs.Registers.{number_or}
use Rattle.rdl_fields.specs.declared.named.NamedExpr.{NamedExpr}
use Rattle.rdl_fields.specs.declared.named.NamedExpr.TheVariants as named
use Rattle.rdl_fields.specs.declared.named.NamedExtra.TheVariants as extra
use Rattle.rdl_fields.specs.declared.named.NamedCounter.{NamedCounter}
use Rattle.rdl_fields.specs.declared.named.NamedIntr.{NamedIntr}
use Rattle.rdl_fields.specs.declared.named.NamedField.{NamedField}
use Rattle.rdl_fields.specs.Exprs.{expr_at, asks}
use Rattle.rdl_fields.specs.Parts.{acts, counts_by_itself, counter_at, intr_at, extra_at, inputs_at}
use Rattle.rdl_fields.specs.Fields.{field_at}
use Rattle.rdl_fields.specs.Registers.{fields_below}
use Rattle.rdl_numbers.specs.Numbers.{numbered}
use Rattle.rdl_map.specs.declared.signal.InputNumbers.{InputNumbers}
use Rattle.rdl_map.specs.Signals.{number_if, numbers_from}
use Rattle.rdl_map.specs.Given.{given_expr, given_gate}
use Rattle.rdl_map.specs.Extras.{is_counter_told, is_extra_told}
use Rattle.rdl_map.specs.Fields.{are_gates_told}
use Rattle.rdl_regmap.proofs.Instances.{no_left, no_right}
use Rattle.rdl_regmap.proofs.Forms.{is_flagorbit_form, is_whole_form}
use Rattle.rdl_regmap.proofs.References.{HasField}
use Rattle.rdl_regmap.proofs.Told.{FindsAll, IsBelow, refers_found, whole_not_asked, expr_found, expr_told, gate_told, gate_if_told}
use Rattle.rdl_regmap.proofs.Words.{small_told, below_word}

-- each reference of a field is found
pub record FindsEach (given : List NamedField) (t : Trail) : Type 0 where
  pub we : FindsAll given t p.We
  pub wel : FindsAll given t p.Wel
  pub hwset : FindsAll given t p.Hwset
  pub hwclr : FindsAll given t p.Hwclr
  pub swwe : FindsAll given t p.Swwe
  pub swwel : FindsAll given t p.Swwel
  pub incr : FindsAll given t p.Incr
  pub decr : FindsAll given t p.Decr
  pub hwenable : FindsAll given t p.Hwenable
  pub hwmask : FindsAll given t p.Hwmask
  pub enable : FindsAll given t p.Enable
  pub mask : FindsAll given t p.Mask
  pub no_hwenable : asks t p.Hwenable ≡ false
  pub no_hwmask : asks t p.Hwmask ≡ false
  pub no_enable : asks t p.Enable ≡ false
  pub no_mask : asks t p.Mask ≡ false

pub finds_each : (top : Component) (t : Trail) (d : Component) (given : List NamedField) → IsBelow top t d → ((path : List ℕ) → HasField path (fields_below (Some top)) → HasField path given) → FindsEach given t
finds_each top t d given b move = record {
  we = refers_found top t d p.We given b (λ f e. inl (is_flagorbit_form f e)) move;
  wel = refers_found top t d p.Wel given b (λ f e. inl (is_flagorbit_form f e)) move;
  hwset = refers_found top t d p.Hwset given b (λ f e. inl (is_flagorbit_form f e)) move;
  hwclr = refers_found top t d p.Hwclr given b (λ f e. inl (is_flagorbit_form f e)) move;
  swwe = refers_found top t d p.Swwe given b (λ f e. inl (is_flagorbit_form f e)) move;
  swwel = refers_found top t d p.Swwel given b (λ f e. inl (is_flagorbit_form f e)) move;
  incr = refers_found top t d p.Incr given b (λ f e. inl (is_flagorbit_form f e)) move;
  decr = refers_found top t d p.Decr given b (λ f e. inl (is_flagorbit_form f e)) move;
  hwenable = refers_found top t d p.Hwenable given b (λ f e. inr (is_whole_form f e)) move;
  hwmask = refers_found top t d p.Hwmask given b (λ f e. inr (is_whole_form f e)) move;
  enable = refers_found top t d p.Enable given b (λ f e. inr (is_whole_form f e)) move;
  mask = refers_found top t d p.Mask given b (λ f e. inr (is_whole_form f e)) move;
  no_hwenable = whole_not_asked top t d p.Hwenable b.way (λ f e. is_whole_form f e);
  no_hwmask = whole_not_asked top t d p.Hwmask b.way (λ f e. is_whole_form f e);
  no_enable = whole_not_asked top t d p.Enable b.way (λ f e. is_whole_form f e);
  no_mask = whole_not_asked top t d p.Mask b.way (λ f e. is_whole_form f e);
}

-- ---- the numbers of inputs

pub number_there : (b : Bool) (n : ℕ) → b ≡ true → is_some (number_if b n) ≡ true
number_there true n e = refl
number_there false n e = cc

abbrev no_number : Option ℕ
no_number = None

none_asked : (b : Bool) → b ≡ false → b ≡ true → is_some (no_number) ≡ true
none_asked true e f = cc
none_asked false e f = cc

-- ---- its gates

all_five : (a b c d e : Bool) → a ≡ true → b ≡ true → c ≡ true → d ≡ true → e ≡ true → (a && (b && (c && (d && e)))) ≡ true
all_five true true true true true f g h i j = refl
all_five false b c d e f g h i j = cc
all_five true false c d e f g h i j = cc
all_five true true false d e f g h i j = cc
all_five true true true false e f g h i j = cc
all_five true true true true false f g h i j = cc

pub gates_told : (given : List NamedField) (base register access low : ℕ) (t : Trail) → FindsEach given t → are_gates_told given (numbers_from base (inputs_at t)) (field_at register access low t) ≡ true
gates_told given base register access low t f =
    let n : InputNumbers = numbers_from base (inputs_at t) in
    all_five _ _ _ _ _
    (gate_if_told given n.swwe n.swwel (sw_at t).writable t p.Swwe p.Swwel
    (gate_told given n.swwe n.swwel t p.Swwe p.Swwel (expr_found given n.swwe t p.Swwe f.swwe (number_there (asks t p.Swwe) _)) (expr_found given n.swwel t p.Swwel f.swwel (number_there (asks t p.Swwel) _))))
    (gate_if_told given n.we n.wel (has_data t) t p.We p.Wel
    (gate_told given n.we n.wel t p.We p.Wel (expr_found given n.we t p.We f.we (number_there (asks t p.We) _)) (expr_found given n.wel t p.Wel f.wel (number_there (asks t p.Wel) _))))
    (expr_told given n.hwset (expr_at t p.Hwset) (expr_found given n.hwset t p.Hwset f.hwset (number_there (asks t p.Hwset) _)))
    (expr_told given n.hwclr (expr_at t p.Hwclr) (expr_found given n.hwclr t p.Hwclr f.hwclr (number_there (asks t p.Hwclr) _)))
    (gate_if_told given None None (acts t) t p.Hwenable p.Hwmask
    (gate_told given None None t p.Hwenable p.Hwmask (expr_found given None t p.Hwenable f.hwenable (none_asked (asks t p.Hwenable) f.no_hwenable)) (expr_found given None t p.Hwmask f.hwmask (none_asked (asks t p.Hwmask) f.no_hwmask))))

-- ---- what it counts

all_four : (a b c d : Bool) → a ≡ true → b ≡ true → c ≡ true → d ≡ true → (a && (b && (c && d))) ≡ true
all_four true true true true f g h i = refl
all_four false b c d f g h i = cc
all_four true false c d f g h i = cc
all_four true true false d f g h i = cc
all_four true true true false f g h i = cc

incr_by : (given : List NamedField) (by_itself asked : Bool) (n : ℕ) (o : Option NamedExpr)
    → ((e : NamedExpr) → o ≡ Some e → (by_itself ≡ false) → is_some (numbered given (number_if asked n) e) ≡ true)
    → is_some (given_expr given (number_if (by_itself || asked) n) (if by_itself then Some named.Input else o)) ≡ true
incr_by given true asked n o all = refl
incr_by given false asked n o all = expr_told given (number_if asked n) o (λ e is. all e is refl)

-- the steps of a counter fit
pub record AreSteps (t : Trail) : Type 0 where
  pub up : number_or 1 (number_at t p.Incrvalue) < 2 ^ width_at t
  pub down : number_or 1 (number_at t p.Decrvalue) < 2 ^ width_at t

step_fits : (width : ℕ) (o : Option ℕ) → 1 ≤ width → is_over width o ≡ false → number_or 1 o < 2 ^ width
step_fits zero o some out = absurd (omega (arith, some))
step_fits (suc n) None some out = let q : 0 < 2 ^ n = pow_pos n in let e : 2 ^ suc n ≡ 2 * 2 ^ n = pow-succ' 2 n in omega (arith, q, e)
step_fits (suc n) (Some m) some out = grind (arith, nat_tests, out)

no_both : (a b : Bool) → a ≡ true → (a && b) ≡ false → b ≡ false
no_both true b e f = f
no_both false b e f = cc

pub no_counter : (t : Trail) → in_effect t p.Counter ≡ true → is_miscounted t ≡ false → is_no_counter t ≡ false
no_counter t on out = no_both (in_effect t p.Counter) (is_no_counter t) on (no_left (in_effect t p.Counter && is_no_counter t) _ out)

pub are_steps : (t : Trail) → 1 ≤ width_at t → in_effect t p.Counter ≡ true → is_miscounted t ≡ false → AreSteps t
are_steps t some on out =
    let c : is_no_counter t ≡ false = no_counter t on out in
    let down : is_over (width_at t) (number_at t p.Decrvalue) ≡ false = no_right _ (is_overstep t p.Decrvalue) c in
    let up : is_over (width_at t) (number_at t p.Incrvalue) ≡ false = no_right _ (is_overstep t p.Incrvalue) (no_left _ (is_overstep t p.Decrvalue) c) in
    record { up = step_fits (width_at t) (number_at t p.Incrvalue) some up; down = step_fits (width_at t) (number_at t p.Decrvalue) some down }

extra_by : (given : List NamedField) (n : InputNumbers) (a b : Bool) (c : NamedCounter) (i : NamedIntr) → (a ≡ true → is_counter_told given n c ≡ true) → is_some (given_gate given None None i.filter) ≡ true
    → is_extra_told given n (if a then extra.Counter c else if b then extra.Intr i else extra.Plain) ≡ true
extra_by given n true b c i f g = f refl
extra_by given n false true c i f g = g
extra_by given n false false c i f g = refl

pub extra_told : (given : List NamedField) (base : ℕ) (t : Trail) → FindsEach given t → 1 ≤ width_at t → width_at t ≤ 32 → is_miscounted t ≡ false
    → is_extra_told given (numbers_from base (inputs_at t)) (extra_at t) ≡ true
extra_told given base t f some le out =
    let n : InputNumbers = numbers_from base (inputs_at t) in
    extra_by given n (in_effect t p.Counter) (in_effect t p.Intr) (counter_at t) (intr_at t)
    (λ on.
    let s : AreSteps t = are_steps t some on out in
    all_four _ _ _ _
    (incr_by given (counts_by_itself t) (asks t p.Incr) _ (expr_at t p.Incr) (λ e is not_alone. expr_found given _ t p.Incr f.incr (number_there (asks t p.Incr) _) e is))
    (expr_told given n.decr (expr_at t p.Decr) (expr_found given n.decr t p.Decr f.decr (number_there (asks t p.Decr) _)))
    (small_told (number_or 1 (number_at t p.Incrvalue)) (below_word (width_at t) (number_or 1 (number_at t p.Incrvalue)) le s.up))
    (small_told (number_or 1 (number_at t p.Decrvalue)) (below_word (width_at t) (number_or 1 (number_at t p.Decrvalue)) le s.down)))
    (gate_told given None None t p.Enable p.Mask (expr_found given None t p.Enable f.enable (none_asked (asks t p.Enable) f.no_enable)) (expr_found given None t p.Mask f.mask (none_asked (asks t p.Mask) f.no_mask)))
