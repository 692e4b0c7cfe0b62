-- Counters and interrupts of a map.
use Rattle.std.proofs.Common.{◌≡◌, ◌≢◌, inl, inr, ℕ, zero, suc, ◌+◌, ◌<◌, ◌≤◌, Bool, true, false, ◌&&◌, ◌||◌, ◌==◌, not, List, [], ◌∷◌, ◌++◌, length, Option, Some, None, is_some, is_none, slice_get, refl, sym, ◌∙◌, ap, subst, arith, if◌then◌else◌}
use Rattle.std.proofs.lemmas.Bool.{cases_Bool, true≢false}
use Rattle.std.proofs.lemmas.Bool.Decides.{nat_tests}
use Rattle.field_policies.specs.declared.field.Field.{Field}
use Rattle.field_policies.specs.declared.extra.Extra.{Extra}
use Rattle.field_policies.specs.declared.extra.Extra.TheVariants as extra
use Rattle.field_policies.specs.declared.extra.Counter.{Counter}
use Rattle.field_policies.specs.declared.signal.Shown.{Shown}
use Rattle.std.specs.Prelude.{⊤}
use Rattle.field_policies.specs.Fields.{is_counter, is_intr, members_of}
use Rattle.field_policies.specs.Maps.{AreCounters, AreInterrupts, AreMembers}
use Rattle.rdl_text.specs.declared.property.Property.{Property}
use Rattle.rdl_text.specs.declared.property.Property.TheVariants as p
use Rattle.rdl_text.specs.Components.{Component}
use Rattle.rdl_values.specs.OneFrame.{Trail}
use Rattle.rdl_values.specs.Values.{number_at, reset_at, in_effect, any_in_effect, is_assigned}
use Rattle.rdl_values.specs.Accesses.{hw_at}
use Rattle.rdl_values.specs.Fields.{width_at, takes_data, has_data, is_acted_on, is_wire}
use Rattle.rdl_effects.specs.Fields.{is_no_counter, has_counts, is_miscounted, is_no_interrupt, is_misraised, is_overstep}
use Rattle.rdl_effects.specs.Registers.{number_or}
use Rattle.rdl_fields.specs.declared.named.NamedExtra.{NamedExtra}
use Rattle.rdl_fields.specs.declared.named.NamedExtra.TheVariants as given
use Rattle.rdl_fields.specs.declared.named.NamedCounter.{NamedCounter}
use Rattle.rdl_fields.specs.declared.named.NamedIntr.{NamedIntr}
use Rattle.rdl_fields.specs.declared.named.NamedField.{NamedField}
use Rattle.rdl_fields.specs.Parts.{counter_at, intr_at, extra_at}
use Rattle.rdl_map.specs.declared.signal.InputNumbers.{InputNumbers}
use Rattle.rdl_map.specs.Signals.{numbers_from}
use Rattle.rdl_map.specs.Extras as extras
use Rattle.rdl_map.specs.Extras.{IsExtraOf, IsCounterOf, IsIntrOf, interrupts, number_when, interrupts_from, begins_with, is_first, members_at}
use Rattle.rdl_regmap.proofs.Has.{Has}
use Rattle.rdl_regmap.proofs.Instances.{no_left, no_right, yes_left, yes_right}
use Rattle.rdl_regmap.proofs.Givens.{trail_of}
use Rattle.rdl_regmap.proofs.Tells.{AreSteps, are_steps, no_counter}
use Rattle.rdl_regmap.proofs.Made.{below_power, base_at, IsMap, Here, here, wire_of, none_in_effect, some_number, known_wire}

-- ---- what an extra is

counter_from : (a b : Bool) (c : NamedCounter) (i : NamedIntr) (g : NamedCounter) → (if a then given.Counter c else if b then given.Intr i else given.Plain) ≡ given.Counter g → (a ≡ true) × (c ≡ g)
counter_from true b c i g e = (refl, cc)
counter_from false true c i g e = cc
counter_from false false c i g e = cc

intr_from : (a b : Bool) (c : NamedCounter) (i : NamedIntr) (g : NamedIntr) → (if a then given.Counter c else if b then given.Intr i else given.Plain) ≡ given.Intr g → (a ≡ false) × (b ≡ true)
intr_from true b c i g e = cc
intr_from false true c i g e = (refl, refl)
intr_from false false c i g e = cc

pub record CounterFacts (t : Trail) (c : Counter) : Type 0 where
  pub on : in_effect t p.Counter ≡ true
  pub up : c.up ≡ number_or 1 (number_at t p.Incrvalue)
  pub down : c.down ≡ number_or 1 (number_at t p.Decrvalue)

counter_by : (given_fields : List NamedField) (numbers : InputNumbers) (n register : ℕ) (t : Trail) (x : NamedExtra) (y : Extra) (c : Counter) → extra_at t ≡ x → IsExtraOf given_fields numbers n register x y → y ≡ extra.Counter c
    → CounterFacts t c
counter_by fields numbers n register t given.Plain extra.Plain c q is e = cc
counter_by fields numbers n register t given.Plain (extra.Counter d) c q is e = absurd is
counter_by fields numbers n register t given.Plain (extra.Intr d) c q is e = cc
counter_by fields numbers n register t (given.Counter g) extra.Plain c q is e = cc
counter_by fields numbers n register t (given.Counter g) (extra.Counter d) c q is e =
    let s : d ≡ c = same_counter d c e in
    let f : (in_effect t p.Counter ≡ true) × (counter_at t ≡ g) = counter_from (in_effect t p.Counter) (in_effect t p.Intr) (counter_at t) (intr_at t) g q in
    record { on = f.0; up = ap (λ (z : Counter). z.up) (sym s) ∙ is.up ∙ ap (λ (z : NamedCounter). z.up) (sym f.1); down = ap (λ (z : Counter). z.down) (sym s) ∙ is.down ∙ ap (λ (z : NamedCounter). z.down) (sym f.1) }
  where
    same_counter : (a b : Counter) → extra.Counter a ≡ extra.Counter b → a ≡ b
    same_counter a b r = cc
counter_by fields numbers n register t (given.Counter g) (extra.Intr d) c q is e = cc
counter_by fields numbers n register t (given.Intr g) extra.Plain c q is e = cc
counter_by fields numbers n register t (given.Intr g) (extra.Counter d) c q is e = absurd is
counter_by fields numbers n register t (given.Intr g) (extra.Intr d) c q is e = cc

counter_on : (given_fields : List NamedField) (numbers : InputNumbers) (n register : ℕ) (t : Trail) (y : Extra) → IsExtraOf given_fields numbers n register (extra_at t) y → is_counter y ≡ true → in_effect t p.Counter ≡ true
counter_on fields numbers n register t extra.Plain is e = cc
counter_on fields numbers n register t (extra.Counter d) is e = (counter_by fields numbers n register t (extra_at t) (extra.Counter d) d refl is refl).on
counter_on fields numbers n register t (extra.Intr d) is e = cc

is_counter_by : (given_fields : List NamedField) (numbers : InputNumbers) (n register : ℕ) (a b : Bool) (c : NamedCounter) (i : NamedIntr) (y : Extra) → a ≡ true
    → IsExtraOf given_fields numbers n register (if a then given.Counter c else if b then given.Intr i else given.Plain) y → is_counter y ≡ true
is_counter_by fields numbers n register true b c i extra.Plain on is = absurd is
is_counter_by fields numbers n register true b c i (extra.Counter d) on is = refl
is_counter_by fields numbers n register true b c i (extra.Intr d) on is = absurd is
is_counter_by fields numbers n register false b c i y on is = cc

pub extra_of : (top : Component) (words : List ℕ) (given_fields : List NamedField) (k : ℕ) (f : Field) (h : Here top words given_fields k f)
    → IsExtraOf given_fields (numbers_from (base_at 0 given_fields k) h.field.inputs) k h.field.spot.register (extra_at (trail_of top h.field h.source)) f.extra
extra_of top words given_fields k f h =
    subst (λ (x : NamedExtra). IsExtraOf given_fields (numbers_from (base_at 0 given_fields k) h.field.inputs) k h.field.spot.register x f.extra)
    (ap (λ (x : NamedField). x.extra) h.source.field.is) h.is.extra

-- ---- counters

not_false : (b : Bool) → (b ≡ false → ⊥) → b ≡ true
not_false true f = refl
not_false false f = absurd (f refl)

none_given : {A : Type 0} (w : Bool) (o : Option A) → is_none o ≡ false → (w || is_some o) ≡ true
none_given true None e = refl
none_given false None e = cc
none_given true (Some x) e = refl
none_given false (Some x) e = refl

-- a counter has no data input, and a reset
pub record IsCounting (t : Trail) : Type 0 where
  pub alone : has_data t ≡ false
  pub reset : is_none (reset_at t) ≡ false

counting : (t : Trail) → in_effect t p.Counter ≡ true → is_miscounted t ≡ false → IsCounting t
counting t on out =
    let c : is_no_counter t ≡ false = no_counter t on out in
    let a : (has_data t || any_in_effect t (p.We ∷ p.Wel ∷ p.Hwenable ∷ p.Hwmask ∷ p.Singlepulse ∷ []) || is_none (reset_at t)) ≡ false = no_left _ (is_overstep t p.Incrvalue) (no_left _ (is_overstep t p.Decrvalue) c) in
    record { alone = no_left (has_data t) _ (no_left _ (is_none (reset_at t)) a); reset = no_right _ (is_none (reset_at t)) a }

shown_counts : (t : Trail) (q : Property) → Has q (p.Incrsaturate ∷ p.Decrsaturate ∷ p.Overflow ∷ p.Underflow ∷ p.Incr ∷ p.Decr ∷ []) → is_miscounted t ≡ false → in_effect t q ≡ true → in_effect t p.Counter ≡ true
shown_counts t q h out on = not_false (in_effect t p.Counter) (λ off.
    let b : (not (in_effect t p.Counter) && has_counts t) ≡ false = no_right (in_effect t p.Counter && is_no_counter t) _ out in
    let c : has_counts t ≡ false = rw off at b in
    let d : any_in_effect t (p.Incrsaturate ∷ p.Decrsaturate ∷ p.Overflow ∷ p.Underflow ∷ p.Incr ∷ p.Decr ∷ []) ≡ false = no_left _ (is_assigned t p.Incrvalue) (no_left _ (is_assigned t p.Decrvalue) c) in
    true≢false (sym on ∙ none_in_effect t (p.Incrsaturate ∷ p.Decrsaturate ∷ p.Overflow ∷ p.Underflow ∷ p.Incr ∷ p.Decr ∷ []) q d h))

pub are_counters : (top : Component) (words : List ℕ) (given_fields : List NamedField) (fields : List Field) → IsMap top words given_fields fields → AreCounters fields
are_counters top words given_fields fields m = record {
  up = λ k f e c is.
      let h : Here top words given_fields k f = here top words given_fields fields m k f e in
      let x : CounterFacts (trail_of top h.field h.source) c = counter_by given_fields _ k h.field.spot.register (trail_of top h.field h.source) _ f.extra c refl (extra_of top words given_fields k f h) is in
      let s : AreSteps (trail_of top h.field h.source) = are_steps (trail_of top h.field h.source) h.own.some x.on h.valued.counted in
      let w : f.width ≡ width_at (trail_of top h.field h.source) = h.is.position.width ∙ h.numbers.width in
      below_power c.up f.width _ _ x.up w s.up;
  down = λ k f e c is.
      let h : Here top words given_fields k f = here top words given_fields fields m k f e in
      let x : CounterFacts (trail_of top h.field h.source) c = counter_by given_fields _ k h.field.spot.register (trail_of top h.field h.source) _ f.extra c refl (extra_of top words given_fields k f h) is in
      let s : AreSteps (trail_of top h.field h.source) = are_steps (trail_of top h.field h.source) h.own.some x.on h.valued.counted in
      let w : f.width ≡ width_at (trail_of top h.field h.source) = h.is.position.width ∙ h.numbers.width in
      below_power c.down f.width _ _ x.down w s.down;
  stored = λ k f e is.
      let h : Here top words given_fields k f = here top words given_fields fields m k f e in
      let t : Trail = trail_of top h.field h.source in
      let on : in_effect (trail_of top h.field h.source) p.Counter ≡ true = counter_on given_fields _ k h.field.spot.register (trail_of top h.field h.source) f.extra (extra_of top words given_fields k f h) is in
      let c : IsCounting (trail_of top h.field h.source) = counting (trail_of top h.field h.source) on h.valued.counted in
      wire_of top words given_fields k f h ∙ off_wire (trail_of top h.field h.source) c.alone;
  known = λ k f e is.
      let h : Here top words given_fields k f = here top words given_fields fields m k f e in
      let on : in_effect (trail_of top h.field h.source) p.Counter ≡ true = counter_on given_fields _ k h.field.spot.register (trail_of top h.field h.source) f.extra (extra_of top words given_fields k f h) is in
      let c : IsCounting (trail_of top h.field h.source) = counting (trail_of top h.field h.source) on h.valued.counted in
      h.is.rest.starts_known ∙ ap (λ (x : NamedField). x.start.known) h.source.field.is ∙ none_given (is_wire (trail_of top h.field h.source)) (reset_at (trail_of top h.field h.source)) c.reset;
  overflow = λ k f e on.
      let h : Here top words given_fields k f = here top words given_fields fields m k f e in
      let s : in_effect (trail_of top h.field h.source) p.Overflow ≡ true =
      ap (λ (x : NamedField). x.shown.overflow) (sym h.source.field.is) ∙ ap (λ (x : Shown). x.overflow) (sym h.is.rest.shown) ∙ on in
      let c : in_effect (trail_of top h.field h.source) p.Counter ≡ true = shown_counts (trail_of top h.field h.source) p.Overflow (inr (inr (inl refl))) h.valued.counted s in
      is_counter_by given_fields _ k h.field.spot.register (in_effect (trail_of top h.field h.source) p.Counter) (in_effect (trail_of top h.field h.source) p.Intr) (counter_at (trail_of top h.field h.source)) (intr_at (trail_of top h.field h.source)) f.extra c (extra_of top words given_fields k f h);
  underflow = λ k f e on.
      let h : Here top words given_fields k f = here top words given_fields fields m k f e in
      let s : in_effect (trail_of top h.field h.source) p.Underflow ≡ true =
      ap (λ (x : NamedField). x.shown.underflow) (sym h.source.field.is) ∙ ap (λ (x : Shown). x.underflow) (sym h.is.rest.shown) ∙ on in
      let c : in_effect (trail_of top h.field h.source) p.Counter ≡ true = shown_counts (trail_of top h.field h.source) p.Underflow (inr (inr (inr (inl refl)))) h.valued.counted s in
      is_counter_by given_fields _ k h.field.spot.register (in_effect (trail_of top h.field h.source) p.Counter) (in_effect (trail_of top h.field h.source) p.Intr) (counter_at (trail_of top h.field h.source)) (intr_at (trail_of top h.field h.source)) f.extra c (extra_of top words given_fields k f h);
}
  where
    no_data : (a b : Bool) → (a || b) ≡ false → b ≡ false
    no_data true b e = cc
    no_data false b e = e

    and_off : (a b : Bool) → a ≡ false → (a && b) ≡ false
    and_off true b e = cc
    and_off false b e = refl

    off_wire : (t : Trail) → has_data t ≡ false → is_wire t ≡ false
    off_wire t out = and_off _ (not (is_acted_on t)) (and_off (takes_data t) _ (no_data (in_effect t p.Intr) (takes_data t) out))

-- ---- interrupts

intr_on_by : (given_fields : List NamedField) (numbers : InputNumbers) (n register : ℕ) (t : Trail) (x : NamedExtra) (y : Extra) → extra_at t ≡ x → IsExtraOf given_fields numbers n register x y → is_intr y ≡ true → in_effect t p.Intr ≡ true
intr_on_by fields numbers n register t given.Plain extra.Plain q is e = cc
intr_on_by fields numbers n register t given.Plain (extra.Counter d) q is e = cc
intr_on_by fields numbers n register t given.Plain (extra.Intr d) q is e = absurd is
intr_on_by fields numbers n register t (given.Counter g) extra.Plain q is e = cc
intr_on_by fields numbers n register t (given.Counter g) (extra.Counter d) q is e = cc
intr_on_by fields numbers n register t (given.Counter g) (extra.Intr d) q is e = absurd is
intr_on_by fields numbers n register t (given.Intr g) extra.Plain q is e = cc
intr_on_by fields numbers n register t (given.Intr g) (extra.Counter d) q is e = cc
intr_on_by fields numbers n register t (given.Intr g) (extra.Intr d) q is e = (intr_from (in_effect t p.Counter) (in_effect t p.Intr) (counter_at t) (intr_at t) g q).1

-- an interrupt field of the description is one of the map, and the other way round
intr_both : (given_fields : List NamedField) (numbers : InputNumbers) (n register : ℕ) (x : NamedExtra) (y : Extra) → IsExtraOf given_fields numbers n register x y → extras.is_intr x ≡ is_intr y
intr_both fields numbers n register given.Plain extra.Plain is = refl
intr_both fields numbers n register given.Plain (extra.Counter d) is = absurd is
intr_both fields numbers n register given.Plain (extra.Intr d) is = absurd is
intr_both fields numbers n register (given.Counter g) extra.Plain is = absurd is
intr_both fields numbers n register (given.Counter g) (extra.Counter d) is = refl
intr_both fields numbers n register (given.Counter g) (extra.Intr d) is = absurd is
intr_both fields numbers n register (given.Intr g) extra.Plain is = absurd is
intr_both fields numbers n register (given.Intr g) (extra.Counter d) is = absurd is
intr_both fields numbers n register (given.Intr g) (extra.Intr d) is = refl

-- the members of an interrupt field, none of any other
members_are : (given_fields : List NamedField) (numbers : InputNumbers) (n register : ℕ) (x : NamedExtra) (y : Extra) → IsExtraOf given_fields numbers n register x y
    → members_of y ≡ (if extras.is_intr x then members_at given_fields n register else [])
members_are fields numbers n register given.Plain extra.Plain is = refl
members_are fields numbers n register given.Plain (extra.Counter d) is = absurd is
members_are fields numbers n register given.Plain (extra.Intr d) is = absurd is
members_are fields numbers n register (given.Counter g) extra.Plain is = absurd is
members_are fields numbers n register (given.Counter g) (extra.Counter d) is = refl
members_are fields numbers n register (given.Counter g) (extra.Intr d) is = absurd is
members_are fields numbers n register (given.Intr g) extra.Plain is = absurd is
members_are fields numbers n register (given.Intr g) (extra.Counter d) is = absurd is
members_are fields numbers n register (given.Intr g) (extra.Intr d) is = is.members

-- ---- the numbers of a register's interrupt fields

pub record IsMember (register : ℕ) (gs : List NamedField) (number k : ℕ) : Type 0 where
  pub at : ℕ
  pub field : NamedField
  pub here : slice_get gs at ≡ Some field
  pub is : interrupts register field ≡ true
  pub counted : k ≡ number + at

member_by : (register number : ℕ) (gs : List NamedField) (k : ℕ) → Has k (interrupts_from number register gs) → IsMember register gs number k
member_by register number [] k h = absurd h
member_by register number (g ∷ gs) k h = elim (cases_Bool (interrupts register g)) [
  | inl on ↦ elim (subst (λ (b : Bool). Has k (number_when b number ++ interrupts_from (number + 1) register gs)) on h) [
    | inl e ↦ record { at = 0; field = g; here = refl; is = on; counted = omega (arith, e) }
    | inr r ↦ let m : IsMember register gs (number + 1) k = member_by register (number + 1) gs k r in record { at = suc m.at; field = m.field; here = m.here; is = m.is; counted = omega (arith, m.counted) }
  ]
  | inr off ↦
      let m : IsMember register gs (number + 1) k = member_by register (number + 1) gs k (subst (λ (b : Bool). Has k (number_when b number ++ interrupts_from (number + 1) register gs)) off h) in
      record { at = suc m.at; field = m.field; here = m.here; is = m.is; counted = omega (arith, m.counted) }
]

-- each is below those behind it
abbrev Rises : ℕ → List ℕ → Type 0
Rises low [] = ⊤
Rises low (k ∷ ks) = (low ≤ k) × Rises (k + 1) ks

rises_more : (low high : ℕ) (ks : List ℕ) → low ≤ high → Rises high ks → Rises low ks
rises_more low high [] le r = tt
rises_more low high (k ∷ ks) le r = (omega (arith, le, r.0), r.1)

all_rise : (register number : ℕ) (gs : List NamedField) → Rises number (interrupts_from number register gs)
all_rise register number [] = tt
all_rise register number (g ∷ gs) = elim (cases_Bool (interrupts register g)) [
  | inl on ↦ subst (λ (b : Bool). Rises number (number_when b number ++ interrupts_from (number + 1) register gs)) (sym on) (omega arith, all_rise register (number + 1) gs)
  | inr off ↦ subst (λ (b : Bool). Rises number (number_when b number ++ interrupts_from (number + 1) register gs)) (sym off) (rises_more number (number + 1) (interrupts_from (number + 1) register gs) (omega arith) (all_rise register (number + 1) gs))
]

same_nat : (a b : ℕ) → Some a ≡ Some b → a ≡ b
same_nat a b e = cc

at_least : (low : ℕ) (ks : List ℕ) (i a : ℕ) → Rises low ks → slice_get ks i ≡ Some a → low ≤ a
at_least low [] i a r e = cc
at_least low (k ∷ ks) zero a r e = let s : k ≡ a = same_nat k a e in omega (arith, s, r.0)
at_least low (k ∷ ks) (suc i) a r e = let m : k + 1 ≤ a = at_least (k + 1) ks i a r.1 e in omega (arith, m, r.0)

rising : (low : ℕ) (ks : List ℕ) (i j a b : ℕ) → Rises low ks → i < j → slice_get ks i ≡ Some a → slice_get ks j ≡ Some b → a < b
rising low [] i j a b r lt e f = cc
rising low (k ∷ ks) i zero a b r lt e f = absurd (omega (arith, lt))
rising low (k ∷ ks) zero (suc j) a b r lt e f = let s : k ≡ a = same_nat k a e in let m : k + 1 ≤ b = at_least (k + 1) ks j b r.1 f in omega (arith, s, m)
rising low (k ∷ ks) (suc i) (suc j) a b r lt e f = rising (k + 1) ks i j a b r.1 (omega (arith, lt)) e f

-- ---- a map's lists of interrupt fields

begins : (n : ℕ) (ks : List ℕ) → begins_with n ks ≡ true → slice_get ks 0 ≡ Some n
begins n [] e = cc
begins n (k ∷ ks) e = let s : k ≡ n = grind (arith, nat_tests, e) in ap Some s

pub record IsList (given_fields : List NamedField) (n register : ℕ) (ks : List ℕ) : Type 0 where
  pub all : ks ≡ interrupts_from 0 register given_fields
  pub first : slice_get ks 0 ≡ Some n

-- it is empty, or the list of the field's register
pub data ListCase (given_fields : List NamedField) (n register : ℕ) (ks : List ℕ) : Type 0 where
  IsEmpty : ks ≡ [] → ListCase given_fields n register ks
  IsWhole : IsList given_fields n register ks → ListCase given_fields n register ks

list_case : (given_fields : List NamedField) (n register : ℕ) (a b : Bool) → is_first given_fields n register ≡ b
    → ListCase given_fields n register (if a then (if b then interrupts_from 0 register given_fields else []) else [])
list_case fields n register false b e = ListCase.IsEmpty refl
list_case fields n register true false e = ListCase.IsEmpty refl
list_case fields n register true true e = ListCase.IsWhole (record { all = refl; first = begins n (interrupts_from 0 register fields) e })

pub list_of : (top : Component) (words : List ℕ) (given_fields : List NamedField) (k : ℕ) (f : Field) (h : Here top words given_fields k f) → ListCase given_fields k h.field.spot.register (members_of f.extra)
list_of top words given_fields k f h =
    subst (λ (ks : List ℕ). ListCase given_fields k h.field.spot.register ks) (sym (members_are given_fields _ k h.field.spot.register (extra_at (trail_of top h.field h.source)) f.extra (extra_of top words given_fields k f h)))
    (list_case given_fields k h.field.spot.register (extras.is_intr (extra_at (trail_of top h.field h.source))) (is_first given_fields k h.field.spot.register) refl)

no_member : (i k : ℕ) (ks : List ℕ) → ks ≡ [] → slice_get ks i ≡ Some k → ⊥
no_member i k [] e q = cc
no_member i k (x ∷ ks) e q = cc

has_get : (ks : List ℕ) (i k : ℕ) → slice_get ks i ≡ Some k → Has k ks
has_get ks i k e = Rattle.rdl_regmap.proofs.Has.has_at ks i k e

-- a member is an interrupt field of the same register
pub member_of : (top : Component) (words : List ℕ) (given_fields : List NamedField) (n : ℕ) (f : Field) (h : Here top words given_fields n f) (i k : ℕ) → slice_get (members_of f.extra) i ≡ Some k
    → IsMember h.field.spot.register given_fields 0 k
member_of top words given_fields n f h i k e = elim (list_of top words given_fields n f h) [
  | ListCase.IsEmpty none ↦ absurd (no_member i k (members_of f.extra) none e)
  | ListCase.IsWhole l ↦ member_by h.field.spot.register 0 given_fields k (has_get _ i k (ap (λ (ks : List ℕ). slice_get ks i) (sym l.all) ∙ e))
]

within_given : (gs : List NamedField) (k : ℕ) (g : NamedField) → slice_get gs k ≡ Some g → k < length gs
within_given gs k g e = Rattle.std.proofs.lemmas.Option.slice_get_within gs k g e

same_given : (a b : NamedField) → Some a ≡ Some b → a ≡ b
same_given a b e = cc

pub are_interrupts : (top : Component) (words : List ℕ) (given_fields : List NamedField) (fields : List Field) → IsMap top words given_fields fields → AreInterrupts fields
are_interrupts top words given_fields fields m = record {
  stored = λ k f e is.
      let h : Here top words given_fields k f = here top words given_fields fields m k f e in
      let on : in_effect (trail_of top h.field h.source) p.Intr ≡ true = intr_on_by given_fields _ k h.field.spot.register (trail_of top h.field h.source) _ f.extra refl (extra_of top words given_fields k f h) is in
      wire_of top words given_fields k f h ∙ no_wire (trail_of top h.field h.source) on;
  known = λ k f e is.
      let h : Here top words given_fields k f = here top words given_fields fields m k f e in
      let on : in_effect (trail_of top h.field h.source) p.Intr ≡ true = intr_on_by given_fields _ k h.field.spot.register (trail_of top h.field h.source) _ f.extra refl (extra_of top words given_fields k f h) is in
      h.is.rest.starts_known ∙ ap (λ (x : NamedField). x.start.known) h.source.field.is ∙ none_given (is_wire (trail_of top h.field h.source)) (reset_at (trail_of top h.field h.source)) (has_reset (trail_of top h.field h.source) on h.valued.raised);
  sources = λ k f e is.
      let h : Here top words given_fields k f = here top words given_fields fields m k f e in
      let on : in_effect (trail_of top h.field h.source) p.Intr ≡ true = intr_on_by given_fields _ k h.field.spot.register (trail_of top h.field h.source) _ f.extra refl (extra_of top words given_fields k f h) is in
      let yes_data : h.field.inputs.has_data ≡ true = ap (λ (x : NamedField). x.inputs.has_data) h.source.field.is ∙ known_wire (in_effect (trail_of top h.field h.source) p.Intr) _ on in
      λ q. some_number h.field.inputs.has_data (base_at 0 given_fields k) yes_data (sym h.is.rest.data_in ∙ q);
  members = λ n f e i k g at_i at_k.
      let h : Here top words given_fields n f = here top words given_fields fields m n f e in
      let b : IsMember h.field.spot.register given_fields 0 k = member_of top words given_fields n f h i k at_i in
      let r : Here top words given_fields k g = here top words given_fields fields m k g at_k in
      let place : k ≡ b.at = omega (arith, b.counted) in
      let same : b.field ≡ r.field = same_given b.field r.field (sym b.here ∙ ap (slice_get given_fields) (sym place) ∙ r.at) in
      let intr : extras.is_intr r.field.extra ≡ true = subst (λ (x : NamedField). extras.is_intr x.extra ≡ true) same (yes_left (extras.is_intr b.field.extra) _ b.is) in
      sym (intr_both given_fields _ k r.field.spot.register r.field.extra g.extra r.is.extra) ∙ intr;
  intr = λ n f e on.
      let h : Here top words given_fields n f = here top words given_fields fields m n f e in
      let s : (extras.is_intr h.field.extra && is_first given_fields n h.field.spot.register) ≡ true = ap (λ (x : Shown). x.intr) (sym h.is.rest.shown) ∙ on in
      let all : members_of f.extra ≡ interrupts_from 0 h.field.spot.register given_fields =
      members_are given_fields _ n h.field.spot.register h.field.extra f.extra h.is.extra
      ∙ whole_list given_fields n h.field.spot.register (extras.is_intr h.field.extra) (is_first given_fields n h.field.spot.register) (yes_left _ _ s) (yes_right (extras.is_intr h.field.extra) _ s) in
      not_empty given_fields n h.field.spot.register (members_of f.extra) all (yes_right (extras.is_intr h.field.extra) _ s);
}
  where
    and_off : (a b : Bool) → b ≡ true → (a && not b) ≡ false
    and_off true b e = rw e refl
    and_off false b e = refl

    no_wire : (t : Trail) → in_effect t p.Intr ≡ true → is_wire t ≡ false
    no_wire t on = and_off _ (is_acted_on t) (not_false (is_acted_on t) (λ out. true≢false (sym on ∙ none_in_effect t (p.Intr ∷ p.We ∷ p.Wel ∷ p.Hwset ∷ p.Hwclr ∷ p.Hwenable ∷ p.Hwmask ∷ p.Onread ∷ p.Singlepulse ∷ []) p.Intr out (inl refl))))

    no_both : (a b : Bool) → a ≡ true → (a && b) ≡ false → b ≡ false
    no_both true b e f = f
    no_both false b e f = cc

    has_reset : (t : Trail) → in_effect t p.Intr ≡ true → is_misraised t ≡ false → is_none (reset_at t) ≡ false
    has_reset t on out =
        let c : is_no_interrupt t ≡ false = no_both (in_effect t p.Intr) (is_no_interrupt t) on (no_left (in_effect t p.Intr && is_no_interrupt t) _ out) in
        no_right (not (hw_at t).writes) (is_none (reset_at t)) (no_left _ (any_in_effect t (p.We ∷ p.Wel ∷ p.Hwset ∷ p.Hwclr ∷ p.Singlepulse ∷ [])) c)

    whole_list : (gs : List NamedField) (n register : ℕ) (a b : Bool) → a ≡ true → b ≡ true → (if a then (if b then interrupts_from 0 register gs else []) else []) ≡ interrupts_from 0 register gs
    whole_list gs n register true true e f = refl
    whole_list gs n register true false e f = cc
    whole_list gs n register false b e f = cc

    not_empty : (gs : List NamedField) (n register : ℕ) (ks : List ℕ) → ks ≡ interrupts_from 0 register gs → is_first gs n register ≡ true → ks ≢ []
    not_empty gs n register ks e first none = no_member 0 n ks none (ap (λ (xs : List ℕ). slice_get xs 0) e ∙ begins n (interrupts_from 0 register gs) first)

-- ---- each list is of its own register

pub are_members : (top : Component) (words : List ℕ) (given_fields : List NamedField) (fields : List Field) → IsMap top words given_fields fields → AreMembers fields
are_members top words given_fields fields m = record {
  first = λ n k f e at_0.
      let h : Here top words given_fields n f = here top words given_fields fields m n f e in
      elim (list_of top words given_fields n f h) [
        | ListCase.IsEmpty none ↦ absurd (no_member 0 k (members_of f.extra) none at_0)
        | ListCase.IsWhole l ↦ same_nat k n (sym at_0 ∙ l.first)
      ];
  rising = λ n f e i j a b lt at_i at_j.
      let h : Here top words given_fields n f = here top words given_fields fields m n f e in
      elim (list_of top words given_fields n f h) [
        | ListCase.IsEmpty none ↦ absurd (no_member i a (members_of f.extra) none at_i)
        | ListCase.IsWhole l ↦ rising 0 (members_of f.extra) i j a b (subst (Rises 0) (sym l.all) (all_rise h.field.spot.register 0 given_fields)) lt at_i at_j
      ];
  apart = λ x y i j k f g at_x at_y at_i at_j.
      let h : Here top words given_fields x f = here top words given_fields fields m x f at_x in
      let r : Here top words given_fields y g = here top words given_fields fields m y g at_y in
      let a : IsMember h.field.spot.register given_fields 0 k = member_of top words given_fields x f h i k at_i in
      let b : IsMember r.field.spot.register given_fields 0 k = member_of top words given_fields y g r j k at_j in
      let place : a.at ≡ b.at = omega (arith, a.counted, b.counted) in
      let same : a.field ≡ b.field = same_given a.field b.field (sym a.here ∙ ap (slice_get given_fields) place ∙ b.here) in
      let u : a.field.spot.register ≡ h.field.spot.register = same_number a.field.spot.register h.field.spot.register (yes_right (extras.is_intr a.field.extra) _ a.is) in
      let v : b.field.spot.register ≡ r.field.spot.register = same_number b.field.spot.register r.field.spot.register (yes_right (extras.is_intr b.field.extra) _ b.is) in
      let w : h.field.spot.register ≡ r.field.spot.register = sym u ∙ ap (λ (z : NamedField). z.spot.register) same ∙ v in
      elim (list_of top words given_fields x f h) [
        | ListCase.IsEmpty none ↦ absurd (no_member i k (members_of f.extra) none at_i)
        | ListCase.IsWhole l ↦ elim (list_of top words given_fields y g r) [
          | ListCase.IsEmpty none ↦ absurd (no_member j k (members_of g.extra) none at_j)
          | ListCase.IsWhole q ↦ same_nat x y (sym l.first ∙ ap (λ (ks : List ℕ). slice_get ks 0) (l.all ∙ ap (λ d. interrupts_from 0 d given_fields) w ∙ sym q.all) ∙ q.first)
        ]
      ];
}
  where
    same_number : (a b : ℕ) → (a == b) ≡ true → a ≡ b
    same_number a b e = grind (arith, nat_tests, e)
