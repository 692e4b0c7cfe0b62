-- What the invariant of a map says of each of its fields, and of the values that expressions read.
use Rattle.std.proofs.Common.{◌≡◌, ℕ, ◌+◌, ◌-◌, ◌^◌, ◌<◌, ◌≤◌, inl, inr, Bool, true, false, not, cond, List, length, Some, slice_get, slice_index, refl, arith, ap, subst, ◌∙◌, sym}
use Rattle.std.specs.Option.{option_map_or}
use mathlib.Core.Bool.{beq}
use Rattle.std.specs.Int.RustNames.{bit_xor}
use Rattle.std.proofs.lemmas.Option.{slice_get_cases, slice_get-get_or}
use Rattle.std.proofs.lemmas.Bool.{ltb-true}
use Rattle.std.proofs.lemmas.Bool.Decides.{nat_tests}
use Rattle.field_policies.specs.declared.field.Field.{Field}
use Rattle.field_policies.specs.declared.map.RegMap.{RegMap}
use Rattle.field_policies.specs.declared.signal.HwInput.{HwInput}
use Rattle.field_policies.specs.declared.signal.HwExpr.{HwExpr}
use Rattle.field_policies.specs.declared.signal.HwExpr.TheVariants as expr
use Rattle.field_policies.specs.declared.signal.Gate.{Gate}
use Rattle.field_policies.specs.Bits.{bit, AreBitsOf}
use Rattle.field_policies.specs.Maps.{is_bus_width}
use Rattle.field_policies.specs.Fields.{expr_width, has_width, is_in_range}
use Rattle.field_policies.specs.Expressions.{value_of, value_at, width_at, expr_value, is_open}
use Rattle.field_policies.proofs.BitLemmas.{own_bits, inverse_bits}
use Rattle.reg_machine.specs.Conditions.{AreInputs, AreValues, IsFieldOf}

pub got : {A : Type 0} (xs : List A) (i : ℕ) → i < length xs → (x : A) × (slice_get xs i ≡ Some x)
got xs i h = elim (slice_get_cases xs i).1 [ inl t ↦ (t.0, t.2) | inr t ↦ absurd (omega (arith, t.0, h)) ]

bus_small : (w : ℕ) → is_bus_width w ≡ true → w ≤ 32
bus_small w h = grind (arith, nat_tests)

pub field_of : (map : RegMap) (n : ℕ) (f : Field) → slice_get map.fields.items n ≡ Some f → IsFieldOf map f
field_of map n f at = record {
  some = map.in_words.some n f at;
  inside = let small : map.bus_width ≤ 32 = bus_small map.bus_width map.bus.width in let p : f.lsb + f.width ≤ map.bus_width = map.in_words.inside n f at in omega arith;
  in_word = map.in_words.inside n f at;
  bus = bus_small map.bus_width map.bus.width;
  there = map.in_words.there n f at;
  in_range = map.in_range.exprs n f at;
  widths = map.widths.exprs n f at;
  source = map.in_range.sources n f at;
  source_width = map.widths.sources n f at;
  up = map.counters.up n f at;
  down = map.counters.down n f at;
  members = map.in_range.members n f at;
}

pub input_below : (inputs : List HwInput) (hw : List ℕ) (k : ℕ) → AreInputs inputs hw → k < length inputs → slice_index hw k < 2 ^ option_map_or (λ h. h.width) (slice_get inputs k) 0
input_below inputs hw k a lt = let g = got inputs k lt in rw g.1 (a.fit k _ g.0 g.1 (slice_get-get_or hw k 0 (omega (arith, a.one_each, lt))))

pub value_below : (fields : List Field) (values : List ℕ) (n : ℕ) → AreValues fields values → n < length fields → slice_index values n < 2 ^ width_at fields n
value_below fields values n a lt = let g = got fields n lt in rw g.1 (a.fit n _ g.0 g.1 (slice_get-get_or values n 0 (omega (arith, a.one_each, lt))))

-- the data of a field fits it
pub source_below : (map : RegMap) (f : Field) (hw : List ℕ) (k : ℕ) → IsFieldOf map f → AreInputs map.inputs.items hw → f.data_in ≡ Some k → slice_index hw k < 2 ^ f.width
source_below map f hw k v a e =
    let lt : k < length map.inputs.items = v.source k e in
    let g = got map.inputs.items k lt in
    subst (λ w. slice_index hw k < 2 ^ w) (v.source_width k g.0 e g.1) (a.fit k _ g.0 g.1 (slice_get-get_or hw k 0 (omega (arith, a.one_each, lt))))

-- a field of the map, read by its number
pub value_here : (fields : List Field) (values hw : List ℕ) (n : ℕ) (f : Field) → slice_get fields n ≡ Some f → value_at fields values hw n ≡ value_of values hw n f
value_here fields values hw n f at = ap (λ o. option_map_or (value_of values hw n) o 0) at

pub width_here : (fields : List Field) (n : ℕ) (f : Field) → slice_get fields n ≡ Some f → width_at fields n ≡ f.width
width_here fields n f at = ap (λ o. option_map_or (λ f. f.width) o 0) at

-- ---- gates

level : (b high : Bool) → beq b high ≡ cond high b (not b)
level true true = refl
level true false = refl
level false true = refl
level false false = refl

pub opens_at : (fields : List Field) (values hw : List ℕ) (g : Gate) (v i : ℕ) → v ≡ expr_value fields values hw g.expr → beq (bit v i) g.high ≡ is_open fields values hw (Some g) i
unfolding is_open
opens_at fields values hw g v i e = ap (λ v. beq (bit v i) g.high) e ∙ level _ g.high

wide_value : (fields : List Field) (inputs : List HwInput) (w : ℕ) (e : HwExpr) → has_width fields inputs w e ≡ true → expr_width fields inputs e ≡ w
wide_value fields inputs w e h = grind (arith, nat_tests)

pub open_high : (fields : List Field) (inputs : List HwInput) (values hw : List ℕ) (g : Gate) (w v : ℕ) → g.high ≡ true → has_width fields inputs w g.expr ≡ true
    → v ≡ expr_value fields values hw g.expr → v < 2 ^ expr_width fields inputs g.expr → AreBitsOf w (is_open fields values hw (Some g)) v
unfolding is_open
open_high fields inputs values hw g w v high wide e h = record {
  below = subst (λ n. v < 2 ^ n) (wide_value fields inputs w g.expr wide) h;
  each = λ i p. ap (λ n. bit n i) e ∙ ap (λ b. cond b (bit (expr_value fields values hw g.expr) i) (not (bit (expr_value fields values hw g.expr) i))) (sym high);
}

pub open_low : (fields : List Field) (inputs : List HwInput) (values hw : List ℕ) (g : Gate) (w v : ℕ) → g.high ≡ false → has_width fields inputs w g.expr ≡ true
    → v ≡ expr_value fields values hw g.expr → v < 2 ^ expr_width fields inputs g.expr → AreBitsOf w (is_open fields values hw (Some g)) (bit_xor v (2 ^ w - 1))
unfolding is_open
open_low fields inputs values hw g w v low wide e h =
    let small : v < 2 ^ w = subst (λ n. v < 2 ^ n) (wide_value fields inputs w g.expr wide) h in
    let flipped : AreBitsOf w (λ i. not (bit v i)) (bit_xor v (2 ^ w - 1)) = inverse_bits w v (bit v) (own_bits w v small) in
    record {
      below = flipped.below;
      each = λ i p. flipped.each i p ∙ ap (λ n. not (bit n i)) e ∙ ap (λ b. cond b (bit (expr_value fields values hw g.expr) i) (not (bit (expr_value fields values hw g.expr) i))) (sym low);
    }

pub input_fits : (fields : List Field) (inputs : List HwInput) (hw : List ℕ) (e : HwExpr) (k : ℕ) → AreInputs inputs hw → e ≡ expr.Input k → is_in_range (length fields) (length inputs) e ≡ true
    → slice_index hw k < 2 ^ expr_width fields inputs e
input_fits fields inputs hw e k a q r = let there : is_in_range (length fields) (length inputs) (expr.Input k) ≡ true = subst (λ x. is_in_range (length fields) (length inputs) x ≡ true) q r in
    let lt : k < length inputs = ltb-true k (length inputs) there in
    rw q (input_below inputs hw k a lt)
