-- The bus word of each field is one of the map's, and what of a field can be told.
use Rattle.std.proofs.Common.{◌≡◌, inl, inr, ℕ, zero, suc, ◌+◌, ◌*◌, ◌/◌, ◌%◌, ◌^◌, ◌<◌, ◌≤◌, Bool, true, false, ◌&&◌, ◌||◌, nat_lt, List, [], ◌∷◌, map, Option, Some, None, is_some, refl, sym, ◌∙◌, ap, subst, arith}
use Rattle.std.specs.List.Sorted.{IsPermutation}
use Rattle.std.proofs.lemmas.Bool.Decides.{nat_tests}
use Rattle.std.proofs.lemmas.List.Sorted.{IsPermutation-sym}
use Rattle.std.proofs.Math.Nat.{pow-le-pow_right}
use Rattle.rdl_text.specs.declared.instance.Body.{Body}
use Rattle.rdl_text.specs.declared.instance.Body.TheVariants as body
use Rattle.rdl_text.specs.Components.{Component}
use Rattle.rdl_text.specs.Instances.{kind_of}
use Rattle.rdl_values.specs.OneFrame.{Frame, Trail}
use Rattle.rdl_values.specs.Values.{reset_at}
use Rattle.rdl_values.specs.Fields.{width_at, is_wire, is_over}
use Rattle.rdl_effects.specs.Fields.{is_miswide, is_misreset, is_mispulsed, is_miscounted, is_misraised}
use Rattle.rdl_effects.specs.Registers.{regwidth_at, accesswidth_at}
use Rattle.rdl_layout.specs.declared.register.Register.{Register}
use Rattle.rdl_layout.specs.Bits.{bits_at, low_of}
use Rattle.rdl_layout.specs.Registers.{register_by, register_here, register_at, registers_below}
use Rattle.rdl_layout.specs.Walks.{over}
use Rattle.rdl_words.specs.Words.{address_in, spot_in, spots_below, words_in, spots_of}
use Rattle.rdl_numbers.specs.Orders as orders
use Rattle.rdl_fields.specs.declared.named.NamedField.{NamedField}
use Rattle.rdl_fields.specs.Parts.{reset_if}
use Rattle.rdl_map.specs.Given.{is_at, word_number, small}
use Rattle.rdl_map.specs.Fields.{is_position_told}
use Rattle.rdl_regmap.proofs.Has.{Has, has_left, has_right, has_flat, has_permuted}
use Rattle.rdl_regmap.proofs.Visits.{Visit, visit, at_visit, over_is}
use Rattle.rdl_regmap.proofs.Instances.{no_left, no_right}
use Rattle.rdl_regmap.proofs.Told.{is_positioned}
use Rattle.rdl_regmap.proofs.Placed.{IsAccess, AreWidths, IsInside, word_below, word_is, bit_is}
use Rattle.rdl_regmap.proofs.Givens.{IsClear, IsRegisterAt, IsGiven, IsField, trail_of, field_is, bits_are}

-- ---- spots

spot_has : (r : Register) (k : ℕ) → address_in r k < 4294967296 → Has (record { address = address_in r k; place = r.place }) (spot_in r k)
spot_has r k lt = let t : nat_lt (address_in r k) 4294967296 ≡ true = grind (arith, nat_tests, lt) in rw t (inl refl)

below_has : (r : Register) (n k : ℕ) → k < n → address_in r k < 4294967296 → Has (record { address = address_in r k; place = r.place }) (spots_below r n)
below_has r zero k lt fits = absurd (omega (arith, lt))
below_has r (suc n) k lt fits = elim (Rattle.std.proofs.lemmas.Bool.cases_eq k n) [
  | inl same ↦ has_right _ (spots_below r n) (spot_in r n) (subst (λ m. Has (record { address = address_in r k; place = r.place }) (spot_in r m)) same (spot_has r k fits))
  | inr other ↦ has_left _ (spots_below r n) (spot_in r n) (below_has r n k (omega (arith, lt, other)) fits)
]

pub spots_have : (rs : List Register) (r : Register) (k : ℕ) → Has r rs → k < words_in r → address_in r k < 4294967296 → Has (record { address = address_in r k; place = r.place }) (spots_of rs)
spots_have [] r k h lt fits = absurd h
spots_have (s ∷ rs) r k h lt fits = elim h [
  | inl e ↦ has_left _ (spots_below s (words_in s)) (spots_of rs)
      (subst (λ (x : Register). Has (record { address = address_in r k; place = r.place }) (spots_below x (words_in x))) e (below_has r (words_in r) k lt fits))
  | inr i ↦ has_right _ (spots_below s (words_in s)) (spots_of rs) (spots_have rs r k i lt fits)
]

pub has_map : {A B : Type 0} (f : A → B) (x : A) (xs : List A) → Has x xs → Has (f x) (map f xs)
has_map f x [] h = absurd h
has_map f x (y ∷ ys) h = elim h [ inl e ↦ inl (ap f e) | inr r ↦ inr (has_map f x ys r) ]

-- ---- the register of a field

pub record IsRegisterOf (top : Component) (v : Visit) : Type 0 where
  pub register : Register
  pub among : Has register (registers_below (Some top))
  pub address : register.address ≡ v.address
  pub width : register.width ≡ regwidth_at v.trail
  pub access : register.access ≡ accesswidth_at v.trail
  pub bits : register.bits ≡ bits_at v.trail v.component

pub register_of : (top : Component) (v : Visit) → Has v (over visit 65 0 [] top) → IsRegisterAt top v → kind_of v.component ≡ body.Reg → IsRegisterOf top v
register_of top v h r kind =
    let f : Frame = r.frame.frame in
    let one : Register = record { place = f.inst.name.place; address = v.address; width = regwidth_at v.trail; access = accesswidth_at v.trail; bits = bits_at v.trail v.component } in
    let here : Has one (register_by f.kind v.address v.trail v.component f) = subst (λ (k : Body). Has one (register_by k v.address v.trail v.component f)) (sym (r.frame.kind ∙ kind)) (inl refl) in
    let at : Has one (register_at v.address v.trail v.component) = subst (λ (o : Option Frame). Has one (register_here v.address v.trail v.component o)) (sym r.frame.here) here in
    record {
      register = one;
      among = subst (λ (xs : List Register). Has one xs) (sym (over_is register_at 65 0 [] top)) (has_flat (at_visit register_at) one v (over visit 65 0 [] top) h at);
      address = refl;
      width = refl;
      access = refl;
      bits = refl;
    }

pub words_are : (r : Register) (width access : ℕ) → r.width ≡ width → r.access ≡ access → AreWidths width access → words_in r ≡ width / access
words_are r width access e f w = rw (f, Rattle.rdl_regmap.proofs.Placed.not_zero access w.bus, e) refl

-- each bus word of a register is one of the map's
pub word_there : (top : Component) (v : Visit) (words : List ℕ) (k : ℕ) → Has v (over visit 65 0 [] top) → IsRegisterAt top v → kind_of v.component ≡ body.Reg
    → IsPermutation (map orders.address_of (spots_of (registers_below (Some top)))) words → k < regwidth_at v.trail / accesswidth_at v.trail
    → Has (v.address + accesswidth_at v.trail / 8 * k) words
word_there top v words k h at kind moved lt =
    let r : IsRegisterOf top v = register_of top v h at kind in
    let same : address_in r.register k ≡ v.address + accesswidth_at v.trail / 8 * k = ap (λ n. n + r.register.access / 8 * k) r.address ∙ ap (λ n. v.address + n / 8 * k) r.access in
    let fits : v.address + accesswidth_at v.trail / 8 * k < 4294967296 = word_below (regwidth_at v.trail) (accesswidth_at v.trail) v.address k at.widths lt at.ends in
    let many : k < words_in r.register = rw (words_are r.register (regwidth_at v.trail) (accesswidth_at v.trail) r.width r.access at.widths) lt in
    let spot : Has (record { address = address_in r.register k; place = r.register.place }) (spots_of (registers_below (Some top))) =
    spots_have (registers_below (Some top)) r.register k r.among many (subst (λ n. n < 4294967296) (sym same) fits) in
    let listed : Has (address_in r.register k) (map orders.address_of (spots_of (registers_below (Some top)))) = has_map orders.address_of _ (spots_of (registers_below (Some top))) spot in
    subst (λ n. Has n words) same (has_permuted words (map orders.address_of (spots_of (registers_below (Some top)))) (IsPermutation-sym (map orders.address_of (spots_of (registers_below (Some top)))) words moved) (address_in r.register k) listed)

-- ---- where a field stands can be told

pub small_told : (n : ℕ) → n < 4294967296 → is_some (small n) ≡ true
small_told n lt = let t : nat_lt n 4294967296 ≡ true = grind (arith, nat_tests, lt) in rw t refl

pub word_told : (words : List ℕ) (word : ℕ) → Has word words → is_some (word_number words word) ≡ true
word_told words word h = is_positioned (is_at word) word words h (grind (arith, nat_tests))

pub reset_fits : (width : ℕ) (o : Option ℕ) (wire : Bool) (t : Trail) → reset_at t ≡ o → is_over width o ≡ false → reset_if wire t < 2 ^ width
reset_fits width o true t e out = Rattle.std.proofs.lemmas.Nat.pow_pos width
reset_fits width None false t e out = rw e (Rattle.std.proofs.lemmas.Nat.pow_pos width)
reset_fits width (Some n) false t e out = rw e (grind (arith, nat_tests, out))

pub below_word : (width n : ℕ) → width ≤ 32 → n < 2 ^ width → n < 4294967296
below_word width n le lt =
    let q : 2 ^ width ≤ 2 ^ 32 = pow-le-pow_right (omega arith) le in
    omega (arith, q, lt)

all_four : (a b c d : Bool) → a ≡ true → b ≡ true → c ≡ true → d ≡ true → (a && (b && (c && d))) ≡ true
all_four a b c d e f g h = rw (e, f, g, h) refl

-- the parts of the tests of a field's values
pub record AreValued (t : Trail) : Type 0 where
  pub wide : is_miswide t ≡ false
  pub reset : is_misreset t ≡ false
  pub pulse : is_mispulsed t ≡ false
  pub counted : is_miscounted t ≡ false
  pub raised : is_misraised t ≡ false

pub are_valued : (t : Trail) → Rattle.rdl_effects.specs.Fields.is_misvalued_field t ≡ false → AreValued t
are_valued t out = record {
  wide = no_left _ _ (no_left _ _ (no_left _ _ (no_left _ _ out)));
  reset = no_right (is_miswide t) _ (no_left _ _ (no_left _ _ (no_left _ _ out)));
  pulse = no_right (is_miswide t || is_misreset t) _ (no_left _ _ (no_left _ _ out));
  counted = no_right (is_miswide t || is_misreset t || is_mispulsed t) _ (no_left _ _ out);
  raised = no_right (is_miswide t || is_misreset t || is_mispulsed t || is_miscounted t) _ out;
}

access_bound : (n : ℕ) → IsAccess n → n ≤ 32
access_bound n (IsAccess.Eight e) = omega (arith, e)
access_bound n (IsAccess.Sixteen e) = omega (arith, e)
access_bound n (IsAccess.ThirtyTwo e) = omega (arith, e)

-- the numbers of a given field
pub record AreNumbers (top : Component) (g : NamedField) (i : IsGiven top g) : Type 0 where
  pub word : g.spot.word ≡ i.visit.address + accesswidth_at i.visit.trail / 8 * (low_of i.field.next i.field.instance.inst.range / accesswidth_at i.visit.trail)
  pub lsb : g.spot.lsb ≡ low_of i.field.next i.field.instance.inst.range % accesswidth_at i.visit.trail
  pub width : g.spot.width ≡ width_at (trail_of top g i)
  pub within : g.spot.lsb + g.spot.width ≤ accesswidth_at i.visit.trail
  pub some : 1 ≤ g.spot.width
  pub access : accesswidth_at i.visit.trail ≤ 32
  pub reset : g.start.reset < 2 ^ g.spot.width

pub are_numbers : (top : Component) (g : NamedField) (clear : IsClear top) (i : IsGiven top g) → AreNumbers top g i
are_numbers top g clear i =
    let b : IsInside (regwidth_at i.visit.trail) (accesswidth_at i.visit.trail) (low_of i.field.next i.field.instance.inst.range) (width_at (trail_of top g i)) = bits_are top g clear i in
    let f : IsField top (trail_of top g i) i.field.instance = field_is top g clear i in
    let w : AreWidths (regwidth_at i.visit.trail) (accesswidth_at i.visit.trail) = i.register.widths in
    let low : ℕ = low_of i.field.next i.field.instance.inst.range in
    let width : g.spot.width ≡ width_at (trail_of top g i) = ap (λ (x : NamedField). x.spot.width) i.field.is in
    let lsb : g.spot.lsb ≡ low_of i.field.next i.field.instance.inst.range % accesswidth_at i.visit.trail =
    ap (λ (x : NamedField). x.spot.lsb) i.field.is ∙ bit_is (regwidth_at i.visit.trail) (accesswidth_at i.visit.trail) (low_of i.field.next i.field.instance.inst.range) w in
    let one : low_of i.field.next i.field.instance.inst.range % accesswidth_at i.visit.trail + width_at (trail_of top g i) ≤ accesswidth_at i.visit.trail =
    subst (λ n. n + width_at (trail_of top g i) ≤ accesswidth_at i.visit.trail) (bit_is (regwidth_at i.visit.trail) (accesswidth_at i.visit.trail) (low_of i.field.next i.field.instance.inst.range) w) b.one_word in
    let v : AreValued (trail_of top g i) = are_valued (trail_of top g i) f.valued in
    let reset : g.start.reset ≡ reset_if (is_wire (trail_of top g i)) (trail_of top g i) = ap (λ (x : NamedField). x.start.reset) i.field.is in
    record {
      word = ap (λ (x : NamedField). x.spot.word) i.field.is ∙ word_is (regwidth_at i.visit.trail) (accesswidth_at i.visit.trail) i.visit.address (low_of i.field.next i.field.instance.inst.range) w;
      lsb = lsb;
      width = width;
      within = rw (lsb, width) one;
      some = rw width f.some;
      access = access_bound (accesswidth_at i.visit.trail) w.bus;
      reset = rw (reset, width) (reset_fits (width_at (trail_of top g i)) (reset_at (trail_of top g i)) (is_wire (trail_of top g i)) (trail_of top g i) refl v.reset);
    }

pub position_told : (top : Component) (g : NamedField) (words : List ℕ) (clear : IsClear top) (i : IsGiven top g)
    → IsPermutation (map orders.address_of (spots_of (registers_below (Some top)))) words → is_position_told words g ≡ true
position_told top g words clear i moved =
    let n : AreNumbers top g i = are_numbers top g clear i in
    let b : IsInside (regwidth_at i.visit.trail) (accesswidth_at i.visit.trail) (low_of i.field.next i.field.instance.inst.range) (width_at (trail_of top g i)) = bits_are top g clear i in
    let h : Has g.spot.word words = rw n.word (word_there top i.visit words (low_of i.field.next i.field.instance.inst.range / accesswidth_at i.visit.trail) i.visited i.register i.kind moved b.word) in
    all_four _ _ _ _ (word_told words g.spot.word h)
    (small_told g.spot.lsb (omega (arith, n.within, n.some, n.access)))
    (small_told g.spot.width (omega (arith, n.within, n.access)))
    (small_told g.start.reset (below_word g.spot.width g.start.reset (omega (arith, n.within, n.access)) n.reset))
