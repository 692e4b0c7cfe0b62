-- The map of a description that nothing refuses can be told.
use Rattle.std.proofs.Common.{◌≡◌, inl, inr, ℕ, ◌+◌, ◌<◌, ◌≤◌, Bool, true, false, ◌&&◌, nat_lt, List, [], ◌∷◌, length, map, Option, Some, sum_by, refl, sym, ◌∙◌, ap, subst, arith}
use Rattle.std.specs.List.{list_all}
use Rattle.std.specs.List.Sorted.{IsPermutation}
use Rattle.std.proofs.lemmas.Bool.{true≢false}
use Rattle.std.proofs.lemmas.Bool.Decides.{nat_tests}
use Rattle.std.proofs.lemmas.List.Sorted.{length_permutation, IsPermutation-sym, sum_by-IsPermutation}
use Rattle.std.proofs.lemmas.List.{length-map}
use Rattle.rdl_tree.specs.declared.tree.RdlFile.{RdlFile}
use Rattle.rdl_text.specs.Components.{Component}
use Rattle.rdl_text.specs.Instances.{is_field}
use Rattle.rdl_values.specs.Instances.{top_of}
use Rattle.rdl_values.specs.Fields.{width_at}
use Rattle.rdl_effects.specs.Registers.{accesswidth_at}
use Rattle.rdl_layout.specs.declared.register.Register.{Register}
use Rattle.rdl_layout.specs.Bits.{low_of}
use Rattle.rdl_layout.specs.Registers.{registers_of, registers_below}
use Rattle.rdl_words.specs.Words.{spots_of}
use Rattle.rdl_numbers.specs.Orders.{AreWords, AreFields, address_of}
use Rattle.rdl_fields.specs.declared.named.NamedField.{NamedField}
use Rattle.rdl_fields.specs.Registers.{fields_of, fields_below}
use Rattle.rdl_map.specs.Signals.{numbers_from, count_at}
use Rattle.rdl_map.specs.Extras.{is_extra_told}
use Rattle.rdl_map.specs.Fields.{are_gates_told, is_position_told, is_told, are_told}
use Rattle.rdl_map.specs.Maps.{is_narrow, is_map_told, IsUntold}
use Rattle.rdl_elab.specs.Refusals.{IsFine, whole, is_large, bits_in}
use Rattle.rdl_regmap.proofs.Has.{OptionCase, option_case, Has, has_permuted}
use Rattle.rdl_regmap.proofs.Instances.{no_left, no_right}
use Rattle.rdl_regmap.proofs.References.{HasField}
use Rattle.rdl_regmap.proofs.Givens.{IsClear, IsGiven, IsField, trail_of, field_is, given_is}
use Rattle.rdl_regmap.proofs.Words.{AreValued, are_valued, AreNumbers, are_numbers, position_told}
use Rattle.rdl_regmap.proofs.Tells.{FindsEach, finds_each, gates_told, extra_told}
use Rattle.rdl_regmap.proofs.Sums.{width_in, few_bits, no_more}
use Rattle.rdl_regmap.proofs.Fine.{is_clear}

both : (a b : Bool) → a ≡ true → b ≡ true → (a && b) ≡ true
both true true e f = refl
both true false e f = cc
both false b e f = cc

-- a map's parts, of a clear description
pub record AreParts (top : Component) (words : List ℕ) (given : List NamedField) : Type 0 where
  pub clear : IsClear top
  pub words_are : IsPermutation (map address_of (spots_of (registers_below (Some top)))) words
  pub fields_are : IsPermutation (fields_below (Some top)) given
  pub few_words : length (spots_of (registers_below (Some top))) ≤ 1024
  pub few_bits : sum_by (λ (r : Register). r.bits) (registers_below (Some top)) ≤ 4096

pub moved_field : (top : Component) (words : List ℕ) (given : List NamedField) → AreParts top words given → (path : List ℕ) → HasField path (fields_below (Some top)) → HasField path given
moved_field top words given parts path h = record {
  field = h.field;
  among = has_permuted given (fields_below (Some top)) (IsPermutation-sym (fields_below (Some top)) given parts.fields_are) h.field h.among;
  named = h.named;
}

pub given_of : (top : Component) (words : List ℕ) (given : List NamedField) → AreParts top words given → (g : NamedField) → Has g given → IsGiven top g
given_of top words given parts g h = given_is top g parts.clear (has_permuted (fields_below (Some top)) given parts.fields_are g h)

pub finds : (top : Component) (words : List ℕ) (given : List NamedField) → AreParts top words given → (g : NamedField) (i : IsGiven top g) → FindsEach given (trail_of top g i)
finds top words given parts g i =
    let f : IsField top (trail_of top g i) i.field.instance = field_is top g parts.clear i in
    finds_each top (trail_of top g i) i.field.instance.component given
    (record { fine = parts.clear.fine; plain = ap is_field parts.clear.kind; few = parts.clear.few; way = f.way }) (moved_field top words given parts)

told : (top : Component) (words : List ℕ) (given : List NamedField) → AreParts top words given → (g : NamedField) → Has g given → (base : ℕ) → is_told words given base g ≡ true
told top words given parts g h base =
    let i : IsGiven top g = given_of top words given parts g h in
    let n : AreNumbers top g i = are_numbers top g parts.clear i in
    let f : IsField top (trail_of top g i) i.field.instance = field_is top g parts.clear i in
    let e : FindsEach given (trail_of top g i) = finds top words given parts g i in
    let v : AreValued (trail_of top g i) = are_valued (trail_of top g i) f.valued in
    let narrow : width_at (trail_of top g i) ≤ 32 = subst (λ m. m ≤ 32) n.width (omega (arith, n.within, n.access)) in
    let gates : are_gates_told given (numbers_from base g.inputs) g ≡ true =
    subst (λ (x : NamedField). are_gates_told given (numbers_from base x.inputs) x ≡ true) (sym i.field.is) (gates_told given base i.visit.address (accesswidth_at i.visit.trail) (low_of i.field.next i.field.instance.inst.range) (trail_of top g i) e) in
    let counts : is_extra_told given (numbers_from base g.inputs) g.extra ≡ true =
    subst (λ (x : NamedField). is_extra_told given (numbers_from base x.inputs) x.extra ≡ true) (sym i.field.is) (extra_told given base (trail_of top g i) e f.some narrow v.counted) in
    both (is_position_told words g) _ (position_told top g words parts.clear i parts.words_are) (both (are_gates_told given (numbers_from base g.inputs) g) _ gates counts)

all_told : (words : List ℕ) (given : List NamedField) (base : ℕ) (gs : List NamedField) → ((g : NamedField) → Has g gs → (b : ℕ) → is_told words given b g ≡ true) → are_told words given base gs ≡ true
all_told words given base [] all = refl
all_told words given base (g ∷ gs) all = both (is_told words given base g) _ (all g (inl refl) base) (all_told words given (base + count_at g) gs (λ x i. all x (inr i)))

all_narrow : (gs : List NamedField) → ((g : NamedField) → Has g gs → g.spot.width < 4294967296) → list_all is_narrow gs ≡ true
all_narrow [] all = refl
all_narrow (g ∷ gs) all = let lt : g.spot.width < 4294967296 = all g (inl refl) in both (is_narrow g) _ (grind (arith, nat_tests, lt)) (all_narrow gs (λ x i. all x (inr i)))

pub widths_below : (top : Component) (words : List ℕ) (given : List NamedField) → AreParts top words given → sum_by width_in given ≤ 4096
widths_below top words given parts =
    let e : sum_by width_in given ≡ sum_by width_in (fields_below (Some top)) = sum_by-IsPermutation width_in (fields_below (Some top)) given parts.fields_are in
    let le : sum_by width_in (fields_below (Some top)) ≤ 4096 = few_bits top parts.clear parts.few_bits in
    omega (arith, e, le)

pub few_fields : (top : Component) (words : List ℕ) (given : List NamedField) → AreParts top words given → length given ≤ 4096
few_fields top words given parts =
    let a : length given ≤ sum_by width_in given = no_more given (λ g h. (are_numbers top g parts.clear (given_of top words given parts g h)).some) in
    let b : sum_by width_in given ≤ 4096 = widths_below top words given parts in
    omega (arith, a, b)

pub few_words : (top : Component) (words : List ℕ) (given : List NamedField) → AreParts top words given → length words ≤ 1024
few_words top words given parts =
    let b : length words ≡ length (map address_of (spots_of (registers_below (Some top)))) = length_permutation (map address_of (spots_of (registers_below (Some top)))) words parts.words_are in
    let c : length (map address_of (spots_of (registers_below (Some top)))) ≡ length (spots_of (registers_below (Some top))) = length-map (spots_of (registers_below (Some top))) address_of in
    let le : length (spots_of (registers_below (Some top))) ≤ 1024 = parts.few_words in
    omega (arith, b, c, le)

pub map_told : (top : Component) (words : List ℕ) (given : List NamedField) → AreParts top words given → is_map_told words given ≡ true
map_told top words given parts =
    let w : length words ≤ 1024 = few_words top words given parts in
    let f : length given ≤ 4096 = few_fields top words given parts in
    both (nat_lt (length words) 4294967296) _ (grind (arith, nat_tests, w))
    (both (nat_lt (length given) 134217728) _ (grind (arith, nat_tests, f))
    (both (list_all is_narrow given) _ (all_narrow given (λ g h.
    let n : AreNumbers top g (given_of top words given parts g h) = are_numbers top g parts.clear (given_of top words given parts g h) in omega (arith, n.within, n.access)))
    (all_told words given 0 given (told top words given parts))))

-- ---- from a file

pub small : (file : RdlFile) → IsFine file → is_large (registers_of file) ≡ false
small file fine = by (is_large (registers_of file)) refl
  where
    by : (b : Bool) → is_large (registers_of file) ≡ b → is_large (registers_of file) ≡ false
    by true e = absurd (fine.sizes whole (inr e, refl))
    by false e = e

pub parts_are : (file : RdlFile) (top : Component) (words : List ℕ) (given : List NamedField) → IsFine file → top_of file ≡ Some top
    → AreWords (spots_of (registers_of file)) words → AreFields (fields_of file) given → AreParts top words given
parts_are file top words given fine e w f =
    let s : is_large (registers_below (Some top)) ≡ false = subst (λ (o : Option Component). is_large (registers_below o) ≡ false) e (small file fine) in
    let a : nat_lt 1024 (length (spots_of (registers_below (Some top)))) ≡ false = no_left _ (nat_lt 4096 (bits_in (registers_below (Some top)))) s in
    let b : nat_lt 4096 (bits_in (registers_below (Some top))) ≡ false = no_right (nat_lt 1024 (length (spots_of (registers_below (Some top))))) _ s in
    record {
      clear = is_clear file top fine e;
      words_are = subst (λ (o : Option Component). IsPermutation (map address_of (spots_of (registers_below o))) words) e w.same;
      fields_are = subst (λ (o : Option Component). IsPermutation (fields_below o) given) e f.same;
      few_words = grind (arith, nat_tests, a);
      few_bits = grind (arith, nat_tests, b);
    }

nothing : {A : Type 0} (xs : List A) → ((x : A) → Has x xs → ⊥) → xs ≡ []
nothing [] h = refl
nothing (x ∷ xs) h = absurd (h x (inl refl))

pub none_moved : {A : Type 0} (xs ys : List A) → IsPermutation xs ys → xs ≡ [] → ys ≡ []
none_moved xs ys moved e = nothing ys (λ y h. Rattle.rdl_regmap.proofs.Has.has_none y xs e (has_permuted xs ys moved y h))

pub always_told : (file : RdlFile) (words : List ℕ) (given : List NamedField) → IsFine file → AreWords (spots_of (registers_of file)) words → AreFields (fields_of file) given → is_map_told words given ≡ true
always_told file words given fine w f = elim (option_case (top_of file)) [
  | OptionCase.IsSome top e ↦ map_told top words given (parts_are file top words given fine e w f)
  | OptionCase.IsNone e ↦
      let a : words ≡ [] = none_moved _ words w.same (ap (λ (o : Option Component). map address_of (spots_of (registers_below o))) e) in
      let b : given ≡ [] = none_moved _ given f.same (ap fields_below e) in
      rw (a, b) refl
]

pub never_untold : (file : RdlFile) → IsFine file → IsUntold file → ⊥
never_untold file fine u = true≢false (sym (always_told file u.words u.given fine u.same u.order) ∙ u.untold)
