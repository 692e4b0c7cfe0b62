-- The fields of a map have paths of their own.
use Rattle.std.proofs.Common.{◌≡◌, inl, inr, ℕ, ◌<◌, Bool, true, false, List, [], ◌∷◌, Some, slice_get, refl, sym, ◌∙◌, ap, arith, nat_lt}
use Rattle.std.specs.List.{IsDistinct}
use Rattle.std.proofs.lemmas.Bool.{cases_Bool, true≢false}
use Rattle.std.proofs.lemmas.Bool.Decides.{nat_tests}
use Rattle.std.proofs.lemmas.Slice.Eq.{bytes_eq-Decides}
use Rattle.std.proofs.lemmas.Map.Keys.{IsDistinct-IsPermutation}
use Rattle.field_policies.specs.declared.field.Field.{Field}
use Rattle.field_policies.specs.Maps.{HavePaths}
use Rattle.rdl_text.specs.Components.{Component}
use Rattle.rdl_fields.specs.declared.named.NamedField.{NamedField}
use Rattle.rdl_fields.specs.Registers.{fields_below}
use Rattle.rdl_regmap.proofs.Has.{Has, has_permuted}
use Rattle.rdl_regmap.proofs.Givens.{IsClear}
use Rattle.rdl_regmap.proofs.MapTold.{AreParts}
use Rattle.rdl_regmap.proofs.Made.{IsMap, Here, here}
use Rattle.rdl_regmap.proofs.Places.{each_at, distinct_at, of_all}
use Rattle.rdl_regmap.proofs.Spelled.{FitsComponent}
use Rattle.rdl_regmap.proofs.Paths.{GoodStep, same_path, HasWay, OfWalk, of_walk}

path_flips : (g h : NamedField) → same_path g h ≡ same_path h g
path_flips g h = by (same_path g h) (same_path h g) refl refl
  where
    by : (a b : Bool) → same_path g h ≡ a → same_path h g ≡ b → same_path g h ≡ same_path h g
    by true true e f = e ∙ sym f
    by false false e f = e ∙ sym f
    by true false e f = absurd (true≢false (sym ((bytes_eq-Decides h.path g.path).1 (sym ((bytes_eq-Decides g.path h.path).0 e))) ∙ f))
    by false true e f = absurd (true≢false (sym ((bytes_eq-Decides g.path h.path).1 (sym ((bytes_eq-Decides h.path g.path).0 f))) ∙ e))

pub walked : (top : Component) → IsClear top → FitsComponent top → OfWalk [] (fields_below (Some top))
walked top clear fit = of_walk 65 0 [] top clear.fine fit (grind (arith, nat_tests, clear.few)) tt

pub paths_differ : (top : Component) (words : List ℕ) (given : List NamedField) → AreParts top words given → FitsComponent top → IsDistinct same_path given
paths_differ top words given parts fit = IsDistinct-IsPermutation same_path path_flips (fields_below (Some top)) given parts.fields_are (walked top parts.clear fit).distinct

-- a path tells the field
same_by : (gs : List NamedField) (g h : NamedField) → IsDistinct same_path gs → Has g gs → Has h gs → g.path ≡ h.path → g ≡ h
unfolding IsDistinct
same_by [] g h d i j e = absurd i
same_by (x ∷ xs) g h d i j e = elim i [
  | inl p ↦ elim j [
    | inl q ↦ p ∙ sym q
    | inr r ↦ absurd (true≢false (sym ((bytes_eq-Decides x.path h.path).1 (ap (λ (z : NamedField). z.path) (sym p) ∙ e)) ∙ of_all (λ z. same_path x z ≡ false) xs h d.0 r))
  ]
  | inr s ↦ elim j [
    | inl q ↦ absurd (true≢false (sym ((bytes_eq-Decides x.path g.path).1 (ap (λ (z : NamedField). z.path) (sym q) ∙ sym e)) ∙ of_all (λ z. same_path x z ≡ false) xs g d.0 s))
    | inr r ↦ same_by xs g h d.1 s r e
  ]
]

pub one_of_path : (top : Component) (words : List ℕ) (given : List NamedField) (g h : NamedField) → AreParts top words given → FitsComponent top → Has g given → Has h given → g.path ≡ h.path → g ≡ h
one_of_path top words given g h parts fit i j e = same_by given g h (paths_differ top words given parts fit) i j e

apart : (top : Component) (words : List ℕ) (given : List NamedField) (fields : List Field) (m : IsMap top words given fields) → FitsComponent top → (i j : ℕ) (f g : Field) → i < j → slice_get fields i ≡ Some f → slice_get fields j ≡ Some g → f.path ≡ g.path → ⊥
apart top words given fields m fit i j f g lt e q same =
    let h : Here top words given i f = here top words given fields m i f e in
    let r : Here top words given j g = here top words given fields m j g q in
    let out : same_path h.field r.field ≡ false = distinct_at same_path given i j h.field r.field (paths_differ top words given m.parts fit) lt h.at r.at in
    true≢false (sym ((bytes_eq-Decides h.field.path r.field.path).1 (sym h.is.rest.path ∙ same ∙ r.is.rest.path)) ∙ out)

pub one_place : (top : Component) (words : List ℕ) (given : List NamedField) (fields : List Field) → IsMap top words given fields → FitsComponent top → (i j : ℕ) (f g : Field) → slice_get fields i ≡ Some f → slice_get fields j ≡ Some g → f.path ≡ g.path → i ≡ j
one_place top words given fields m fit i j f g e q same = elim (cases_Bool (nat_lt i j)) [
  | inl t ↦ absurd (apart top words given fields m fit i j f g (grind (arith, nat_tests, t)) e q same)
  | inr t ↦ elim (cases_Bool (nat_lt j i)) [
    | inl u ↦ absurd (apart top words given fields m fit j i g f (grind (arith, nat_tests, u)) q e (sym same))
    | inr u ↦ grind (arith, nat_tests, t, u)
  ]
]

pub have_paths : (top : Component) (words : List ℕ) (given : List NamedField) (fields : List Field) → IsMap top words given fields → FitsComponent top → HavePaths fields
have_paths top words given fields m fit = λ k f e.
    let h : Here top words given k f = here top words given fields m k f e in
    let w : HasWay [] h.field = (walked top m.parts.clear fit).each h.field (has_permuted (fields_below (Some top)) given m.parts.fields_are h.field h.among) in
    record {
      steps = w.rest;
      some = w.some;
      named = λ i s q. (each_at GoodStep w.rest i s w.good q).name;
      indexed = λ i s ds q r. (each_at GoodStep w.rest i s w.good q).index ds r;
      joined = h.is.rest.path ∙ w.path;
    }
