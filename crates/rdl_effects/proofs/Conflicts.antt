-- The first place of a list is that of the first conflict.
use Rattle.std.proofs.Common.{◌≡◌, List, [], length, Contains, arith, subst, sym, refl, ◌∙◌, Option, Some, None, IfSome, IfNone}
use Rattle.std.proofs.lemmas.Option.{slice_get_read, same_Some}
use Rattle.bit_base.specs.declared.place.Place.{Place}
use Rattle.bit_base.specs.Places.{IsFirst}
use Rattle.rdl_tree.specs.declared.tree.RdlFile.{RdlFile}
use Rattle.rdl_effects.specs.declared.effect.Effect.{Effect}
use Rattle.rdl_effects.specs.Refusals.{conflicts_of, HasNone, IsFirstConflict}

in_none : (p : Place) → Contains [] p → ⊥
in_none p h = omega (arith, h.1)

is_first : (e : Effect) (file : RdlFile) (places : List Place) (place : Place) → places ≡ conflicts_of e file → IsFirst place places → IsFirstConflict e file place
is_first e file places place same h = record {
  here = subst (λ (xs : List Place). Contains xs place) same h.among;
  first = λ q f.
      let at : Contains places q = subst (λ (xs : List Place). Contains xs q) (sym same) f in
      h.before at.0 q (slice_get_read places (length places) at.0 q refl at.1 (sym at.2));
}

pub found_first : (e : Effect) (file : RdlFile) (shown places : List Place) (found : Option Place) → shown ≡ places → IfSome found (λ q. IsFirst q shown)
    → places ≡ conflicts_of e file → (p : Place) → found ≡ Some p → IsFirstConflict e file p
found_first e file shown places None same h all p is = cc
found_first e file shown places (Some q) same h all p is =
    is_first e file places p all (subst (λ (r : Place). IsFirst r places) (same_Some q p is) (subst (λ (xs : List Place). IsFirst q xs) same h))

pub found_none : (e : Effect) (file : RdlFile) (shown places : List Place) (found : Option Place) → shown ≡ places → IfNone found (shown ≡ [])
    → places ≡ conflicts_of e file → found ≡ None → HasNone e file
found_none e file shown places None same h all is = λ p f. in_none p (subst (λ (xs : List Place). Contains xs p) (sym all ∙ sym same ∙ h) f)
found_none e file shown places (Some q) same h all is = cc
