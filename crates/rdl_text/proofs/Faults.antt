-- The name faults of a description: those of its body, and that it has no top.
use Rattle.std.proofs.Common.{◌≡◌, ℕ, zero, suc, ◌<◌, ◌⊎◌, inl, inr, Bool, true, false, List, [], ◌∷◌, ◌++◌, length, Contains, arith, subst, sym, refl, ◌∙◌, ◌↔◌, slice_index_or, lit<, Option, Some, None, IfSome, IfNone}
use Rattle.std.proofs.lemmas.Option.{slice_get_read, same_Some}
use Rattle.std.proofs.lemmas.List.Elements.{Contains-append_left, Contains-append_right, Contains-append_cases}
use Rattle.bit_base.specs.declared.place.Place.{Place}
use Rattle.bit_base.specs.Places.{IsFirst}
use Rattle.rdl_tree.specs.declared.tree.RdlFile.{RdlFile}
use Rattle.rdl_tree.specs.declared.tree.RdlItem.{RdlItem}
use Rattle.rdl_text.specs.declared.instance.Body.TheVariants as body
use Rattle.rdl_text.specs.declared.text.Check.{Check}
use Rattle.rdl_text.specs.Refusals.{IsRefused, IsFault, IsFirstFault, HasNone, lacks_top}
use Rattle.rdl_text.specs.Names.{place_if}

pub in_none : (p : Place) → Contains [] p → ⊥
in_none p h = omega (arith, h.1)

in_one : (e p : Place) → Contains (e ∷ []) p → p ≡ e
in_one e p h = at h.0 h.1 h.2
  where
    at : (k : ℕ) → k < length (e ∷ []) → slice_index_or (e ∷ []) k p ≡ p → p ≡ e
    at zero lt q = sym q
    at (suc k) lt q = absurd (omega (arith, lt))

is_placed : (t : Bool) (e p : Place) → Contains (place_if t e) p → (t ≡ true) × (p ≡ e)
is_placed false e p h = absurd (in_none p h)
is_placed true e p h = (refl, in_one e p h)

placed : (t : Bool) (e p : Place) → t ≡ true → p ≡ e → Contains (place_if t e) p
placed t e p gone same = subst (λ (b : Bool). Contains (place_if b e) p) (sym gone) (0, lit< tt, sym same)

pub all_faults : (what : Check) (file : RdlFile) (start inner new : List Place) (items : List RdlItem) (top : Bool) → items ≡ file.items → start ≡ [] → top ≡ lacks_top what file.items → new ≡ inner ++ place_if top file.end
    → ((p : Place) → Contains inner p ↔ (Contains start p ⊎ IsRefused what [] body.File items p))
    → (p : Place) → Contains new p ↔ IsFault what file p
all_faults what file start inner new items top same none tops e h p = (to, from)
  where
    to : Contains new p → IsFault what file p
    to c = elim (Contains-append_cases inner (place_if top file.end) p (subst (λ (xs : List Place). Contains xs p) e c)) [
      | inl i ↦ elim ((h p).0 i) [ inl s ↦ absurd (in_none p (subst (λ (xs : List Place). Contains xs p) none s)) | inr m ↦ inl (subst (λ (xs : List RdlItem). IsRefused what [] body.File xs p) same m) ]
      | inr o ↦ let two = is_placed top file.end p o in inr (sym tops ∙ two.0, two.1)
    ]

    from : IsFault what file p → Contains new p
    from f = subst (λ (xs : List Place). Contains xs p) (sym e) (elim f [
      | inl m ↦ Contains-append_left inner (place_if top file.end) p ((h p).1 (inr (subst (λ (xs : List RdlItem). IsRefused what [] body.File xs p) (sym same) m)))
      | inr l ↦ Contains-append_right inner (place_if top file.end) p (placed top file.end p (tops ∙ l.0) l.1)
    ])

-- no fault where there is no place
pub faultless : (what : Check) (file : RdlFile) (places : List Place) → places ≡ [] → ((p : Place) → Contains places p ↔ IsFault what file p) → (p : Place) → IsFault what file p → ⊥
faultless what file places none h p f = in_none p (subst (λ (xs : List Place). Contains xs p) none ((h p).1 f))

-- the first place is that of the first fault
pub first_fault : (what : Check) (file : RdlFile) (places : List Place) (place : Place) → IsFirst place places → ((p : Place) → Contains places p ↔ IsFault what file p) → IsFirstFault what file place
first_fault what file places place h all = record {
  here = (all place).0 h.among;
  first = λ q f. let at = (all q).1 f in h.before at.0 q (slice_get_read places (length places) at.0 q refl at.1 (sym at.2));
}

pub found_first : (what : Check) (file : RdlFile) (shown places : List Place) (found : Option Place) → shown ≡ places → IfSome found (λ q. IsFirst q shown)
    → ((p : Place) → Contains places p ↔ IsFault what file p) → (p : Place) → found ≡ Some p → IsFirstFault what file p
found_first what file shown places None same h all p e = cc
found_first what file shown places (Some q) same h all p e =
    first_fault what file places p (subst (λ (r : Place). IsFirst r places) (same_Some q p e) (subst (λ (xs : List Place). IsFirst q xs) same h)) all

pub found_none : (what : Check) (file : RdlFile) (shown places : List Place) (found : Option Place) → shown ≡ places → IfNone found (shown ≡ [])
    → ((p : Place) → Contains places p ↔ IsFault what file p) → found ≡ None → HasNone what file
found_none what file shown places None same h all e = faultless what file places (sym same ∙ h) all
found_none what file shown places (Some q) same h all e = cc
