-- In a list in order by address and then by place, the clashes are those of neighbours.
use Rattle.std.proofs.Common.{◌≡◌, ◌≢◌, ℕ, zero, suc, ◌<◌, ◌≤◌, ◌⊎◌, inl, inr, Bool, true, false, ◌==◌, List, [], ◌∷◌, length, Contains, Some, slice_get, slice_index_or, refl, sym, ◌∙◌, ap, subst, arith, lit<}
use Rattle.std.proofs.lemmas.Bool.Decides.{nat_tests}
use Rattle.std.proofs.lemmas.Option.{same_Some}
use Rattle.std.proofs.lemmas.List.Elements.{Contains-append_left, Contains-append_right, Contains-append_cases}
use Rattle.bit_base.specs.declared.place.Place.{Place}
use Rattle.bit_base.specs.Places.{is_before}
use Rattle.bit_base.proofs.Places.{one_is_before}
use Rattle.rdl_text.specs.Names.{place_if}
use Rattle.rdl_words.specs.Spots.{Spot}
use Rattle.rdl_words.specs.Clashes.{IsClash, later}
use Rattle.rdl_words.specs.Words.{candidates}

-- a later word has no lower address, and at the same address no place before
pub record AreInOrder (a b : Spot) : Type 0 where
  pub address : a.address ≤ b.address
  pub place : a.address ≡ b.address → is_before b.place a.place ≡ false

abbrev pub InOrder : List Spot → Type 0
InOrder l = (i j : ℕ) (a b : Spot) → i < j → slice_get l i ≡ Some a → slice_get l j ≡ Some b → AreInOrder a b

tail : (w : Spot) (l : List Spot) → InOrder (w ∷ l) → InOrder l
tail w l h i j a b lt ga gb = h (suc i) (suc j) a b (omega (arith, lt)) ga gb

in_one : (e p : Place) → Contains (e ∷ []) p → p ≡ e
in_one e p h = at h.0 h.1 h.2
  where
    at : (k : ℕ) → k < length (e ∷ []) → slice_index_or (e ∷ []) k p ≡ p → p ≡ e
    at zero lt q = sym q
    at (suc k) lt q = absurd (omega (arith, lt))

pub in_none : (p : Place) → Contains [] p → ⊥
in_none p h = omega (arith, h.1)

pub is_placed : (t : Bool) (e p : Place) → Contains (place_if t e) p → (t ≡ true) × (p ≡ e)
is_placed false e p h = absurd (in_none p h)
is_placed true e p h = (refl, in_one e p h)

pub placed : (t : Bool) (e p : Place) → t ≡ true → p ≡ e → Contains (place_if t e) p
placed t e p gone same = subst (λ (b : Bool). Contains (place_if b e) p) (sym gone) (0, lit< tt, sym same)

-- the later of two, where the second isn't before the first
pub later_is : (p q : Place) → is_before q p ≡ false → later p q ≡ q
later_is p q e = rw e refl

-- the later of two, where the first isn't before the second
later_was : (p q : Place) → is_before p q ≡ false → later p q ≡ p
later_was p q e = by (is_before q p) refl
  where
    by : (t : Bool) → is_before q p ≡ t → later p q ≡ p
    by true h = rw h refl
    by false h = rw h (one_is_before q p h e)

-- ---- a neighbour's clash is one

further : (w : Spot) (l : List Spot) (p : Place) → IsClash l p → IsClash (w ∷ l) p
further w l p c = record {
  first = suc c.first;
  second = suc c.second;
  a = c.a;
  b = c.b;
  apart = λ e. c.apart (omega (arith, e));
  here = c.here;
  there = c.there;
  same = c.same;
  place = c.place;
}

pub is_clash : (l : List Spot) (p : Place) → InOrder l → Contains (candidates l) p → IsClash l p
is_clash [] p h c = absurd (in_none p c)
is_clash (w ∷ []) p h c = absurd (in_none p c)
is_clash (w ∷ x ∷ xs) p h c = elim (Contains-append_cases (place_if (w.address == x.address) x.place) (candidates (x ∷ xs)) p c) [
  | inl i ↦ first (is_placed (w.address == x.address) x.place p i)
  | inr o ↦ further w (x ∷ xs) p (is_clash (x ∷ xs) p (tail w (x ∷ xs) h) o)
]
  where
    first : ((w.address == x.address) ≡ true) × (p ≡ x.place) → IsClash (w ∷ x ∷ xs) p
    first two =
        let same : w.address ≡ x.address = grind (arith, nat_tests, two.0) in
        let order : AreInOrder w x = h 0 1 w x (omega arith) refl refl in
        record {
          first = 0;
          second = 1;
          a = w;
          b = x;
          apart = λ e. omega (arith, e);
          here = refl;
          there = refl;
          same = same;
          place = two.1 ∙ sym (later_is w.place x.place (order.place same));
        }

-- ---- each clash is a neighbour's

no_word : (i : ℕ) (a : Spot) → slice_get [] i ≡ Some a → ⊥
no_word i a e = cc

found : (l : List Spot) → InOrder l → (i j : ℕ) (a b : Spot) → i < j → slice_get l i ≡ Some a → slice_get l j ≡ Some b → a.address ≡ b.address
    → Contains (candidates l) b.place
found [] h i j a b lt ga gb same = absurd (no_word i a ga)
found (w ∷ []) h i zero a b lt ga gb same = absurd (omega (arith, lt))
found (w ∷ []) h i (suc j) a b lt ga gb same = absurd (no_word j b gb)
found (w ∷ x ∷ xs) h (suc i) zero a b lt ga gb same = absurd (omega (arith, lt))
found (w ∷ x ∷ xs) h (suc i) (suc j) a b lt ga gb same =
    Contains-append_right (place_if (w.address == x.address) x.place) (candidates (x ∷ xs)) b.place (found (x ∷ xs) (tail w (x ∷ xs) h) i j a b (omega (arith, lt)) ga gb same)
found (w ∷ x ∷ xs) h zero zero a b lt ga gb same = absurd (omega (arith, lt))
found (w ∷ x ∷ xs) h zero (suc zero) a b lt ga gb same =
    let wa : w ≡ a = same_Some w a ga in
    let xb : x ≡ b = same_Some x b gb in
    let e : w.address ≡ x.address = ap (λ (v : Spot). v.address) wa ∙ same ∙ ap (λ (v : Spot). v.address) (sym xb) in
    Contains-append_left (place_if (w.address == x.address) x.place) (candidates (x ∷ xs)) b.place
    (placed (w.address == x.address) x.place b.place (grind (arith, nat_tests, e)) (ap (λ (v : Spot). v.place) (sym xb)))
found (w ∷ x ∷ xs) h zero (suc (suc j)) a b lt ga gb same =
    let wa : w ≡ a = same_Some w a ga in
    let up : AreInOrder w x = h 0 1 w x (omega arith) refl refl in
    let on : AreInOrder x b = h 1 (suc (suc j)) x b (omega arith) refl gb in
    let e : w.address ≡ b.address = ap (λ (v : Spot). v.address) wa ∙ same in
    let xs_same : x.address ≡ b.address = omega (arith, up.address, on.address, e) in
    Contains-append_right (place_if (w.address == x.address) x.place) (candidates (x ∷ xs)) b.place
    (found (x ∷ xs) (tail w (x ∷ xs) h) zero (suc j) x b (omega arith) refl gb xs_same)

sides : (i j : ℕ) → i ≢ j → (i < j) ⊎ (j < i)
sides zero zero n = absurd (n refl)
sides zero (suc j) n = inl (omega arith)
sides (suc i) zero n = inr (omega arith)
sides (suc i) (suc j) n = elim (sides i j (λ e. n (ap suc e))) [ inl l ↦ inl (omega (arith, l)) | inr l ↦ inr (omega (arith, l)) ]

pub is_candidate : (l : List Spot) (p : Place) → InOrder l → IsClash l p → Contains (candidates l) p
is_candidate l p h c = elim (sides c.first c.second c.apart) [
  | inl lt ↦
      let o : AreInOrder c.a c.b = h c.first c.second c.a c.b lt c.here c.there in
      subst (λ (q : Place). Contains (candidates l) q) (sym (c.place ∙ later_is c.a.place c.b.place (o.place c.same))) (found l h c.first c.second c.a c.b lt c.here c.there c.same)
  | inr lt ↦
      let o : AreInOrder c.b c.a = h c.second c.first c.b c.a lt c.there c.here in
      subst (λ (q : Place). Contains (candidates l) q) (sym (c.place ∙ later_was c.a.place c.b.place (o.place (sym c.same)))) (found l h c.second c.first c.b c.a lt c.there c.here (sym c.same))
]
