-- The first of the registers whose access isn't that of the first register is the first of those with unlike accesses.
use Rattle.std.proofs.Common.{◌≡◌, ◌≢◌, ℕ, zero, suc, Bool, true, false, not, ◌==◌, inl, inr, List, [], ◌∷◌, length, Contains, Option, Some, None, IfSome, IfNone, slice_get, refl, sym, ap, subst, ◌∙◌, arith}
use Rattle.std.proofs.lemmas.Bool.{cases_Bool, true≢false}
use Rattle.std.proofs.lemmas.Bool.Decides.{nat_tests}
use Rattle.std.proofs.lemmas.Option.{slice_get_read, same_Some}
use Rattle.std.proofs.lemmas.List.Elements.{Contains-append_left, Contains-append_right, Contains-append_cases}
use Rattle.bit_base.specs.declared.place.Place.{Place}
use Rattle.bit_base.specs.Places.{is_before, IsFirst}
use Rattle.bit_base.proofs.Places.{before_goes_on, one_is_before}
use Rattle.rdl_text.specs.Names.{place_if}
use Rattle.rdl_layout.specs.declared.register.Register.{Register}
use Rattle.rdl_words.specs.Clashes.{later}
use Rattle.rdl_words.proofs.Orders.{in_none, is_placed, placed, later_is}
use Rattle.rdl_elab.specs.Firsts.{IsFirstOf}
use Rattle.rdl_elab.specs.Unlike.{IsUnlike, IsFirstRegister, others}

-- ---- the places of others

pub record IsOther (access : ℕ) (rs : List Register) (p : Place) : Type 0 where
  pub at : ℕ
  pub register : Register
  pub here : slice_get rs at ≡ Some register
  pub unlike : register.access ≢ access
  pub place : p ≡ register.place

behind : (access : ℕ) (r : Register) (rs : List Register) (p : Place) → IsOther access rs p → IsOther access (r ∷ rs) p
behind access r rs p o = record { at = suc o.at; register = o.register; here = o.here; unlike = o.unlike; place = o.place }

is_other : (access : ℕ) (rs : List Register) (p : Place) → Contains (others access rs) p → IsOther access rs p
is_other access [] p c = absurd (in_none p c)
is_other access (r ∷ rs) p c = elim (Contains-append_cases (place_if (not (r.access == access)) r.place) (others access rs) p c) [
  | inl i ↦ here (is_placed (not (r.access == access)) r.place p i)
  | inr o ↦ behind access r rs p (is_other access rs p o)
]
  where
    here : (not (r.access == access) ≡ true) × (p ≡ r.place) → IsOther access (r ∷ rs) p
    here two = record { at = 0; register = r; here = refl; unlike = λ e. grind (arith, nat_tests, two.0, e); place = two.1 }

has_other : (access : ℕ) (rs : List Register) (k : ℕ) (r : Register) → slice_get rs k ≡ Some r → r.access ≢ access → Contains (others access rs) r.place
has_other access [] k r e n = cc
has_other access (x ∷ rs) zero r e n =
    let same : x ≡ r = same_Some x r e in
    Contains-append_left (place_if (not (x.access == access)) x.place) (others access rs) r.place
    (placed (not (x.access == access)) x.place r.place
    (subst (λ (y : Register). not (y.access == access) ≡ true) (sym same) (grind (arith, nat_tests, n))) (ap (λ (y : Register). y.place) (sym same)))
has_other access (x ∷ rs) (suc k) r e n = Contains-append_right (place_if (not (x.access == access)) x.place) (others access rs) r.place (has_other access rs k r e n)

-- ---- orders

-- what isn't before p is where something of a pair isn't
not_before_later : (a b p : Place) → is_before a p ≡ false → is_before (later a b) p ≡ false
not_before_later a b p e = by (is_before b a) refl
  where
    by : (t : Bool) → is_before b a ≡ t → is_before (later a b) p ≡ false
    by true h = rw h e
    by false h = rw h (elim (cases_Bool (is_before b p)) [
      | inr out ↦ out
      | inl on ↦ elim (cases_Bool (is_before p a)) [
        | inl up ↦ absurd (true≢false (sym (before_goes_on b p a on up) ∙ h))
        | inr down ↦ let same : p ≡ a = one_is_before p a down e in absurd (true≢false (sym (subst (λ (x : Place). is_before b x ≡ true) same on) ∙ h))
      ]
    ])

not_before_later_2 : (a b p : Place) → is_before b p ≡ false → is_before (later a b) p ≡ false
not_before_later_2 a b p e = by (is_before b a) refl
  where
    by : (t : Bool) → is_before b a ≡ t → is_before (later a b) p ≡ false
    by false h = rw h e
    by true h = rw h (elim (cases_Bool (is_before a p)) [
      | inr out ↦ out
      | inl on ↦ absurd (true≢false (sym (before_goes_on b a p h on) ∙ e))
    ])

-- ---- the first

-- one of an unlike pair is another than the first register
pub record Some_other (access : ℕ) (rs : List Register) (q : Place) : Type 0 where
  pub place : Place
  pub among : Contains (others access rs) place
  pub bound : (p : Place) → is_before place p ≡ false → is_before q p ≡ false

some_other : (access : ℕ) (rs : List Register) (q : Place) → IsUnlike rs q → Some_other access rs q
some_other access rs q u = by (u.a.access == access) refl
  where
    by : (t : Bool) → (u.a.access == access) ≡ t → Some_other access rs q
    by false h = record {
      place = u.a.place;
      among = has_other access rs u.first u.a u.here (λ e. grind (arith, nat_tests, h, e));
      bound = λ p e. subst (λ (x : Place). is_before x p ≡ false) (sym u.place) (not_before_later u.a.place u.b.place p e);
    }
    by true h = record {
      place = u.b.place;
      among = has_other access rs u.second u.b u.there (λ e. u.other (grind (arith, nat_tests, h, e)));
      bound = λ p e. subst (λ (x : Place). is_before x p ≡ false) (sym u.place) (not_before_later_2 u.a.place u.b.place p e);
    }

unlike_of : (r : Register) (rs : List Register) (p : Place) → IsFirstRegister r rs → IsOther r.access rs p → IsUnlike rs p
unlike_of r rs p f o = record {
  first = f.at;
  second = o.at;
  a = r;
  b = o.register;
  here = f.among;
  there = o.here;
  other = λ e. o.unlike (sym e);
  place = o.place ∙ sym (later_is r.place o.register.place (f.before o.at o.register o.here));
}

pub first_others : (r : Register) (rs : List Register) (shown places : List Place) (found : Option Place) → IsFirstRegister r rs → shown ≡ places → places ≡ others r.access rs
    → IfSome found (λ q. IsFirst q shown) → IfNone found (shown ≡ []) → IsFirstOf (IsUnlike rs) found
first_others r rs shown places None f same all h n = record {
  some = λ p e. cc;
  first = λ p q e u. cc;
  none = λ q e u. let o : Some_other r.access rs q = some_other r.access rs q u in in_none o.place (subst (λ (xs : List Place). Contains xs o.place) (sym all ∙ sym same ∙ n) o.among);
}
first_others r rs shown places (Some x) f same all h n = record {
  some = λ p e. unlike_of r rs p f (is_other r.access rs p (subst (λ (y : Place). Contains (others r.access rs) y) (same_Some x p e) (subst (λ (xs : List Place). Contains xs x) (same ∙ all) h.among)));
  first = λ p q e u.
      let o : Some_other r.access rs q = some_other r.access rs q u in
      let at : Contains shown o.place = subst (λ (xs : List Place). Contains xs o.place) (sym all ∙ sym same) o.among in
      let before : is_before o.place x ≡ false = h.before at.0 o.place (slice_get_read shown (length shown) at.0 o.place refl at.1 (sym at.2)) in
      subst (λ (y : Place). is_before q y ≡ false) (same_Some x p e) (o.bound x before);
  none = λ q e u. cc;
}

pub no_registers : (rs : List Register) → rs ≡ [] → IsFirstOf (IsUnlike rs) None
no_registers rs none = record {
  some = λ p e. cc;
  first = λ p q e u. cc;
  none = λ q e u. no_register u.first u.a (subst (λ (xs : List Register). slice_get xs u.first ≡ Some u.a) none u.here);
}
  where
    no_register : (k : ℕ) (r : Register) → slice_get [] k ≡ Some r → ⊥
    no_register k r e = cc
