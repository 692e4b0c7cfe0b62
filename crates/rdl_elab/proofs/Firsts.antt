-- The first of places that have one property or another.
use Rattle.std.proofs.Common.{◌≡◌, ◌⊎◌, inl, inr, Bool, true, false, List, [], length, Contains, Option, Some, None, IfSome, IfNone, refl, sym, subst, ◌∙◌}
use Rattle.std.proofs.lemmas.Bool.{cases_Bool, true≢false}
use Rattle.std.proofs.lemmas.Option.{slice_get_read, same_Some}
use Rattle.bit_base.specs.declared.place.Place.{Place}
use Rattle.bit_base.specs.Places.{is_before, earlier, IsFirst}
use Rattle.bit_base.proofs.Places.{before_goes_on, one_is_before}
use Rattle.rdl_tree.specs.declared.tree.RdlFile.{RdlFile}
use Rattle.rdl_effects.specs.Limits.{has_too_many}
use Rattle.rdl_words.proofs.Orders.{in_none}
use Rattle.rdl_elab.specs.Firsts.{IsFirstOf, earlier_of}
use Rattle.rdl_elab.specs.Refusals as spec

-- from the two clauses of a call
pub called : (P : Place → Type 0) (found : Option Place) → ((p : Place) → found ≡ Some p → P p) → ((p q : Place) → found ≡ Some p → P q → is_before q p ≡ false)
    → (found ≡ None → (q : Place) → P q → ⊥) → IsFirstOf P found
called P found some first none = record { some = some; first = first; none = λ q e h. none e q h }

-- nothing is before the one of two that neither is before
before_neither : (p q x : Place) → is_before x p ≡ false → is_before x q ≡ false → is_before x (earlier p q) ≡ false
before_neither p q x a b = by (is_before q p) refl
  where
    by : (t : Bool) → is_before q p ≡ t → is_before x (earlier p q) ≡ false
    by true h = rw h b
    by false h = rw h a

before_first : (p q x : Place) → is_before x p ≡ false → is_before x (earlier p q) ≡ false
before_first p q x a = by (is_before q p) refl
  where
    by : (t : Bool) → is_before q p ≡ t → is_before x (earlier p q) ≡ false
    by false h = rw h a
    by true h = rw h (elim (cases_Bool (is_before x q)) [
      | inr out ↦ out
      | inl on ↦ absurd (true≢false (sym (before_goes_on x q p on h) ∙ a))
    ])

before_second : (p q x : Place) → is_before x q ≡ false → is_before x (earlier p q) ≡ false
before_second p q x b = by (is_before q p) refl
  where
    by : (t : Bool) → is_before q p ≡ t → is_before x (earlier p q) ≡ false
    by true h = rw h b
    by false h = rw h (elim (cases_Bool (is_before x p)) [
      | inr out ↦ out
      | inl on ↦ elim (cases_Bool (is_before p q)) [
        | inl up ↦ absurd (true≢false (sym (before_goes_on x p q on up) ∙ b))
        | inr down ↦ let same : p ≡ q = one_is_before p q down h in absurd (true≢false (sym (subst (λ (y : Place). is_before x y ≡ true) same on) ∙ b))
      ]
    ])

is_either : (P Q : Place → Type 0) (p q : Place) → P p → Q q → P (earlier p q) ⊎ Q (earlier p q)
is_either P Q p q a b = by (is_before q p) refl
  where
    by : (t : Bool) → is_before q p ≡ t → P (earlier p q) ⊎ Q (earlier p q)
    by true h = rw h (inr b)
    by false h = rw h (inl a)

pub either : (P Q : Place → Type 0) (a b : Option Place) → IsFirstOf P a → IsFirstOf Q b → IsFirstOf (λ p. P p ⊎ Q p) (earlier_of a b)
either P Q None b f g = record {
  some = λ p e. inr (g.some p e);
  first = λ p q e h. elim h [ inl i ↦ absurd (f.none q refl i) | inr o ↦ g.first p q e o ];
  none = λ q e h. elim h [ inl i ↦ f.none q refl i | inr o ↦ g.none q e o ];
}
either P Q (Some x) None f g = record {
  some = λ p e. inl (f.some p e);
  first = λ p q e h. elim h [ inl i ↦ f.first p q e i | inr o ↦ absurd (g.none q refl o) ];
  none = λ q e h. elim h [ inl i ↦ f.none q e i | inr o ↦ g.none q refl o ];
}
either P Q (Some x) (Some y) f g = record {
  some = λ p e. subst (λ (z : Place). P z ⊎ Q z) (same_Some (earlier x y) p e) (is_either P Q x y (f.some x refl) (g.some y refl));
  first = λ p q e h. subst (λ (z : Place). is_before q z ≡ false) (same_Some (earlier x y) p e)
      (elim h [ inl i ↦ before_first x y q (f.first x q refl i) | inr o ↦ before_second x y q (g.first y q refl o) ]);
  none = λ q e h. cc;
}

-- where there are few instances, what asks for effective values counts
pub counts : (file : RdlFile) (P : Place → Type 0) (a : Option Place) → spec.IsFew file → IsFirstOf P a → IsFirstOf (λ p. spec.IsFew file × P p) a
counts file P a few f = record { some = λ p e. (few, f.some p e); first = λ p q e h. f.first p q e h.1; none = λ q e h. f.none q e h.1 }

-- where there are too many, it doesn't
pub passed : (file : RdlFile) (P Q : Place → Type 0) (a : Option Place) → has_too_many file ≡ true → IsFirstOf P a → IsFirstOf (λ p. P p ⊎ (spec.IsFew file × Q p)) a
passed file P Q a many f = record {
  some = λ p e. inl (f.some p e);
  first = λ p q e h. elim h [ inl i ↦ f.first p q e i | inr o ↦ absurd (true≢false (sym many ∙ o.0)) ];
  none = λ q e h. elim h [ inl i ↦ f.none q e i | inr o ↦ true≢false (sym many ∙ o.0) ];
}

pub nothing : (file : RdlFile) (Q : Place → Type 0) → has_too_many file ≡ true → IsFirstOf (λ p. spec.IsFew file × Q p) None
nothing file Q many = record { some = λ p e. cc; first = λ p q e h. cc; none = λ q e h. true≢false (sym many ∙ h.0) }

-- the first of a list
pub listed : (all shown : List Place) (found : Option Place) → shown ≡ all → IfSome found (λ q. IsFirst q shown) → IfNone found (shown ≡ []) → IsFirstOf (λ p. Contains all p) found
listed all shown None same h n = record {
  some = λ p e. cc;
  first = λ p q e c. cc;
  none = λ q e c. in_none q (subst (λ (xs : List Place). Contains xs q) (sym same ∙ n) c);
}
listed all shown (Some x) same h n = record {
  some = λ p e. subst (λ (y : Place). Contains all y) (same_Some x p e) (subst (λ (xs : List Place). Contains xs x) same h.among);
  first = λ p q e c.
      let at : Contains shown q = subst (λ (xs : List Place). Contains xs q) (sym same) c in
      subst (λ (y : Place). is_before q y ≡ false) (same_Some x p e) (h.before at.0 q (slice_get_read shown (length shown) at.0 q refl at.1 (sym at.2)));
  none = λ q e c. cc;
}

-- ---- from firsts to refusals

pub is_first : (P : RdlFile → Place → Type 0) (file : RdlFile) (found : Option Place) (p : Place) → IsFirstOf (P file) found → found ≡ Some p → spec.IsFirst P file p
is_first P file found p f e = record { here = f.some p e; first = λ q h. f.first p q e h }

pub has_none : (P : RdlFile → Place → Type 0) (file : RdlFile) (found : Option Place) → IsFirstOf (P file) found → found ≡ None → spec.HasNone P file
has_none P file found f e = λ q h. f.none q e h
