-- The first of the offences so far.
use Rattle.std.proofs.Common.{◌≡◌, ◌⊎◌, inl, inr, ℕ, ◌+◌, ◌<◌, ◌≤◌, Bool, true, false, not, ◌&&◌, ◌||◌, List, length, Option, Some, None, refl, sym, ◌∙◌, ap, subst, arith}
use Rattle.std.specs.Prelude.{slice_get, nat_lt, if◌then◌else◌, IfSome, IfNone}
use Rattle.std.proofs.lemmas.Bool.{cases_lt}
use Rattle.std.proofs.lemmas.Option.{slice_get_within}
use Rattle.std.proofs.lemmas.Bool.Decides.{nat_tests}
use Rattle.bit_base.specs.declared.place.Place.{Place}
use Rattle.bit_base.specs.Places.{is_before}
use Rattle.bit_base.proofs.Places.{before_goes_on, one_is_before, not_before_itself}
use Rattle.flat_design.specs.declared.item.FlatItem.{FlatItem}
use Rattle.flat_design.specs.Systems.{place_of}
use Rattle.flat_offences.specs.declared.offence.Offence.{Offence}
use Rattle.flat_offences.specs.Offences.{comes_first, offence_of, IsFirstOffence, Found, more}

or_by : (a b : Bool) → a || b ≡ true → (a ≡ true) ⊎ (b ≡ true)
or_by true b h = inl refl
or_by false b h = inr h

or_left : (a b : Bool) → a ≡ true → a || b ≡ true
or_left true b h = refl
or_left false b h = cc

or_right : (a b : Bool) → b ≡ true → a || b ≡ true
or_right true b h = refl
or_right false b h = h

and_left : (a b : Bool) → a && b ≡ true → a ≡ true
and_left true b h = refl
and_left false b h = cc

and_right : (a b : Bool) → a && b ≡ true → b ≡ true
and_right true b h = h
and_right false b h = cc

and_both : (a b : Bool) → a ≡ true → b ≡ true → a && b ≡ true
and_both true b h k = k
and_both false b h k = cc

not_true : (a : Bool) → not a ≡ true → a ≡ false
not_true true h = cc
not_true false h = refl

true_not : (a : Bool) → a ≡ false → not a ≡ true
true_not true h = cc
true_not false h = refl

either : (a : Bool) → (a ≡ true) ⊎ (a ≡ false)
either true = inl refl
either false = inr refl

less_goes_on : (l m n : ℕ) → nat_lt l m ≡ true → nat_lt m n ≡ true → nat_lt l n ≡ true
less_goes_on l m n h k = grind (arith, nat_tests)

-- a place that doesn't stand after another stands before all that this one stands before
by_before : (p q r : Place) → is_before q p ≡ false → is_before q r ≡ true → is_before p r ≡ true
by_before p q r h k = elim (either (is_before p q)) [
  | inl b ↦ before_goes_on p q r b k
  | inr o ↦ subst (λ x. is_before x r ≡ true) (sym (one_is_before p q o h)) k
]

before_by : (p q r : Place) → is_before p q ≡ true → is_before r q ≡ false → is_before p r ≡ true
before_by p q r h k = elim (either (is_before q r)) [
  | inl b ↦ before_goes_on p q r h b
  | inr o ↦ subst (λ x. is_before p x ≡ true) (one_is_before q r o k) h
]

not_after : (p q r : Place) → is_before q p ≡ false → is_before r q ≡ false → is_before r p ≡ false
not_after p q r h k = elim (either (is_before r p)) [
  | inl b ↦ absurd (differ (is_before r q) (elim (either (is_before p q)) [ inl c ↦ before_goes_on r p q b c | inr o ↦ subst (λ x. is_before r x ≡ true) (one_is_before p q o h) b ]) k)
  | inr o ↦ o
] where
  differ : (a : Bool) → a ≡ true → a ≡ false → ⊥
  differ a h k = cc

pub first_goes_on : (a b c : Offence) → comes_first a b ≡ true → comes_first b c ≡ true → comes_first a c ≡ true
first_goes_on a b c h k = elim (or_by (is_before a.place b.place) _ h) [
  | inl ab ↦ elim (or_by (is_before b.place c.place) _ k) [
    | inl bc ↦ or_left (is_before a.place c.place) _ (before_goes_on a.place b.place c.place ab bc)
    | inr bc ↦ or_left (is_before a.place c.place) _ (before_by a.place b.place c.place ab (not_true _ (and_left _ _ bc)))
  ]
  | inr ab ↦ elim (or_by (is_before b.place c.place) _ k) [
    | inl bc ↦ or_left (is_before a.place c.place) _ (by_before a.place b.place c.place (not_true _ (and_left _ _ ab)) bc)
    | inr bc ↦ or_right (is_before a.place c.place) _ (and_both _ _
        (true_not _ (not_after a.place b.place c.place (not_true _ (and_left _ _ ab)) (not_true _ (and_left _ _ bc))))
        (less_goes_on a.net b.net c.net (and_right _ _ ab) (and_right _ _ bc)))
  ]
]

never_first : (a : Offence) → comes_first a a ≡ false
never_first a = by (is_before a.place a.place) (not_before_itself a.place) where
  less : (n : ℕ) → nat_lt n n ≡ false
  less n = grind (arith, nat_tests)

  by : (b : Bool) → b ≡ false → b || (not b && nat_lt a.net a.net) ≡ false
  by true h = cc
  by false h = less a.net

-- what doesn't come before an offence doesn't come before one that comes first
still_first : (c o new : Offence) → comes_first new o ≡ true → comes_first c o ≡ false → comes_first c new ≡ false
still_first c o new h k = elim (either (comes_first c new)) [ inl b ↦ absurd (differ (comes_first c o) (first_goes_on c new o b h) k) | inr out ↦ out ] where
  differ : (a : Bool) → a ≡ true → a ≡ false → ⊥
  differ a h k = cc

-- ---- over the items before a number

pub record IsFirstTo (items : List FlatItem) (found : List (Option ℕ)) (bound : ℕ) (o : Offence) : Type 0 where
  pub number : ℕ
  pub item : FlatItem
  pub there : slice_get items number ≡ Some item
  pub is : offence_of item o.net ≡ o
  pub offence : Found found number o.net
  pub first : (k n : ℕ) (x : FlatItem) → k < bound → slice_get items k ≡ Some x → Found found k n → comes_first (offence_of x n) o ≡ false

abbrev pub IsFirstBelow : List FlatItem → List (Option ℕ) → ℕ → Option Offence → Type 0
IsFirstBelow items found bound None = (k n : ℕ) → k < bound → Found found k n → ⊥
IsFirstBelow items found bound (Some o) = IsFirstTo items found bound o

before_or_here : (k j : ℕ) → j < k + 1 → (j < k) ⊎ (j ≡ k)
before_or_here k j h = elim (cases_lt j k) [ inl less ↦ inl less | inr more ↦ inr (omega arith) ]

-- the offence of the item here is one of those so far
here_first : (items : List FlatItem) (found : List (Option ℕ)) (k : ℕ) (x : FlatItem) (n : ℕ) (best : Offence) → slice_get items k ≡ Some x → Found found k n → best ≡ offence_of x n
    → ((j m : ℕ) (y : FlatItem) → j < k → slice_get items j ≡ Some y → Found found j m → comes_first (offence_of y m) best ≡ false) → IsFirstTo items found (k + 1) best
here_first items found k x n best at f e before = record {
  number = k;
  item = x;
  there = at;
  is = (λ i. offence_of x (e i).net) ∙ sym e;
  offence = f ∙ ap (λ o. Some (Some o.net)) (sym e);
  first = λ j m y less is g. elim (before_or_here k j less) [
    | inl b ↦ before j m y b is g
    | inr q ↦
        let same : x ≡ y = some_same (sym at ∙ ap (slice_get items) (sym q) ∙ is) in
        let net : n ≡ m = found_same (sym f ∙ ap (slice_get found) (sym q) ∙ g) in
        subst (λ o. comes_first o best ≡ false) (e ∙ (λ i. offence_of (same i) (net i))) (never_first best)
  ];
} where
  some_same : {A : Type 0} {a b : A} → Some a ≡ Some b → a ≡ b
  some_same {A} {a} {b} e = cc

  found_same : {a b : ℕ} → Some (Some a) ≡ Some (Some b) → a ≡ b
  found_same {a} {b} e = cc

-- the offences so far keep their first one where the item here comes later, or has none
later_first : (items : List FlatItem) (found : List (Option ℕ)) (k : ℕ) (o : Offence) → IsFirstTo items found k o → ((n : ℕ) (x : FlatItem) → slice_get items k ≡ Some x → Found found k n → comes_first (offence_of x n) o ≡ false) → IsFirstTo items found (k + 1) o
later_first items found k o h here = record {
  number = h.number;
  item = h.item;
  there = h.there;
  is = h.is;
  offence = h.offence;
  first = λ j m y less is g. elim (before_or_here k j less) [ inl b ↦ h.first j m y b is g | inr q ↦ here m y (ap (slice_get items) (sym q) ∙ is) (ap (slice_get found) (sym q) ∙ g) ];
}

pub first_step : (items : List FlatItem) (found : List (Option ℕ)) (k : ℕ) (x : FlatItem) (f : Option ℕ) (best : Option Offence) → slice_get items k ≡ Some x → slice_get found k ≡ Some f → IsFirstBelow items found k best → IsFirstBelow items found (k + 1) (more best x f)
first_step items found k x None None at is h = λ j m less g. elim (before_or_here k j less) [ inl b ↦ h j m b g | inr q ↦ absurd (differ m (sym is ∙ ap (slice_get found) (sym q) ∙ g)) ] where
  differ : (m : ℕ) → Some None ≡ Some (Some m) → ⊥
  differ m e = cc
first_step items found k x None (Some o) at is h = later_first items found k o h (λ n y there g. absurd (differ n (sym is ∙ g))) where
  differ : (m : ℕ) → Some None ≡ Some (Some m) → ⊥
  differ m e = cc
first_step items found k x (Some n) None at is h = here_first items found k x n (offence_of x n) at is refl (λ j m y less there g. absurd (h j m less g))
first_step items found k x (Some n) (Some o) at is h = by (comes_first (offence_of x n) o) refl where
  same : {A : Type 0} {a b : A} → Some a ≡ Some b → a ≡ b
  same {A} {a} {b} e = cc

  net_same : {a b : ℕ} → Some (Some a) ≡ Some (Some b) → a ≡ b
  net_same {a} {b} e = cc

  by : (b : Bool) → comes_first (offence_of x n) o ≡ b → IsFirstTo items found (k + 1) (if b then offence_of x n else o)
  by true e = here_first items found k x n (offence_of x n) at is refl (λ j m y less there g. still_first (offence_of y m) o (offence_of x n) e (h.first j m y less there g))
  by false e = later_first items found k o h (λ m y there g. (λ i. comes_first (offence_of (same (sym there ∙ at) i) (net_same (sym g ∙ is) i)) o) ∙ e)

pub first_end : (items : List FlatItem) (found : List (Option ℕ)) (o : Offence) → IsFirstTo items found (length items) o → IsFirstOffence items (Found found) o
first_end items found o h = record { number = h.number; item = h.item; there = h.there; is = h.is; offence = h.offence; first = λ k n x at g. h.first k n x (slice_get_within items k x at) at g }

pub first_done : (items : List FlatItem) (found : List (Option ℕ)) (k : ℕ) (best : Option Offence) → k ≡ length items → IsFirstBelow items found k best → IfSome best (λ o. IsFirstOffence items (Found found) o)
first_done items found k None e h = tt
first_done items found k (Some o) e h = first_end items found o (subst (λ n. IsFirstTo items found n o) e h)

pub none_done : (items : List FlatItem) (found : List (Option ℕ)) (k : ℕ) (best : Option Offence) → k ≡ length items → length found ≡ length items → IsFirstBelow items found k best → IfNone best ((j n : ℕ) → Found found j n → ⊥)
none_done items found k None e same h = λ j n g. let inside = slice_get_within found j (Some n) g in h j n (omega arith) g
none_done items found k (Some o) e same h = tt
