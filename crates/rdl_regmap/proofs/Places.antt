-- The words of a map rise and are aligned, and its fields stand in them in order and apart.
use Rattle.std.proofs.Common.{◌≡◌, inl, inr, ℕ, zero, suc, ◌+◌, ◌*◌, ◌/◌, ◌%◌, ◌<◌, ◌≤◌, Bool, true, false, not, ◌==◌, nat_lt, List, [], ◌∷◌, ◌++◌, length, map, Option, Some, None, slice_get, get_or, refl, sym, ◌∙◌, ap, subst, arith, if◌then◌else◌}
use Rattle.std.specs.List.{IsDistinct, AllByRecursion}
use Rattle.std.specs.List.Sorted.{IsNonDecreasingBy}
use Rattle.std.proofs.lemmas.Bool.{cases_Bool}
use Rattle.std.proofs.lemmas.Bool.Decides.{nat_tests}
use Rattle.std.proofs.lemmas.Option.{slice_get_within, get_or_from_slice_get}
use Rattle.std.proofs.lemmas.List.{map-append}
use Rattle.std.proofs.lemmas.Map.Keys.{IsDistinct-IsPermutation}
use Rattle.bit_base.specs.declared.place.Place.{Place}
use Rattle.field_policies.specs.Maps.{IsBus, is_bus_width}
use Rattle.rdl_text.specs.declared.instance.Body.{Body}
use Rattle.rdl_text.specs.declared.instance.Body.TheVariants as body
use Rattle.rdl_text.specs.Components.{Component}
use Rattle.rdl_text.specs.Instances.{kind_of}
use Rattle.rdl_values.specs.OneFrame.{Frame, Trail}
use Rattle.rdl_values.specs.Values.{here_of}
use Rattle.rdl_effects.specs.Registers.{regwidth_at, accesswidth_at}
use Rattle.rdl_layout.specs.declared.register.Register.{Register}
use Rattle.rdl_layout.specs.Misplaced.{is_off}
use Rattle.rdl_layout.specs.Registers.{register_by, register_here, registers_of, registers_below}
use Rattle.rdl_layout.specs.Registers as layout
use Rattle.rdl_layout.specs.Walks.{over}
use Rattle.rdl_words.specs.Spots.{Spot}
use Rattle.rdl_words.specs.Words.{address_in, spot_in, spots_below, words_in, spots_of}
use Rattle.rdl_words.specs.Clashes.{IsClash, later}
use Rattle.rdl_numbers.specs.Orders as orders
use Rattle.rdl_fields.specs.declared.named.NamedField.{NamedField}
use Rattle.rdl_map.specs.Maps.{bus_of}
use Rattle.rdl_elab.specs.Unlike.{IsUnlike}
use Rattle.rdl_regmap.proofs.Has.{Has, has_left, has_right, has_cases, has_permuted, FromOne, from_flat, has_at}
use Rattle.rdl_regmap.proofs.Visits.{Visit, visit, at_visit, over_is}
use Rattle.rdl_regmap.proofs.Trails.{IsTrail, IsReached, reached}
use Rattle.rdl_regmap.proofs.Instances.{held_by_no}
use Rattle.rdl_regmap.proofs.Placed.{IsAccess}
use Rattle.rdl_regmap.proofs.Givens as givens
use Rattle.rdl_regmap.proofs.Givens.{IsClear, IsRegisterAt, IsGiven, IsPlaced, EndsAt, ends_at, trail_of, given_is, bits_are, not_first}
use Rattle.rdl_regmap.proofs.MapTold.{AreParts}

-- ---- lists whose elements differ

pub each_at : {A : Type 0} (P : A → Type 0) (xs : List A) (j : ℕ) (y : A) → AllByRecursion P xs → slice_get xs j ≡ Some y → P y
each_at P [] j y all e = cc
each_at P (x ∷ xs) zero y all e = subst P (same x y e) all.0
  where
    same : {B : Type 0} (a b : B) → Some a ≡ Some b → a ≡ b
    same a b q = cc
each_at P (x ∷ xs) (suc j) y all e = each_at P xs j y all.1 e

pub distinct_at : {A : Type 0} (test : A → A → Bool) (xs : List A) (i j : ℕ) (x y : A) → IsDistinct test xs → i < j → slice_get xs i ≡ Some x → slice_get xs j ≡ Some y → test x y ≡ false
unfolding IsDistinct
distinct_at test [] i j x y d lt e f = cc
distinct_at test (z ∷ xs) i zero x y d lt e f = absurd (omega (arith, lt))
distinct_at test (z ∷ xs) zero (suc j) x y d lt e f = subst (λ w. test w y ≡ false) (same z x e) (each_at (λ w. test z w ≡ false) xs j y d.0 f)
  where
    same : {B : Type 0} (a b : B) → Some a ≡ Some b → a ≡ b
    same a b q = cc
distinct_at test (z ∷ xs) (suc i) (suc j) x y d lt e f = distinct_at test xs i j x y d.1 (omega (arith, lt)) e f

pub all_by : {A : Type 0} (P : A → Type 0) (xs : List A) → ((x : A) → Has x xs → P x) → AllByRecursion P xs
all_by P [] f = tt
all_by P (x ∷ xs) f = (f x (inl refl), all_by P xs (λ y h. f y (inr h)))

pub of_all : {A : Type 0} (P : A → Type 0) (xs : List A) (x : A) → AllByRecursion P xs → Has x xs → P x
of_all P [] x all h = absurd h
of_all P (y ∷ xs) x all h = elim h [ inl e ↦ subst P (sym e) all.0 | inr r ↦ of_all P xs x all.1 r ]

pub distinct_append : {A : Type 0} (test : A → A → Bool) (xs ys : List A) → IsDistinct test xs → IsDistinct test ys → ((x y : A) → Has x xs → Has y ys → test x y ≡ false) → IsDistinct test (xs ++ ys)
unfolding IsDistinct
distinct_append test [] ys d e f = e
distinct_append test (x ∷ xs) ys d e f = (
  all_by (λ y. test x y ≡ false) (xs ++ ys) (λ y h. elim (has_cases y xs ys h) [ inl l ↦ of_all (λ z. test x z ≡ false) xs y d.0 l | inr r ↦ f x y (inl refl) r ]),
  distinct_append test xs ys d.1 e (λ z y h i. f z y (inr h) i),
)

pub distinct_left : {A : Type 0} (test : A → A → Bool) (xs ys : List A) → IsDistinct test (xs ++ ys) → IsDistinct test xs
unfolding IsDistinct
distinct_left test [] ys d = tt
distinct_left test (x ∷ xs) ys d = (all_by (λ y. test x y ≡ false) xs (λ y h. of_all (λ z. test x z ≡ false) (xs ++ ys) y d.0 (has_left y xs ys h)), distinct_left test xs ys d.1)

pub distinct_right : {A : Type 0} (test : A → A → Bool) (xs ys : List A) → IsDistinct test (xs ++ ys) → IsDistinct test ys
unfolding IsDistinct
distinct_right test [] ys d = d
distinct_right test (x ∷ xs) ys d = distinct_right test xs ys d.1

pub distinct_across : {A : Type 0} (test : A → A → Bool) (xs ys : List A) (x y : A) → IsDistinct test (xs ++ ys) → Has x xs → Has y ys → test x y ≡ false
unfolding IsDistinct
distinct_across test [] ys x y d h i = absurd h
distinct_across test (z ∷ xs) ys x y d h i = elim h [
  | inl e ↦ subst (λ w. test w y ≡ false) (sym e) (of_all (λ w. test z w ≡ false) (xs ++ ys) y d.0 (has_right y xs ys i))
  | inr r ↦ distinct_across test xs ys x y d.1 r i
]

abbrev pub same_nat : ℕ → ℕ → Bool
same_nat a b = a == b

nat_flips : (x y : ℕ) → same_nat x y ≡ same_nat y x
nat_flips x y = by (x == y) (y == x) refl refl
  where
    by : (a b : Bool) → (x == y) ≡ a → (y == x) ≡ b → (x == y) ≡ (y == x)
    by true true e f = e ∙ sym f
    by false false e f = e ∙ sym f
    by true false e f = absurd (grind (arith, nat_tests, e, f))
    by false true e f = absurd (grind (arith, nat_tests, e, f))

-- ---- registers

pub record IsRegisterHere (top : Component) (r : Register) (v : Visit) : Type 0 where
  pub kind : kind_of v.component ≡ body.Reg
  pub at : IsRegisterAt top v
  pub address : r.address ≡ v.address
  pub width : r.width ≡ regwidth_at v.trail
  pub access : r.access ≡ accesswidth_at v.trail

register_by_kind : (k : Body) (a : ℕ) (t : Trail) (c : Component) (f : Frame) (r : Register) → Has r (register_by k a t c f) → (k ≡ body.Reg) × (r.address ≡ a) × (r.width ≡ regwidth_at t) × (r.access ≡ accesswidth_at t)
register_by_kind body.File a t c f r h = absurd h
register_by_kind body.Addrmap a t c f r h = absurd h
register_by_kind body.Regfile a t c f r h = absurd h
register_by_kind body.Reg a t c f r h = elim h [ inl e ↦ (refl, ap (λ (x : Register). x.address) e, ap (λ (x : Register). x.width) e, ap (λ (x : Register). x.access) e) | inr n ↦ absurd n ]
register_by_kind body.Field a t c f r h = absurd h

none_at_top : (t : Trail) (f : Frame) → here_of t ≡ Some f → t ≡ [] → ⊥
none_at_top [] f e q = cc
none_at_top (g ∷ t) f e q = cc

same_frame : (a b : Frame) → Some a ≡ Some b → a ≡ b
same_frame a b q = cc

register_here_is : (top : Component) (v : Visit) (r : Register) → IsClear top → Has v (over visit 65 0 [] top) → Has r (at_visit layout.register_at v) → IsRegisterHere top r v
register_here_is top v r clear h i = by (here_of v.trail) refl i
  where
    by : (o : Option Frame) → here_of v.trail ≡ o → Has r (register_here v.address v.trail v.component o) → IsRegisterHere top r v
    by None e g = absurd g
    by (Some f) e g =
        let q = register_by_kind f.kind v.address v.trail v.component f r g in
        let w : IsReached [] top v = reached 65 0 [] top v h in
        let way : IsTrail top v.trail v.component = subst (λ (t : Trail). IsTrail top t v.component) (sym w.is) w.trail in
        let a : EndsAt v.trail v.component = ends_at top v.trail v.component way (none_at_top v.trail f e) in
        let k : kind_of v.component ≡ body.Reg = sym a.kind ∙ ap (λ (x : Frame). x.kind) (same_frame a.frame f (sym a.here ∙ e)) ∙ q.0 in
        record { kind = k; at = givens.register_at top v clear h k; address = q.1; width = q.2; access = q.3 }

pub record IsRegisterIn (top : Component) (r : Register) : Type 0 where
  pub visit : Visit
  pub here : IsRegisterHere top r visit

pub register_in : (top : Component) (r : Register) → IsClear top → Has r (registers_below (Some top)) → IsRegisterIn top r
register_in top r clear h =
    let f : FromOne (at_visit layout.register_at) r (over visit 65 0 [] top) = from_flat (at_visit layout.register_at) r (over visit 65 0 [] top) (subst (λ (xs : List Register). Has r xs) (over_is layout.register_at 65 0 [] top) h) in
    record { visit = f.one; here = register_here_is top f.one r clear f.among f.gives }

-- ---- all have one access

record HasPlace (r : Register) (rs : List Register) : Type 0 where
  at : ℕ
  here : slice_get rs at ≡ Some r

has_place : (r : Register) (rs : List Register) → Has r rs → HasPlace r rs
has_place r [] h = absurd h
has_place r (s ∷ rs) h = elim h [ inl e ↦ record { at = 0; here = ap (λ (x : Register). Some x) (sym e) } | inr i ↦ let q : HasPlace r rs = has_place r rs i in record { at = suc q.at; here = q.here } ]

pub one_access : (rs : List Register) → ((q : Place) → IsUnlike rs q → ⊥) → (r s : Register) → Has r rs → Has s rs → r.access ≡ s.access
one_access rs none r s h i = elim (cases_Bool (r.access == s.access)) [
  | inl e ↦ grind (arith, nat_tests, e)
  | inr e ↦
      let a : HasPlace r rs = has_place r rs h in
      let b : HasPlace s rs = has_place s rs i in
      absurd (none (later r.place s.place) (record { first = a.at; second = b.at; a = r; b = s; here = a.here; there = b.here; other = λ q. grind (arith, nat_tests, e, q); place = refl }))
]

pub bus_is : (rs : List Register) (r : Register) → ((a b : Register) → Has a rs → Has b rs → a.access ≡ b.access) → Has r rs → r.access ≡ bus_of rs
bus_is [] r one h = absurd h
bus_is (s ∷ rs) r one h = one r s h (inl refl)

is_bus : (n : ℕ) → IsAccess n → is_bus_width n ≡ true
is_bus n (IsAccess.Eight e) = rw e refl
is_bus n (IsAccess.Sixteen e) = rw e refl
is_bus n (IsAccess.ThirtyTwo e) = rw e refl

bus_width : (top : Component) (rs : List Register) → ((r : Register) → Has r rs → IsAccess r.access) → is_bus_width (bus_of rs) ≡ true
bus_width top [] all = refl
bus_width top (r ∷ rs) all = is_bus r.access (all r (inl refl))

-- ---- words

record IsWordOf (rs : List Register) (w : ℕ) : Type 0 where
  register : Register
  among : Has register rs
  number : ℕ
  is : w ≡ address_in register number

word_of_one : (r : Register) (n : ℕ) (w : ℕ) → Has w (map orders.address_of (spots_below r n)) → (k : ℕ) × (w ≡ address_in r k)
word_of_one r zero w h = absurd h
word_of_one r (suc n) w h = elim (has_cases w (map orders.address_of (spots_below r n)) (map orders.address_of (spot_in r n)) (subst (λ (xs : List ℕ). Has w xs) (map-append orders.address_of (spots_below r n) (spot_in r n)) h)) [
  | inl l ↦ word_of_one r n w l
  | inr q ↦ (n, by (nat_lt (address_in r n) 4294967296) q)
]
  where
    by : (b : Bool) → Has w (map orders.address_of (if b then record { address = address_in r n; place = r.place } ∷ [] else [])) → w ≡ address_in r n
    by true q = elim q [ inl e ↦ e | inr x ↦ absurd x ]
    by false q = absurd q

word_of_all : (rs : List Register) (w : ℕ) → Has w (map orders.address_of (spots_of rs)) → IsWordOf rs w
word_of_all [] w h = absurd h
word_of_all (r ∷ rs) w h = elim (has_cases w (map orders.address_of (spots_below r (words_in r))) (map orders.address_of (spots_of rs)) (subst (λ (xs : List ℕ). Has w xs) (map-append orders.address_of (spots_below r (words_in r)) (spots_of rs)) h)) [
  | inl l ↦ let k : (n : ℕ) × (w ≡ address_in r n) = word_of_one r (words_in r) w l in record { register = r; among = inl refl; number = k.0; is = k.1 }
  | inr q ↦ let x : IsWordOf rs w = word_of_all rs w q in record { register = x.register; among = inr x.among; number = x.number; is = x.is }
]

aligned_8 : (a k : ℕ) → (a + 8 / 8 * k) % (8 / 8) ≡ 0
aligned_8 a k = omega arith

aligned_16 : (a k : ℕ) → a % 2 ≡ 0 → (a + 16 / 8 * k) % (16 / 8) ≡ 0
aligned_16 a k e = omega (arith, e)

aligned_32 : (a k : ℕ) → a % 4 ≡ 0 → (a + 32 / 8 * k) % (32 / 8) ≡ 0
aligned_32 a k e = omega (arith, e)

aligned_by : (n a k : ℕ) → IsAccess n → is_off a n ≡ false → (a + n / 8 * k) % (n / 8) ≡ 0
aligned_by n a k (IsAccess.Eight e) out = subst (λ m. (a + m / 8 * k) % (m / 8) ≡ 0) (sym e) (aligned_8 a k)
aligned_by n a k (IsAccess.Sixteen e) out =
    let o : not (a % 2 == 0) ≡ false = subst (λ m. is_off a m ≡ false) e out in
    let z : (a % 2 == 0) ≡ true = held_by_no _ o in
    subst (λ m. (a + m / 8 * k) % (m / 8) ≡ 0) (sym e) (aligned_16 a k (grind (arith, nat_tests, z)))
aligned_by n a k (IsAccess.ThirtyTwo e) out =
    let o : not (a % 4 == 0) ≡ false = subst (λ m. is_off a m ≡ false) e out in
    let z : (a % 4 == 0) ≡ true = held_by_no _ o in
    subst (λ m. (a + m / 8 * k) % (m / 8) ≡ 0) (sym e) (aligned_32 a k (grind (arith, nat_tests, z)))

further : (s : Spot) (ss : List Spot) (q : Place) → IsClash ss q → IsClash (s ∷ ss) q
further s ss q c = record { first = suc c.first; second = suc c.second; a = c.a; b = c.b; apart = λ e. c.apart (omega (arith, e)); here = c.here; there = c.there; same = c.same; place = c.place }

record HasSpot (s : Spot) (ss : List Spot) (w : ℕ) : Type 0 where
  at : ℕ
  spot : Spot
  here : slice_get ss at ≡ Some spot
  address : spot.address ≡ w

has_spot : (s : Spot) (ss : List Spot) (w : ℕ) → Has w (map orders.address_of ss) → HasSpot s ss w
has_spot s [] w h = absurd h
has_spot s (x ∷ ss) w h = elim h [ inl e ↦ record { at = 0; spot = x; here = refl; address = sym e } | inr i ↦ let q : HasSpot s ss w = has_spot s ss w i in record { at = suc q.at; spot = q.spot; here = q.here; address = q.address } ]

pub distinct_spots : (ss : List Spot) → ((q : Place) → IsClash ss q → ⊥) → IsDistinct same_nat (map orders.address_of ss)
unfolding IsDistinct
distinct_spots [] none = tt
distinct_spots (s ∷ ss) none = (
  all_by (λ w. same_nat s.address w ≡ false) (map orders.address_of ss) (λ w h. elim (cases_Bool (s.address == w)) [
    | inr e ↦ e
    | inl e ↦
        let x : HasSpot s ss w = has_spot s ss w h in
        let same : s.address ≡ w = grind (arith, nat_tests, e) in
        absurd (none (later s.place x.spot.place) (record { first = 0; second = suc x.at; a = s; b = x.spot; apart = λ q. omega (arith, q); here = refl; there = x.here; same = same ∙ sym x.address; place = refl }))
  ]),
  distinct_spots ss (λ q c. none q (further s ss q c)),
)

-- what holds of the registers of a clear description whose words don't clash
pub record IsPlain (top : Component) : Type 0 where
  pub unlike : (q : Place) → IsUnlike (registers_below (Some top)) q → ⊥
  pub clash : (q : Place) → IsClash (spots_of (registers_below (Some top))) q → ⊥

pub words_rise : (words : List ℕ) → IsDistinct same_nat words → IsNonDecreasingBy (λ (w : ℕ). w) words → (i j a b : ℕ) → i < j → slice_get words i ≡ Some a → slice_get words j ≡ Some b → a < b
words_rise words d up i j a b lt e f =
    let n : same_nat a b ≡ false = distinct_at same_nat words i j a b d lt e f in
    let within : j < length words = slice_get_within words j b f in
    let x : get_or words i 0 ≡ a = get_or_from_slice_get words i a 0 e in
    let y : get_or words j 0 ≡ b = get_or_from_slice_get words j b 0 f in
    let le : get_or words i 0 ≤ get_or words j 0 = up i j 0 (omega (arith, lt)) within in
    grind (arith, nat_tests, n, x, y, le)

pub distinct_words : (top : Component) (words : List ℕ) (given : List NamedField) → AreParts top words given → IsPlain top → IsDistinct same_nat words
distinct_words top words given parts plain = IsDistinct-IsPermutation same_nat nat_flips (map orders.address_of (spots_of (registers_below (Some top)))) words parts.words_are (distinct_spots _ plain.clash)

pub is_bus_of : (top : Component) (words : List ℕ) (given : List NamedField) → AreParts top words given → IsPlain top → IsNonDecreasingBy (λ (w : ℕ). w) words → IsBus (bus_of (registers_below (Some top))) words
is_bus_of top words given parts plain up = record {
  width = bus_width top (registers_below (Some top)) (λ r h. let i : IsRegisterIn top r = register_in top r parts.clear h in subst IsAccess (sym i.here.access) i.here.at.widths.bus);
  rising = words_rise words (distinct_words top words given parts plain) up;
  aligned = λ i a e.
      let h : Has a (map orders.address_of (spots_of (registers_below (Some top)))) = has_permuted _ words parts.words_are a (has_at words i a e) in
      let w : IsWordOf (registers_below (Some top)) a = word_of_all (registers_below (Some top)) a h in
      let r : IsRegisterIn top w.register = register_in top w.register parts.clear w.among in
      let b : w.register.access ≡ bus_of (registers_below (Some top)) = bus_is (registers_below (Some top)) w.register (one_access (registers_below (Some top)) plain.unlike) w.among in
      let n : IsAccess w.register.access = subst IsAccess (sym r.here.access) r.here.at.widths.bus in
      let off : is_off w.register.address w.register.access ≡ false = rw (r.here.address, r.here.access) r.here.at.aligned in
      let z : (w.register.address + w.register.access / 8 * w.number) % (w.register.access / 8) ≡ 0 = aligned_by w.register.access w.register.address w.number n off in
      rw w.is (subst (λ m. (w.register.address + w.register.access / 8 * w.number) % (m / 8) ≡ 0) b z);
}
