-- The fields of a map stand in its words in order, each inside of its word, and none on another.
use Rattle.std.proofs.Common.{◌≡◌, inl, inr, ℕ, ◌+◌, ◌*◌, ◌/◌, ◌%◌, ◌<◌, ◌≤◌, Bool, true, false, ◌&&◌, ◌||◌, ◌==◌, nat_lt, List, [], ◌∷◌, ◌++◌, map, Option, Some, None, slice_get, get_or, refl, sym, ◌∙◌, ap, subst, arith, append_assoc}
use Rattle.std.specs.List.{flat_map, IsDistinct}
use Rattle.std.specs.List.Sorted.{IsNonDecreasingBy}
use Rattle.std.proofs.lemmas.Bool.{cases_Bool}
use Rattle.std.proofs.lemmas.Bool.Decides.{nat_tests}
use Rattle.std.proofs.lemmas.Option.{slice_get_within, get_or_from_slice_get}
use Rattle.std.proofs.lemmas.List.{map-append}
use Rattle.std.proofs.lemmas.Map.Keys.{IsDistinct-IsPermutation}
use Rattle.field_policies.specs.declared.field.Field.{Field}
use Rattle.field_policies.specs.Maps.{AreInWords}
use Rattle.rdl_text.specs.declared.instance.Body.{Body}
use Rattle.rdl_text.specs.declared.instance.Body.TheVariants as body
use Rattle.rdl_text.specs.Components.{Component}
use Rattle.rdl_text.specs.Instances.{kind_of}
use Rattle.rdl_values.specs.OneInstance.{Instance}
use Rattle.rdl_values.specs.OneFrame.{Frame, Trail}
use Rattle.rdl_values.specs.Instances.{instances_of}
use Rattle.rdl_values.specs.Fields.{width_at}
use Rattle.rdl_effects.specs.Registers.{regwidth_at, accesswidth_at}
use Rattle.rdl_layout.specs.declared.register.Register.{Register}
use Rattle.rdl_layout.specs.declared.bits.Bits.{Bits}
use Rattle.rdl_layout.specs.Bits.{bits_of, bits_from, bits_at, low_of, width_of, is_crossed, is_on_one, is_across, is_misplaced, misplaced_in}
use Rattle.rdl_layout.specs.Registers.{register_by, register_here, registers_below}
use Rattle.rdl_layout.specs.Registers as layout
use Rattle.rdl_layout.specs.Walks.{over}
use Rattle.rdl_words.specs.Words.{spots_below, words_in, spots_of}
use Rattle.rdl_numbers.specs.Orders as orders
use Rattle.rdl_fields.specs.declared.named.NamedField.{NamedField}
use Rattle.rdl_fields.specs.Registers.{field_in, fields_in, fields_by, fields_at, fields_below}
use Rattle.rdl_map.specs.Given.{is_at, word_number}
use Rattle.rdl_map.specs.Maps.{bus_of}
use Rattle.rdl_regmap.proofs.Has.{Has, has_left, has_right, has_cases}
use Rattle.rdl_regmap.proofs.Visits.{Visit, visit, at_visit, over_is}
use Rattle.rdl_regmap.proofs.Trails.{targets_in}
use Rattle.rdl_regmap.proofs.Instances.{no_left, no_right}
use Rattle.rdl_regmap.proofs.Placed.{IsAccess, AreWidths, IsInside, word_below, word_is, bit_is}
use Rattle.rdl_regmap.proofs.Givens as givens
use Rattle.rdl_regmap.proofs.Givens.{IsClear, IsRegisterAt, IsGiven, IsPlaced, trail_of, bits_are, not_first, in_reg, placed_in}
use Rattle.rdl_regmap.proofs.Words.{IsRegisterOf, register_of, spots_have, words_are, has_map, AreNumbers, are_numbers}
use Rattle.rdl_regmap.proofs.Sums.{end_is}
use Rattle.rdl_regmap.proofs.MapTold.{AreParts}
use Rattle.rdl_regmap.proofs.Made.{IsMap, Here, here}
use Rattle.rdl_regmap.proofs.Exprs.{IsFound, found}
use Rattle.rdl_regmap.proofs.Places.{all_by, distinct_at, distinct_append, distinct_right, distinct_across, same_nat, one_access, bus_is, IsPlain, distinct_spots, distinct_words, words_rise}

-- two fields have a bit of a bus word in common
abbrev pub is_overlap : NamedField → NamedField → Bool
is_overlap g h = (g.spot.word == h.spot.word) && (nat_lt g.spot.lsb (h.spot.lsb + h.spot.width) && nat_lt h.spot.lsb (g.spot.lsb + g.spot.width))

overlap_flips : (g h : NamedField) → is_overlap g h ≡ is_overlap h g
overlap_flips g h = by (g.spot.word == h.spot.word) (h.spot.word == g.spot.word) (nat_lt g.spot.lsb (h.spot.lsb + h.spot.width)) (nat_lt h.spot.lsb (g.spot.lsb + g.spot.width)) refl refl
  where
    by : (a b c d : Bool) → (g.spot.word == h.spot.word) ≡ a → (h.spot.word == g.spot.word) ≡ b → (a && (c && d)) ≡ (b && (d && c))
    by true true true true e f = refl
    by true true true false e f = refl
    by true true false true e f = refl
    by true true false false e f = refl
    by false false c d e f = refl
    by true false c d e f = absurd (grind (arith, nat_tests, e, f))
    by false true c d e f = absurd (grind (arith, nat_tests, e, f))

-- ---- in one register

-- a field of the register with these bits
pub record HasBits (address access low bits : ℕ) (g : NamedField) : Type 0 where
  pub word : g.spot.word ≡ address + access / 8 * (low / access)
  pub lsb : g.spot.lsb ≡ low % access
  pub width : g.spot.width ≡ bits

same_quotient : (n a q r : ℕ) → IsAccess n → a + n / 8 * q ≡ a + n / 8 * r → q ≡ r
same_quotient n a q r (IsAccess.Eight e) s = let t : a + 8 / 8 * q ≡ a + 8 / 8 * r = subst (λ m. a + m / 8 * q ≡ a + m / 8 * r) e s in omega (arith, t)
same_quotient n a q r (IsAccess.Sixteen e) s = let t : a + 16 / 8 * q ≡ a + 16 / 8 * r = subst (λ m. a + m / 8 * q ≡ a + m / 8 * r) e s in omega (arith, t)
same_quotient n a q r (IsAccess.ThirtyTwo e) s = let t : a + 32 / 8 * q ≡ a + 32 / 8 * r = subst (λ m. a + m / 8 * q ≡ a + m / 8 * r) e s in omega (arith, t)

split : (n x y w : ℕ) → IsAccess n → x / n ≡ y / n → x % n < y % n + w → x < y + w
split n x y w (IsAccess.Eight e) s lt = let t : x / 8 ≡ y / 8 = subst (λ m. x / m ≡ y / m) e s in let u : x % 8 < y % 8 + w = subst (λ m. x % m < y % m + w) e lt in omega (arith, t, u)
split n x y w (IsAccess.Sixteen e) s lt = let t : x / 16 ≡ y / 16 = subst (λ m. x / m ≡ y / m) e s in let u : x % 16 < y % 16 + w = subst (λ m. x % m < y % m + w) e lt in omega (arith, t, u)
split n x y w (IsAccess.ThirtyTwo e) s lt = let t : x / 32 ≡ y / 32 = subst (λ m. x / m ≡ y / m) e s in let u : x % 32 < y % 32 + w = subst (λ m. x % m < y % m + w) e lt in omega (arith, t, u)

all_true : (a b c : Bool) → (a ≡ true → b ≡ true → c ≡ true → ⊥) → (a && (b && c)) ≡ false
all_true true true true f = absurd (f refl refl refl)
all_true true true false f = refl
all_true true false c f = refl
all_true false b c f = refl

crossed : (l e m f : ℕ) → l < f → m < e → (nat_lt l f && nat_lt m e) ≡ false → ⊥
crossed l e m f a b out = grind (arith, nat_tests, a, b, out)

apart_by : (address access low bits low_2 bits_2 : ℕ) (g h : NamedField) → IsAccess access → HasBits address access low bits g → HasBits address access low_2 bits_2 h
    → (nat_lt low (low_2 + bits_2) && nat_lt low_2 (low + bits)) ≡ false → is_overlap g h ≡ false
apart_by address access low bits low_2 bits_2 g h a x y out =
    all_true (g.spot.word == h.spot.word) (nat_lt g.spot.lsb (h.spot.lsb + h.spot.width)) (nat_lt h.spot.lsb (g.spot.lsb + g.spot.width)) (λ s t u.
    let w : g.spot.word ≡ h.spot.word = grind (arith, nat_tests, s) in
    let q : low / access ≡ low_2 / access = same_quotient access address (low / access) (low_2 / access) a (sym x.word ∙ w ∙ y.word) in
    let b : g.spot.lsb < h.spot.lsb + h.spot.width = grind (arith, nat_tests, t) in
    let c : h.spot.lsb < g.spot.lsb + g.spot.width = grind (arith, nat_tests, u) in
    let d : low % access < low_2 % access + bits_2 = rw (x.lsb, y.lsb, y.width) at b in
    let e : low_2 % access < low % access + bits = rw (x.lsb, y.lsb, x.width) at c in
    crossed low (low + bits) low_2 (low_2 + bits_2) (split access low low_2 bits_2 a q d) (split access low_2 low bits a (sym q) e) out)

has_bits : (width access address : ℕ) (t : Trail) (c : Component) (next : ℕ) (i : Instance) → AreWidths width access
    → HasBits address access (low_of next i.inst.range) (width_of t (targets_in c) i) (field_in address access t (targets_in c) i (bits_of t (targets_in c) next i))
has_bits width access address t c next i w = record { word = word_is width access address (low_of next i.inst.range) w; lsb = bit_is width access (low_of next i.inst.range) w; width = refl }

any_not : (b : Bits) (seen : List Bits) (x : Bits) → is_on_one seen x ≡ false → Has b seen → is_crossed b x ≡ false
any_not b [] x out h = absurd h
any_not b (y ∷ ys) x out h = elim h [ inl e ↦ subst (λ (z : Bits). is_crossed z x ≡ false) (sym e) (no_left _ _ out) | inr r ↦ any_not b ys x (no_right (is_crossed y x) _ out) r ]

-- those behind some bits don't cross them
pub record IsBehind (width access address : ℕ) (b : Bits) (g : NamedField) : Type 0 where
  pub low : ℕ
  pub bits : ℕ
  pub has : HasBits address access low bits g
  pub clear : is_crossed b (bits_from low bits) ≡ false
  pub end : (bits_from low bits).end ≡ low + bits

behind : (width access address : ℕ) (t : Trail) (c : Component) (b : Bits) (seen : List Bits) (next : ℕ) (is : List Instance) (g : NamedField) → AreWidths width access → Has b seen
    → misplaced_in t (targets_in c) width access seen next is ≡ None → Has g (fields_in address access t (targets_in c) next is) → IsBehind width access address b g
behind width access address t c b seen next [] g w in_it none h = absurd h
behind width access address t c b seen next (i ∷ is) g w in_it none h =
    let e : (is_misplaced width access seen (bits_of t (targets_in c) next i) ≡ false)
    × (misplaced_in t (targets_in c) width access (seen ++ bits_of t (targets_in c) next i ∷ []) (bits_of t (targets_in c) next i).end is ≡ None) =
    not_first (is_misplaced width access seen (bits_of t (targets_in c) next i)) i.inst.name.place _ none in
    elim h [
      | inl s ↦ record {
        low = low_of next i.inst.range;
        bits = width_of t (targets_in c) i;
        has = subst (λ (x : NamedField). HasBits address access (low_of next i.inst.range) (width_of t (targets_in c) i) x) (sym s) (has_bits width access address t c next i w);
        clear = any_not b seen (bits_of t (targets_in c) next i) (no_right (nat_lt width (bits_of t (targets_in c) next i).end || is_across access (bits_of t (targets_in c) next i)) _ e.0) in_it;
        end = end_is width access (low_of next i.inst.range) (width_of t (targets_in c) i) seen w.bound e.0;
      }
      | inr r ↦ behind width access address t c b (seen ++ bits_of t (targets_in c) next i ∷ []) (bits_of t (targets_in c) next i).end is g w (has_left b seen _ in_it) e.1 r
    ]

apart_in : (width access address : ℕ) (t : Trail) (c : Component) (seen : List Bits) (next : ℕ) (is : List Instance) → AreWidths width access
    → misplaced_in t (targets_in c) width access seen next is ≡ None → IsDistinct is_overlap (fields_in address access t (targets_in c) next is)
unfolding IsDistinct
apart_in width access address t c seen next [] w none = tt
apart_in width access address t c seen next (i ∷ is) w none =
    let e : (is_misplaced width access seen (bits_of t (targets_in c) next i) ≡ false)
    × (misplaced_in t (targets_in c) width access (seen ++ bits_of t (targets_in c) next i ∷ []) (bits_of t (targets_in c) next i).end is ≡ None) =
    not_first (is_misplaced width access seen (bits_of t (targets_in c) next i)) i.inst.name.place _ none in
    let own : (bits_of t (targets_in c) next i).end ≡ low_of next i.inst.range + width_of t (targets_in c) i = end_is width access (low_of next i.inst.range) (width_of t (targets_in c) i) seen w.bound e.0 in (
      all_by (λ (h : NamedField). is_overlap (field_in address access t (targets_in c) i (bits_of t (targets_in c) next i)) h ≡ false) (fields_in address access t (targets_in c) (bits_of t (targets_in c) next i).end is) (λ h k.
          let x : IsBehind width access address (bits_of t (targets_in c) next i) h =
          behind width access address t c (bits_of t (targets_in c) next i) (seen ++ bits_of t (targets_in c) next i ∷ []) (bits_of t (targets_in c) next i).end is h w (has_right _ seen _ (inl refl)) e.1 k in
          apart_by address access (low_of next i.inst.range) (width_of t (targets_in c) i) x.low x.bits _ h w.bus (has_bits width access address t c next i w) x.has
          (subst (λ n. (nat_lt (low_of next i.inst.range) (x.low + x.bits) && nat_lt x.low n) ≡ false) own
          (subst (λ n. (nat_lt (low_of next i.inst.range) n && nat_lt x.low (bits_of t (targets_in c) next i).end) ≡ false) x.end x.clear))),
      apart_in width access address t c (seen ++ bits_of t (targets_in c) next i ∷ []) (bits_of t (targets_in c) next i).end is w e.1,
    )

-- ---- in two registers

spots_append : (rs ss : List Register) → spots_of (rs ++ ss) ≡ spots_of rs ++ spots_of ss
spots_append [] ss = refl
spots_append (r ∷ rs) ss = ap (λ xs. spots_below r (words_in r) ++ xs) (spots_append rs ss) ∙ sym (append_assoc (spots_below r (words_in r)) (spots_of rs) (spots_of ss))

-- the word of a field is one of its register's
word_of_visit : (top : Component) (v : Visit) (g : NamedField) → IsClear top → Has v (over visit 65 0 [] top) → Has g (at_visit fields_at v) → Has g.spot.word (map orders.address_of (spots_of (at_visit layout.register_at v)))
word_of_visit top v g clear h i =
    let kind : kind_of v.component ≡ body.Reg = in_reg g (kind_of v.component) v.address v.trail v.component i in
    let r : IsRegisterAt top v = givens.register_at top v clear h kind in
    let placed : IsPlaced (regwidth_at v.trail) (accesswidth_at v.trail) v.trail v.component v.address (instances_of v.component) g =
    placed_in (regwidth_at v.trail) (accesswidth_at v.trail) v.trail v.component v.address [] 0 (instances_of v.component) g r.first (subst (λ (k : Body). Has g (fields_by k v.address v.trail v.component)) kind i) in
    let given : IsGiven top g = record { visit = v; visited = h; kind = kind; register = r; field = placed } in
    let b : IsInside (regwidth_at v.trail) (accesswidth_at v.trail) (low_of placed.next placed.instance.inst.range) (width_at (trail_of top g given)) = bits_are top g clear given in
    let n : AreNumbers top g given = are_numbers top g clear given in
    let f : Frame = r.frame.frame in
    let one : Register = record { place = f.inst.name.place; address = v.address; width = regwidth_at v.trail; access = accesswidth_at v.trail; bits = bits_at v.trail v.component } in
    let by_kind : Has one (register_by f.kind v.address v.trail v.component f) = subst (λ (k : Body). Has one (register_by k v.address v.trail v.component f)) (sym (r.frame.kind ∙ kind)) (inl refl) in
    let at : Has one (at_visit layout.register_at v) = subst (λ (o : Option Frame). Has one (register_here v.address v.trail v.component o)) (sym r.frame.here) by_kind in
    let fits : v.address + accesswidth_at v.trail / 8 * (low_of placed.next placed.instance.inst.range / accesswidth_at v.trail) < 4294967296 =
    word_below (regwidth_at v.trail) (accesswidth_at v.trail) v.address (low_of placed.next placed.instance.inst.range / accesswidth_at v.trail) r.widths b.word r.ends in
    let many : low_of placed.next placed.instance.inst.range / accesswidth_at v.trail < words_in one = rw (words_are one (regwidth_at v.trail) (accesswidth_at v.trail) refl refl r.widths) b.word in
    subst (λ m. Has m (map orders.address_of (spots_of (at_visit layout.register_at v)))) (sym n.word)
    (has_map orders.address_of _ (spots_of (at_visit layout.register_at v)) (spots_have (at_visit layout.register_at v) one (low_of placed.next placed.instance.inst.range / accesswidth_at v.trail) at many fits))

word_of_visits : (top : Component) (vs : List Visit) (g : NamedField) → IsClear top → ((v : Visit) → Has v vs → Has v (over visit 65 0 [] top)) → Has g (flat_map (at_visit fields_at) vs)
    → Has g.spot.word (map orders.address_of (spots_of (flat_map (at_visit layout.register_at) vs)))
word_of_visits top [] g clear all h = absurd h
word_of_visits top (v ∷ vs) g clear all h =
    subst (λ xs. Has g.spot.word (map orders.address_of xs)) (sym (spots_append (at_visit layout.register_at v) (flat_map (at_visit layout.register_at) vs)))
    (subst (λ (xs : List ℕ). Has g.spot.word xs) (sym (map-append orders.address_of (spots_of (at_visit layout.register_at v)) (spots_of (flat_map (at_visit layout.register_at) vs))))
    (elim (has_cases g (at_visit fields_at v) (flat_map (at_visit fields_at) vs) h) [
      | inl l ↦ has_left g.spot.word (map orders.address_of (spots_of (at_visit layout.register_at v))) _ (word_of_visit top v g clear (all v (inl refl)) l)
      | inr r ↦ has_right g.spot.word (map orders.address_of (spots_of (at_visit layout.register_at v))) _ (word_of_visits top vs g clear (λ w i. all w (inr i)) r)
    ]))

none_apart : IsDistinct is_overlap []
unfolding IsDistinct
none_apart = tt

apart_at : (top : Component) (v : Visit) → IsClear top → Has v (over visit 65 0 [] top) → IsDistinct is_overlap (at_visit fields_at v)
apart_at top v clear h = by (kind_of v.component) refl
  where
    none : (k : Body) → fields_by k v.address v.trail v.component ≡ [] → kind_of v.component ≡ k → IsDistinct is_overlap (at_visit fields_at v)
    none k e q = subst (λ (xs : List NamedField). IsDistinct is_overlap xs) (sym (ap (λ (x : Body). fields_by x v.address v.trail v.component) q ∙ e)) none_apart

    by : (k : Body) → kind_of v.component ≡ k → IsDistinct is_overlap (at_visit fields_at v)
    by body.File q = none body.File refl q
    by body.Addrmap q = none body.Addrmap refl q
    by body.Regfile q = none body.Regfile refl q
    by body.Reg q =
        let r : IsRegisterAt top v = givens.register_at top v clear h q in
        subst (λ (k : Body). IsDistinct is_overlap (fields_by k v.address v.trail v.component)) (sym q)
        (apart_in (regwidth_at v.trail) (accesswidth_at v.trail) v.address v.trail v.component [] 0 (instances_of v.component) r.widths r.first)
    by body.Field q = none body.Field refl q

apart_all : (top : Component) (vs : List Visit) → IsClear top → ((v : Visit) → Has v vs → Has v (over visit 65 0 [] top))
    → IsDistinct same_nat (map orders.address_of (spots_of (flat_map (at_visit layout.register_at) vs))) → IsDistinct is_overlap (flat_map (at_visit fields_at) vs)
apart_all top [] clear all d = none_apart
apart_all top (v ∷ vs) clear all d =
    let both : IsDistinct same_nat (map orders.address_of (spots_of (at_visit layout.register_at v)) ++ map orders.address_of (spots_of (flat_map (at_visit layout.register_at) vs))) =
    subst (λ (xs : List ℕ). IsDistinct same_nat xs) (ap (map orders.address_of) (spots_append (at_visit layout.register_at v) (flat_map (at_visit layout.register_at) vs))
    ∙ map-append orders.address_of (spots_of (at_visit layout.register_at v)) (spots_of (flat_map (at_visit layout.register_at) vs))) d in
    distinct_append is_overlap (at_visit fields_at v) (flat_map (at_visit fields_at) vs) (apart_at top v clear (all v (inl refl)))
    (apart_all top vs clear (λ w i. all w (inr i)) (distinct_right same_nat (map orders.address_of (spots_of (at_visit layout.register_at v))) _ both))
    (λ g h i j. no_overlap g h (distinct_across same_nat _ _ g.spot.word h.spot.word both (word_of_visit top v g clear (all v (inl refl)) i) (word_of_visits top vs h clear (λ w k. all w (inr k)) j)))
  where
    no_overlap : (g h : NamedField) → (g.spot.word == h.spot.word) ≡ false → is_overlap g h ≡ false
    no_overlap g h e = rw e refl

pub fields_apart : (top : Component) (words : List ℕ) (given : List NamedField) → AreParts top words given → IsPlain top → IsDistinct is_overlap given
fields_apart top words given parts plain =
    let d : IsDistinct same_nat (map orders.address_of (spots_of (flat_map (at_visit layout.register_at) (over visit 65 0 [] top)))) =
    subst (λ (rs : List Register). IsDistinct same_nat (map orders.address_of (spots_of rs))) (over_is layout.register_at 65 0 [] top) (distinct_spots _ plain.clash) in
    let f : IsDistinct is_overlap (fields_below (Some top)) = subst (λ (xs : List NamedField). IsDistinct is_overlap xs) (sym (over_is fields_at 65 0 [] top)) (apart_all top (over visit 65 0 [] top) parts.clear (λ v h. h) d) in
    IsDistinct-IsPermutation is_overlap overlap_flips (fields_below (Some top)) given parts.fields_are f

-- ---- in order

at_word : (words : List ℕ) (address n : ℕ) → word_number words address ≡ Some n → slice_get words n ≡ Some address
at_word words address n e =
    let f : IsFound (is_at address) words n = found (is_at address) words n e in
    let s : f.item ≡ address = grind (arith, nat_tests, f.passes) in
    f.here ∙ ap (λ m. Some m) s

pub are_in_words : (top : Component) (words : List ℕ) (given : List NamedField) (fields : List Field) → IsMap top words given fields → IsPlain top → IsNonDecreasingBy (λ (w : ℕ). w) words → IsNonDecreasingBy orders.key given
    → AreInWords (bus_of (registers_below (Some top))) words fields
are_in_words top words given fields m plain up order = record {
  there = λ k f e.
      let h : Here top words given k f = here top words given fields m k f e in
      slice_get_within words f.word h.field.spot.word (at_word words h.field.spot.word f.word h.is.position.word);
  some = λ k f e.
      let h : Here top words given k f = here top words given fields m k f e in
      let w : f.width ≡ h.field.spot.width = h.is.position.width in
      omega (arith, w, h.numbers.some);
  inside = λ k f e.
      let h : Here top words given k f = here top words given fields m k f e in
      let w : f.width ≡ h.field.spot.width = h.is.position.width in
      let l : f.lsb ≡ h.field.spot.lsb = h.is.position.lsb in
      let b : accesswidth_at h.source.visit.trail ≡ bus_of (registers_below (Some top)) = bus_at top m.parts.clear plain h.source.visit h.source.visited h.source.register h.source.kind in
      omega (arith, w, l, b, h.numbers.within);
  ordered = λ i j f g lt e q.
      let h : Here top words given i f = here top words given fields m i f e in
      let r : Here top words given j g = here top words given fields m j g q in
      in_order words (distinct_words top words given m.parts plain) up h.field.spot.word r.field.spot.word f.word g.word (at_word words h.field.spot.word f.word h.is.position.word) (at_word words r.field.spot.word g.word r.is.position.word)
      (by_word h.field.spot.word r.field.spot.word h.field.spot.lsb r.field.spot.lsb (small_lsb top words given i f h) (small_lsb top words given j g r) (key_order given order i j h.field r.field lt h.at r.at));
  apart = λ i j f g lt e q same.
      let h : Here top words given i f = here top words given fields m i f e in
      let r : Here top words given j g = here top words given fields m j g q in
      let w : h.field.spot.word ≡ r.field.spot.word = same_some _ _ (sym (at_word words h.field.spot.word f.word h.is.position.word) ∙ ap (slice_get words) same ∙ at_word words r.field.spot.word g.word r.is.position.word) in
      let le : h.field.spot.lsb ≤ r.field.spot.lsb = by_lsb h.field.spot.word r.field.spot.word h.field.spot.lsb r.field.spot.lsb w (key_order given order i j h.field r.field lt h.at r.at) in
      let out : is_overlap h.field r.field ≡ false = distinct_at is_overlap given i j h.field r.field (fields_apart top words given m.parts plain) lt h.at r.at in
      let a : f.lsb ≡ h.field.spot.lsb = h.is.position.lsb in
      let b : g.lsb ≡ r.field.spot.lsb = r.is.position.lsb in
      let c : f.width ≡ h.field.spot.width = h.is.position.width in
      let z : h.field.spot.lsb + h.field.spot.width ≤ r.field.spot.lsb =
      not_over h.field.spot.word r.field.spot.word h.field.spot.lsb r.field.spot.lsb h.field.spot.width r.field.spot.width w le r.numbers.some out in
      omega (arith, a, b, c, z);
}
  where
    same_some : (a b : ℕ) → Some a ≡ Some b → a ≡ b
    same_some a b e = cc

    small_lsb : (top : Component) (words : List ℕ) (given : List NamedField) (k : ℕ) (f : Field) (h : Here top words given k f) → h.field.spot.lsb < 18446744073709551616
    small_lsb top words given k f h = omega (arith, h.numbers.within, h.numbers.some, h.numbers.access)

    key_order : (gs : List NamedField) → IsNonDecreasingBy orders.key gs → (i j : ℕ) (g h : NamedField) → i < j → slice_get gs i ≡ Some g → slice_get gs j ≡ Some h → orders.key g ≤ orders.key h
    key_order gs order i j g h lt e q =
        let x : get_or gs i g ≡ g = get_or_from_slice_get gs i g g e in
        let y : get_or gs j g ≡ h = get_or_from_slice_get gs j h g q in
        let le : orders.key (get_or gs i g) ≤ orders.key (get_or gs j g) = order i j g (omega (arith, lt)) (slice_get_within gs j h q) in
        subst (λ z. orders.key g ≤ orders.key z) y (subst (λ z. orders.key z ≤ orders.key (get_or gs j g)) x le)

    by_word : (a b l m : ℕ) → l < 18446744073709551616 → m < 18446744073709551616 → a * 18446744073709551616 + l ≤ b * 18446744073709551616 + m → a ≤ b
    by_word a b l m p q le = omega (arith, p, q, le)

    by_lsb : (a b l m : ℕ) → a ≡ b → a * 18446744073709551616 + l ≤ b * 18446744073709551616 + m → l ≤ m
    by_lsb a b l m e le = omega (arith, e, le)

    in_order : (ws : List ℕ) → IsDistinct same_nat ws → IsNonDecreasingBy (λ (w : ℕ). w) ws → (a b i j : ℕ) → slice_get ws i ≡ Some a → slice_get ws j ≡ Some b → a ≤ b → i ≤ j
    in_order ws d u a b i j e f le = elim (cases_Bool (nat_lt j i)) [
      | inr t ↦ grind (arith, nat_tests, t)
      | inl t ↦ let lt : j < i = grind (arith, nat_tests, t) in let r : b < a = words_rise ws d u j i b a lt f e in absurd (omega (arith, r, le))
    ]

    not_over : (a b l m v w : ℕ) → a ≡ b → l ≤ m → 1 ≤ w → ((a == b) && (nat_lt l (m + w) && nat_lt m (l + v))) ≡ false → l + v ≤ m
    not_over a b l m v w e le some out = grind (arith, nat_tests, e, le, some, out)

    bus_at : (top : Component) → IsClear top → IsPlain top → (v : Visit) → Has v (over visit 65 0 [] top) → IsRegisterAt top v → kind_of v.component ≡ body.Reg → accesswidth_at v.trail ≡ bus_of (registers_below (Some top))
    bus_at top clear plain v h at kind =
        let r : IsRegisterOf top v = register_of top v h at kind in
        sym r.access ∙ bus_is (registers_below (Some top)) r.register (one_access (registers_below (Some top)) plain.unlike) r.among
