-- What each field of a description is, where nothing is refused: where it stands, and that nothing of it is refused in effect.
use Rattle.std.proofs.Common.{◌≡◌, inl, inr, ℕ, suc, ◌+◌, ◌-◌, ◌/◌, ◌<◌, ◌≤◌, Bool, true, false, ◌&&◌, min, nat_lt, nat_le, List, [], ◌∷◌, ◌++◌, length, Option, Some, None, slice_get, length-append, refl, sym, ◌∙◌, ap, subst, arith, if◌then◌else◌}
use Rattle.std.specs.Option.{option_and_then}
use Rattle.std.proofs.lemmas.Bool.Decides.{nat_tests}
use Rattle.bit_base.specs.declared.place.Place.{Place}
use Rattle.rdl_tree.specs.declared.tree.RdlRange.{RdlRange}
use Rattle.rdl_tree.specs.declared.tree.RdlMarked.{RdlMarked}
use Rattle.rdl_text.specs.declared.instance.Body.{Body}
use Rattle.rdl_text.specs.declared.instance.Body.TheVariants as body
use Rattle.rdl_text.specs.declared.property.Property.TheVariants as p
use Rattle.rdl_text.specs.declared.property.Form.TheVariants as form
use Rattle.rdl_text.specs.Components.{Component}
use Rattle.rdl_text.specs.Instances.{kind_of, is_field, holds}
use Rattle.rdl_text.specs.Forms.{is_reg_width, is_access_width, is_misranged}
use Rattle.rdl_text.specs.Names.{place_if}
use Rattle.rdl_values.specs.OneInstance.{Instance}
use Rattle.rdl_values.specs.OneFrame.{Frame, Trail}
use Rattle.rdl_values.specs.Instances.{instances_of, count_of}
use Rattle.rdl_values.specs.Frames.{frame_of}
use Rattle.rdl_values.specs.Values.{here_of, number_at}
use Rattle.rdl_values.specs.Fields.{span_to, span_in, span_at, width_by, width_at}
use Rattle.rdl_values.specs.Walks as plain
use Rattle.rdl_effects.specs.declared.effect.Effect.TheVariants as effect
use Rattle.rdl_effects.specs.Bodies.{is_misvalued_of, refused_here, refused_at}
use Rattle.rdl_effects.specs.Fields.{is_misvalued_field}
use Rattle.rdl_effects.specs.Registers.{number_or, regwidth_at, accesswidth_at, is_narrow}
use Rattle.rdl_effects.specs.Limits.{number_in}
use Rattle.rdl_layout.specs.declared.bits.Bits.{Bits}
use Rattle.rdl_layout.specs.Bits.{bits_of, low_of, is_misplaced, misplaced_in}
use Rattle.rdl_layout.specs.Misplaced.{place_of, first_field, in_register, misplaced_at, place_by, is_beyond, is_off, is_instance}
use Rattle.rdl_layout.specs.Walks.{over}
use Rattle.rdl_fields.specs.declared.named.NamedField.{NamedField}
use Rattle.rdl_fields.specs.Registers.{field_in, fields_in, fields_by, fields_at, fields_below}
use Rattle.rdl_regmap.proofs.Has.{Has, has_none, none_left, none_right, FromOne, from_flat, flat_none}
use Rattle.rdl_regmap.proofs.Visits.{Visit, visit, at_visit, over_is}
use Rattle.rdl_regmap.proofs.Trails.{IsTrail, targets_in, HasNoField, IsReached, reached, given_at}
use Rattle.rdl_regmap.proofs.Depths.{is_shallow}
use Rattle.rdl_regmap.proofs.Bodies.{FineComponent}
use Rattle.rdl_regmap.proofs.Instances.{no_place, no_left, yes_left, IsInstance, instance_is, along, joined}
use Rattle.rdl_regmap.proofs.Forms.{is_regwidth_form, is_accesswidth_form, is_fieldwidth_form}
use Rattle.rdl_regmap.proofs.Effective.{IsNumber, number}
use Rattle.rdl_regmap.proofs.Placed.{IsAccess, IsRegWidth, AreWidths, IsInside, inside, ends_within, reg_width, access_width, least_access, are_widths}

-- a description in which nothing is refused, by its top
pub record IsClear (top : Component) : Type 0 where
  pub fine : FineComponent top
  pub kind : kind_of top ≡ body.Addrmap
  pub few : nat_lt 1048576 (number_in 64 top) ≡ false
  pub conflicts : plain.over (refused_at effect.Values) 65 [] top ≡ []
  pub misplaced : over misplaced_at 65 0 [] top ≡ []

-- ---- the end of a trail

last_at : (up : Trail) (f : Frame) → slice_get (up ++ f ∷ []) (length up) ≡ Some f
last_at [] f = refl
last_at (g ∷ up) f = last_at up f

pub here_is : (up : Trail) (f : Frame) → here_of (up ++ f ∷ []) ≡ Some f
here_is up f =
    let e : length (up ++ f ∷ []) - 1 ≡ length up = omega (arith, length-append up (f ∷ [])) in
    subst (λ n. slice_get (up ++ f ∷ []) n ≡ Some f) (sym e) (last_at up f)

-- the last frame has the kind of the component that the trail leads to
pub record EndsAt (t : Trail) (d : Component) : Type 0 where
  pub frame : Frame
  pub here : here_of t ≡ Some frame
  pub kind : frame.kind ≡ kind_of d

here_behind : (f g : Frame) (t : Trail) → here_of (f ∷ g ∷ t) ≡ here_of (g ∷ t)
here_behind f g t =
    let a : suc (suc (length t)) - 1 ≡ suc (length t) = omega arith in
    let b : suc (length t) - 1 ≡ length t = omega arith in
    ap (λ n. slice_get (f ∷ g ∷ t) n) a ∙ ap (λ n. slice_get (g ∷ t) n) (sym b)

stays_by : (c d : Component) (t : Trail) → IsTrail c t d → t ≡ [] → c ≡ d
stays_by c d t (IsTrail.here _) e = refl
stays_by c d t (IsTrail.step _ i k s _ among lt more) e = cc

stays : (c d : Component) → IsTrail c [] d → c ≡ d
stays c d w = stays_by c d [] w refl

pub ends_at : (c : Component) (t : Trail) (d : Component) → IsTrail c t d → (t ≡ [] → ⊥) → EndsAt t d
ends_at c t d (IsTrail.here _) some = absurd (some refl)
ends_at c t d (IsTrail.step _ i k [] _ among lt more) some = record { frame = frame_of (targets_in c) i k; here = refl; kind = ap kind_of (stays i.component d more) }
ends_at c t d (IsTrail.step _ i k (g ∷ r) _ among lt more) some =
    let e : EndsAt (g ∷ r) d = ends_at i.component (g ∷ r) d more (λ no. cc) in
    record { frame = e.frame; here = here_behind (frame_of (targets_in c) i k) g r ∙ e.here; kind = e.kind }

-- ---- where a field stands

pub record IsPlaced (width access : ℕ) (t : Trail) (register : Component) (address : ℕ) (all : List Instance) (g : NamedField) : Type 0 where
  pub instance : Instance
  pub among : Has instance all
  pub next : ℕ
  pub is : g ≡ field_in address access t (targets_in register) instance (bits_of t (targets_in register) next instance)
  pub seen : List Bits
  pub placed : is_misplaced width access seen (bits_of t (targets_in register) next instance) ≡ false

pub not_first : (b : Bool) (x : Place) (o : Option Place) → (if b then Some x else o) ≡ None → (b ≡ false) × (o ≡ None)
not_first true x o e = cc
not_first false x o e = (refl, e)

pub placed_in : (width access : ℕ) (t : Trail) (register : Component) (address : ℕ) (seen : List Bits) (next : ℕ) (is : List Instance) (g : NamedField)
    → misplaced_in t (targets_in register) width access seen next is ≡ None → Has g (fields_in address access t (targets_in register) next is) → IsPlaced width access t register address is g
placed_in width access t register address seen next [] g none h = absurd h
placed_in width access t register address seen next (i ∷ is) g none h =
    let e : (is_misplaced width access seen (bits_of t (targets_in register) next i) ≡ false)
    × (misplaced_in t (targets_in register) width access (seen ++ bits_of t (targets_in register) next i ∷ []) (bits_of t (targets_in register) next i).end is ≡ None) =
    not_first (is_misplaced width access seen (bits_of t (targets_in register) next i)) i.inst.name.place _ none in
    elim h [
      | inl s ↦ record { instance = i; among = inl refl; next = next; is = s; seen = seen; placed = e.0 }
      | inr r ↦
          let q : IsPlaced width access t register address is g =
          placed_in width access t register address (seen ++ bits_of t (targets_in register) next i ∷ []) (bits_of t (targets_in register) next i).end is g e.1 r in
          record { instance = q.instance; among = inr q.among; next = q.next; is = q.is; seen = q.seen; placed = q.placed }
    ]

-- a register that the walk comes to
pub record IsRegisterAt (top : Component) (v : Visit) : Type 0 where
  pub way : IsTrail top v.trail v.component
  pub fieldless : HasNoField v.trail
  pub fine : FineComponent v.component
  pub some : v.trail ≡ [] → ⊥
  pub widths : AreWidths (regwidth_at v.trail) (accesswidth_at v.trail)
  pub first : first_field v.trail v.component ≡ None
  pub ends : v.address + regwidth_at v.trail / 8 ≤ 4294967296
  pub aligned : is_off v.address (accesswidth_at v.trail) ≡ false
  pub frame : EndsAt v.trail v.component

-- numbers of effective widths
reg_width_by : (t : Trail) (o : Option ℕ) → ((n : ℕ) → o ≡ Some n → IsRegWidth n) → IsRegWidth (number_or 32 o)
reg_width_by t None all = IsRegWidth.R32 refl
reg_width_by t (Some n) all = all n refl

reg_width_at : (top : Component) (t : Trail) (d : Component) → IsTrail top t d → IsRegWidth (regwidth_at t)
reg_width_at top t d way = reg_width_by t (number_at t p.Regwidth) (λ n e.
    let k : IsNumber p.Regwidth n = number t p.Regwidth n top d way e in
    let f : k.kind ≡ form.RegWidth = is_regwidth_form k.kind k.fits in
    reg_width n (subst (λ m. is_reg_width m ≡ true) k.says (rw f at k.takes)))

access_by : (least : ℕ) (o : Option ℕ) → IsAccess least → ((n : ℕ) → o ≡ Some n → IsAccess n) → IsAccess (number_or least o)
access_by least None l all = l
access_by least (Some n) l all = all n refl

access_at : (top : Component) (t : Trail) (d : Component) → IsTrail top t d → IsAccess (accesswidth_at t)
access_at top t d way = access_by (min (regwidth_at t) 32) (number_at t p.Accesswidth) (least_access (regwidth_at t) (reg_width_at top t d way)) (λ n e.
    let k : IsNumber p.Accesswidth n = number t p.Accesswidth n top d way e in
    let f : k.kind ≡ form.AccessWidth = is_accesswidth_form k.kind k.fits in
    access_width n (subst (λ m. is_access_width m ≡ true) k.says (rw f at k.takes)))

-- nothing is refused at an instance of such a description
pub unrefused : (top : Component) (t : Trail) (d : Component) → IsClear top → IsTrail top t d → length t ≤ 65 → refused_at effect.Values t d ≡ []
unrefused top t d clear way le = by (refused_at effect.Values t d) (λ x h. has_none x (plain.over (refused_at effect.Values) 65 [] top) clear.conflicts (given_at (refused_at effect.Values) x 65 [] top t d way le h))
  where
    by : (xs : List Place) → ((x : Place) → Has x xs → ⊥) → xs ≡ []
    by [] h = refl
    by (x ∷ xs) h = absurd (h x (inl refl))

valued : (t : Trail) (d : Component) (e : EndsAt t d) → refused_at effect.Values t d ≡ [] → is_misvalued_of (kind_of d) t ≡ false
valued t d e none =
    let a : refused_here effect.Values t (here_of t) ≡ [] = none_left (refused_here effect.Values t (here_of t)) _ none in
    let b : place_if (is_misvalued_of e.frame.kind t) e.frame.inst.name.place ≡ [] = rw e.here at a in
    subst (λ (k : Body). is_misvalued_of k t ≡ false) e.kind (no_place _ _ b)

none_of : (o : Option Place) → place_of o ≡ [] → o ≡ None
none_of None e = refl
none_of (Some x) e = cc

not_top : (t : Trail) (c d : Component) → IsTrail c t d → kind_of c ≡ body.Addrmap → kind_of d ≡ body.Reg → t ≡ [] → ⊥
not_top t c d (IsTrail.here _) k l e = let no : body.Addrmap ≡ body.Reg = sym k ∙ l in cc
not_top t c d (IsTrail.step _ i n s _ among lt more) k l e = cc

is_instance_of : (t : Trail) → (t ≡ [] → ⊥) → is_instance t ≡ true
is_instance_of [] some = absurd (some refl)
is_instance_of (f ∷ fs) some = refl

size_of_register : (room : ℕ) (t : Trail) (c : Component) → kind_of c ≡ body.Reg → Rattle.rdl_layout.specs.Laid.size_in room t c ≡ min (regwidth_at t / 8) 4294967297
size_of_register room t c e = Rattle.rdl_layout.proofs.Nested.size_is room t c ∙ ap (λ (k : Body). Rattle.rdl_layout.specs.Laid.size_by k t (Rattle.rdl_layout.specs.Laid.inner_size room t c)) e

pub register_at : (top : Component) (v : Visit) → IsClear top → Has v (over visit 65 0 [] top) → kind_of v.component ≡ body.Reg → IsRegisterAt top v
register_at top v clear h kind =
    let r : IsReached [] top v = reached 65 0 [] top v h in
    let way : IsTrail top v.trail v.component = subst (λ (t : Trail). IsTrail top t v.component) (sym r.is) r.trail in
    let plain_one : HasNoField v.trail = subst HasNoField (sym r.is) r.fieldless in
    let some : (v.trail ≡ [] → ⊥) = not_top v.trail top v.component way clear.kind kind in
    let e : EndsAt v.trail v.component = ends_at top v.trail v.component way some in
    let short : length v.trail ≤ 64 = is_shallow top v.trail v.component clear.few way plain_one in
    let none : refused_at effect.Values v.trail v.component ≡ [] = unrefused top v.trail v.component clear way (omega (arith, short)) in
    let narrow : is_narrow v.trail ≡ false = subst (λ (k : Body). is_misvalued_of k v.trail ≡ false) kind (valued v.trail v.component e none) in
    let gone : misplaced_at v.address v.trail v.component ≡ [] = flat_none (at_visit misplaced_at) v (over visit 65 0 [] top) (sym (over_is misplaced_at 65 0 [] top) ∙ clear.misplaced) h in
    let first : place_if (is_instance v.trail && is_beyond v.address (Rattle.rdl_layout.specs.Laid.size_in 65 v.trail v.component)) (place_by v.component (here_of v.trail)) ≡ [] = none_left _ _ (none_left _ _ gone) in
    let beyond : (is_instance v.trail && is_beyond v.address (Rattle.rdl_layout.specs.Laid.size_in 65 v.trail v.component)) ≡ false = no_place _ _ first in
    let over_it : is_beyond v.address (min (regwidth_at v.trail / 8) 4294967297) ≡ false = rw (is_instance_of v.trail some, size_of_register 65 v.trail v.component kind) at beyond in
    let own : in_register (kind_of v.component) v.address v.trail v.component (place_by v.component (here_of v.trail)) ≡ [] = none_right _ _ gone in
    let in_it : in_register body.Reg v.address v.trail v.component (place_by v.component (here_of v.trail)) ≡ [] =
    subst (λ (k : Body). in_register k v.address v.trail v.component (place_by v.component (here_of v.trail)) ≡ []) kind own in
    let widths : AreWidths (regwidth_at v.trail) (accesswidth_at v.trail) =
    are_widths (regwidth_at v.trail) (accesswidth_at v.trail) (reg_width_at top v.trail v.component way) (access_at top v.trail v.component way) (grind (arith, nat_tests, narrow)) in
    let end : v.address + min (regwidth_at v.trail / 8) 4294967297 ≤ 4294967296 = ends_within v.address (min (regwidth_at v.trail / 8) 4294967297) over_it in
    record {
      way = way;
      fieldless = plain_one;
      fine = along top v.component v.trail clear.fine way;
      some = some;
      widths = widths;
      first = none_of _ (none_right _ _ in_it);
      ends = omega (arith, end, widths.bound);
      aligned = no_place _ _ (none_left _ _ in_it);
      frame = e;
    }

-- ---- a field

pub record IsGiven (top : Component) (g : NamedField) : Type 0 where
  pub visit : Visit
  pub visited : Has visit (over Rattle.rdl_regmap.proofs.Visits.visit 65 0 [] top)
  pub kind : kind_of visit.component ≡ body.Reg
  pub register : IsRegisterAt top visit
  pub field : IsPlaced (regwidth_at visit.trail) (accesswidth_at visit.trail) visit.trail visit.component visit.address (instances_of visit.component) g

pub in_reg : (g : NamedField) (k : Body) (a : ℕ) (t : Trail) (c : Component) → Has g (fields_by k a t c) → k ≡ body.Reg
in_reg g body.File a t c h = absurd h
in_reg g body.Addrmap a t c h = absurd h
in_reg g body.Regfile a t c h = absurd h
in_reg g body.Reg a t c h = refl
in_reg g body.Field a t c h = absurd h

pub given_is : (top : Component) (g : NamedField) → IsClear top → Has g (fields_below (Some top)) → IsGiven top g
given_is top g clear h =
    let f : FromOne (at_visit fields_at) g (over visit 65 0 [] top) = from_flat (at_visit fields_at) g (over visit 65 0 [] top) (subst (λ (xs : List NamedField). Has g xs) (over_is fields_at 65 0 [] top) h) in
    let kind : kind_of f.one.component ≡ body.Reg = in_reg g (kind_of f.one.component) f.one.address f.one.trail f.one.component f.gives in
    let r : IsRegisterAt top f.one = register_at top f.one clear f.among kind in
    record {
      visit = f.one;
      visited = f.among;
      kind = kind;
      register = r;
      field = placed_in (regwidth_at f.one.trail) (accesswidth_at f.one.trail) f.one.trail f.one.component f.one.address [] 0 (instances_of f.one.component) g r.first
          (subst (λ (k : Body). Has g (fields_by k f.one.address f.one.trail f.one.component)) kind f.gives);
    }

-- ---- its own trail

abbrev pub trail_of : (top : Component) (g : NamedField) → IsGiven top g → Trail
trail_of top g i = i.visit.trail ++ frame_of (targets_in i.visit.component) i.field.instance 0 ∷ []

field_kind : (k : Body) → holds body.Reg k ≡ true → k ≡ body.Field
field_kind body.File e = cc
field_kind body.Addrmap e = cc
field_kind body.Regfile e = cc
field_kind body.Reg e = cc
field_kind body.Field e = refl

pub record IsField (top : Component) (t : Trail) (i : Instance) : Type 0 where
  pub way : IsTrail top t i.component
  pub kind : kind_of i.component ≡ body.Field
  pub valued : is_misvalued_field t ≡ false
  pub some : 1 ≤ width_at t

-- the bits that a range gives
span_some : (o : Option RdlRange) (n : ℕ) → is_misranged true o ≡ false → span_in o ≡ Some n → 1 ≤ n
span_some None n ok e = cc
span_some (Some r) n ok e = by r.second refl
  where
    some_nat : (a b : ℕ) → Some a ≡ Some b → a ≡ b
    some_nat a b q = cc

    same : span_to r.first.value r.second ≡ n
    same = some_nat _ _ e

    by : (m : Option RdlMarked) → r.second ≡ m → 1 ≤ n
    by None q =
        let z = rw q at ok in
        let s : r.first.value ≡ n = rw q at same in
        grind (arith, nat_tests, z, s)
    by (Some m) q =
        let s : r.first.value - m.number.value + 1 ≡ n = rw q at same in
        omega (arith, s)

width_some : (span given : Option ℕ) → ((n : ℕ) → span ≡ Some n → 1 ≤ n) → ((n : ℕ) → given ≡ Some n → 1 ≤ n) → 1 ≤ width_by span given
width_some (Some n) given f g = f n refl
width_some None (Some n) f g = g n refl
width_some None None f g = omega arith

fieldwidth_some : (top : Component) (t : Trail) (d : Component) → IsTrail top t d → (n : ℕ) → number_at t p.Fieldwidth ≡ Some n → 1 ≤ n
fieldwidth_some top t d way n e =
    let k : IsNumber p.Fieldwidth n = number t p.Fieldwidth n top d way e in
    let f : k.kind ≡ form.FieldWidth = is_fieldwidth_form k.kind k.fits in
    let w : (nat_le 1 k.token.value && nat_le k.token.value 32) ≡ true = rw f at k.takes in
    let u : nat_le 1 k.token.value ≡ true = yes_left (nat_le 1 k.token.value) (nat_le k.token.value 32) w in
    let v : 1 ≤ k.token.value = grind (arith, nat_tests, u) in
    subst (λ m. 1 ≤ m) k.says v

pub field_is : (top : Component) (g : NamedField) (clear : IsClear top) (i : IsGiven top g) → IsField top (trail_of top g i) i.field.instance
field_is top g clear i =
    let x : Instance = i.field.instance in
    let inst : IsInstance i.visit.component i.field.instance = instance_is i.visit.component i.field.instance i.register.fine i.field.among in
    let kind : kind_of i.field.instance.component ≡ body.Field = field_kind (kind_of i.field.instance.component) (rw i.kind at inst.held) in
    let f : Frame = frame_of (targets_in i.visit.component) i.field.instance 0 in
    let t : Trail = i.visit.trail ++ f ∷ [] in
    let one : 0 < count_of i.field.instance = one_of i.field.instance kind in
    let way : IsTrail top (trail_of top g i) i.field.instance.component =
    joined top i.visit.component i.field.instance.component i.visit.trail (f ∷ []) i.register.way
    (IsTrail.step i.visit.component i.field.instance 0 [] i.field.instance.component i.field.among one (IsTrail.here i.field.instance.component)) in
    let short : length i.visit.trail ≤ 64 = is_shallow top i.visit.trail i.visit.component clear.few i.register.way i.register.fieldless in
    let none : refused_at effect.Values (trail_of top g i) i.field.instance.component ≡ [] =
    unrefused top (trail_of top g i) i.field.instance.component clear way (omega (arith, short, length-append i.visit.trail (f ∷ []))) in
    let e : EndsAt (trail_of top g i) i.field.instance.component = record { frame = f; here = here_is i.visit.trail f; kind = refl } in
    let v : is_misvalued_field (trail_of top g i) ≡ false = subst (λ (k : Body). is_misvalued_of k (trail_of top g i) ≡ false) kind (valued (trail_of top g i) i.field.instance.component e none) in
    let shaped : is_misranged (is_field (kind_of i.field.instance.component)) i.field.instance.inst.range ≡ false = no_left _ _ (no_left _ _ (no_left _ _ (no_place _ _ inst.shaped))) in
    let ranged : is_misranged true i.field.instance.inst.range ≡ false = rw kind at shaped in
    let span : span_at (trail_of top g i) ≡ span_in i.field.instance.inst.range = ap (λ (o : Option Frame). option_and_then (λ (y : Frame). span_in y.inst.range) o) (here_is i.visit.trail f) in
    record {
      way = way;
      kind = kind;
      valued = v;
      some = width_some (span_at (trail_of top g i)) (number_at (trail_of top g i) p.Fieldwidth) (λ n q. span_some i.field.instance.inst.range n ranged (sym span ∙ q)) (fieldwidth_some top (trail_of top g i) i.field.instance.component way);
    }
  where
    one_of : (y : Instance) → kind_of y.component ≡ body.Field → 0 < count_of y
    one_of y k = rw k (omega arith)

-- its bits
pub bits_are : (top : Component) (g : NamedField) (clear : IsClear top) (i : IsGiven top g)
    → IsInside (regwidth_at i.visit.trail) (accesswidth_at i.visit.trail) (low_of i.field.next i.field.instance.inst.range) (width_at (trail_of top g i))
bits_are top g clear i =
    inside (regwidth_at i.visit.trail) (accesswidth_at i.visit.trail) (low_of i.field.next i.field.instance.inst.range) (width_at (trail_of top g i)) i.field.seen i.register.widths (field_is top g clear i).some i.field.placed
