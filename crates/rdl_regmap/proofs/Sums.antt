-- The fields of a description have few bits together, and so they are few.
use Rattle.std.proofs.Common.{◌≡◌, inl, inr, ℕ, ◌+◌, ◌-◌, ◌≤◌, false, min, nat_lt, List, [], ◌∷◌, ◌++◌, length, Option, Some, None, sum_by, refl, sym, ◌∙◌, ap, subst, arith}
use Rattle.std.specs.List.{flat_map}
use Rattle.std.proofs.lemmas.List.Sums.{sum_by-append}
use Rattle.std.proofs.lemmas.Bool.Decides.{nat_tests}
use Rattle.rdl_text.specs.declared.instance.Body.{Body}
use Rattle.rdl_text.specs.declared.instance.Body.TheVariants as body
use Rattle.rdl_text.specs.Components.{Component}
use Rattle.rdl_text.specs.Instances.{kind_of}
use Rattle.rdl_values.specs.OneInstance.{Instance}
use Rattle.rdl_values.specs.OneFrame.{Frame, Trail}
use Rattle.rdl_values.specs.Instances.{instances_of}
use Rattle.rdl_effects.specs.Registers.{regwidth_at, accesswidth_at}
use Rattle.rdl_layout.specs.declared.bits.Bits.{Bits}
use Rattle.rdl_layout.specs.declared.register.Register.{Register}
use Rattle.rdl_layout.specs.Bits.{bits_of, bits_from, low_of, width_of, is_misplaced, misplaced_in, sum_of, bits_in, bits_at}
use Rattle.rdl_layout.specs.Registers.{register_by, register_here, registers_below}
use Rattle.rdl_layout.specs.Registers as layout
use Rattle.rdl_layout.specs.Walks.{over}
use Rattle.rdl_fields.specs.declared.named.NamedField.{NamedField}
use Rattle.rdl_fields.specs.Registers.{field_in, fields_in, fields_by, fields_at, fields_below}
use Rattle.rdl_regmap.proofs.Has.{Has}
use Rattle.rdl_regmap.proofs.Visits.{Visit, visit, at_visit, over_is}
use Rattle.rdl_regmap.proofs.Trails.{targets_in}
use Rattle.rdl_regmap.proofs.Instances.{no_left}
use Rattle.rdl_regmap.proofs.Givens.{IsClear, IsRegisterAt, not_first, EndsAt}
use Rattle.rdl_regmap.proofs.Givens as givens

abbrev pub width_in : NamedField → ℕ
width_in g = g.spot.width

pub sum_cons : {A : Type 0} (f : A → ℕ) (x : A) (xs : List A) → sum_by f (x ∷ xs) ≡ (0 + f x) + sum_by f xs
sum_cons f x xs = sum_by-append f (x ∷ []) xs

-- ---- of one register

pub end_is : (width access low bits : ℕ) (seen : List Bits) → width ≤ 128 → is_misplaced width access seen (bits_from low bits) ≡ false → min (low + bits) 129 ≡ low + bits
end_is width access low bits seen bound out =
    let a : nat_lt width (min (low + bits) 129) ≡ false = no_left _ _ (no_left _ _ out) in
    let b : min (low + bits) 129 ≤ width = grind (arith, nat_tests, a) in
    omega (arith, b, bound)

step : (so_far low end bits rest : ℕ) → so_far ≤ 4097 → end ≡ low + bits → min (min (so_far + (end - low)) 4097 + rest) 4097 ≡ min (so_far + ((0 + bits) + rest)) 4097
step so_far low end bits rest le e = omega (arith, le, e)

stays : (so_far n : ℕ) → min (so_far + n) 4097 ≤ 4097
stays so_far n = omega arith

start : (so_far : ℕ) → so_far ≤ 4097 → so_far ≡ min (so_far + 0) 4097
start so_far le = omega (arith, le)

bits_are : (width access address : ℕ) (t : Trail) (c : Component) (seen : List Bits) (next so_far : ℕ) (is : List Instance) → width ≤ 128 → so_far ≤ 4097
    → misplaced_in t (targets_in c) width access seen next is ≡ None
    → bits_in t (targets_in c) next so_far is ≡ min (so_far + sum_by width_in (fields_in address access t (targets_in c) next is)) 4097
bits_are width access address t c seen next so_far [] bound le none = start so_far le
bits_are width access address t c seen next so_far (i ∷ is) bound le none =
    let e : (is_misplaced width access seen (bits_of t (targets_in c) next i) ≡ false)
    × (misplaced_in t (targets_in c) width access (seen ++ bits_of t (targets_in c) next i ∷ []) (bits_of t (targets_in c) next i).end is ≡ None) =
    not_first (is_misplaced width access seen (bits_of t (targets_in c) next i)) i.inst.name.place _ none in
    let b : min (low_of next i.inst.range + width_of t (targets_in c) i) 129 ≡ low_of next i.inst.range + width_of t (targets_in c) i =
    end_is width access (low_of next i.inst.range) (width_of t (targets_in c) i) seen bound e.0 in
    let more : bits_in t (targets_in c) (bits_of t (targets_in c) next i).end (sum_of so_far (bits_of t (targets_in c) next i)) is
    ≡ min (sum_of so_far (bits_of t (targets_in c) next i) + sum_by width_in (fields_in address access t (targets_in c) (bits_of t (targets_in c) next i).end is)) 4097 =
    bits_are width access address t c (seen ++ bits_of t (targets_in c) next i ∷ []) (bits_of t (targets_in c) next i).end (sum_of so_far (bits_of t (targets_in c) next i)) is bound
    (stays so_far _) e.1 in
    more ∙ step so_far (low_of next i.inst.range) (bits_of t (targets_in c) next i).end (width_of t (targets_in c) i) (sum_by width_in (fields_in address access t (targets_in c) (bits_of t (targets_in c) next i).end is)) le b
    ∙ ap (λ n. min (so_far + n) 4097)
    (sym (sum_cons width_in (field_in address access t (targets_in c) i (bits_of t (targets_in c) next i)) (fields_in address access t (targets_in c) (bits_of t (targets_in c) next i).end is)))

-- ---- of all

abbrev Counted : Visit → Type 0
Counted v = sum_by (λ (r : Register). r.bits) (at_visit layout.register_at v) ≤ 4096
    → sum_by width_in (at_visit fields_at v) ≤ sum_by (λ (r : Register). r.bits) (at_visit layout.register_at v)

from_cut : (bits sum : ℕ) → bits ≡ min (0 + sum) 4097 → 0 + bits ≤ 4096 → sum ≤ 0 + bits
from_cut bits sum e le = omega (arith, e, le)

counted_reg : (top : Component) (v : Visit) → IsClear top → Has v (over visit 65 0 [] top) → kind_of v.component ≡ body.Reg → Counted v
counted_reg top v clear h kind =
    let r : IsRegisterAt top v = givens.register_at top v clear h kind in
    let b : bits_at v.trail v.component ≡ min (0 + sum_by width_in (fields_in v.address (accesswidth_at v.trail) v.trail (targets_in v.component) 0 (instances_of v.component))) 4097 =
    bits_are (regwidth_at v.trail) (accesswidth_at v.trail) v.address v.trail v.component [] 0 0 (instances_of v.component) r.widths.bound (omega arith) r.first in
    let f : fields_at v.address v.trail v.component ≡ fields_in v.address (accesswidth_at v.trail) v.trail (targets_in v.component) 0 (instances_of v.component) =
    ap (λ (k : Body). fields_by k v.address v.trail v.component) kind in
    let g : layout.register_at v.address v.trail v.component ≡ register_by body.Reg v.address v.trail v.component r.frame.frame =
    ap (λ (o : Option Frame). register_here v.address v.trail v.component o) r.frame.here ∙ ap (λ (k : Body). register_by k v.address v.trail v.component r.frame.frame) (r.frame.kind ∙ kind) in
    let all : 0 + bits_at v.trail v.component ≤ 4096 → sum_by width_in (fields_in v.address (accesswidth_at v.trail) v.trail (targets_in v.component) 0 (instances_of v.component)) ≤ 0 + bits_at v.trail v.component =
    from_cut (bits_at v.trail v.component) _ b in
    subst (λ (xs : List NamedField). sum_by (λ (x : Register). x.bits) (layout.register_at v.address v.trail v.component) ≤ 4096 → sum_by width_in xs ≤ sum_by (λ (x : Register). x.bits) (layout.register_at v.address v.trail v.component)) (sym f)
    (subst (λ (xs : List Register). sum_by (λ (x : Register). x.bits) xs ≤ 4096 → sum_by width_in (fields_in v.address (accesswidth_at v.trail) v.trail (targets_in v.component) 0 (instances_of v.component)) ≤ sum_by (λ (x : Register). x.bits) xs) (sym g) all)

counted : (top : Component) (v : Visit) → IsClear top → Has v (over visit 65 0 [] top) → Counted v
counted top v clear h = by (kind_of v.component) refl
  where
    none : (k : Body) → fields_by k v.address v.trail v.component ≡ [] → kind_of v.component ≡ k → Counted v
    none k e q le = subst (λ (xs : List NamedField). sum_by width_in xs ≤ sum_by (λ (r : Register). r.bits) (at_visit layout.register_at v)) (sym (ap (λ (x : Body). fields_by x v.address v.trail v.component) q ∙ e)) (omega arith)

    by : (k : Body) → kind_of v.component ≡ k → Counted v
    by body.File q = none body.File refl q
    by body.Addrmap q = none body.Addrmap refl q
    by body.Regfile q = none body.Regfile refl q
    by body.Reg q = counted_reg top v clear h q
    by body.Field q = none body.Field refl q

all_counted : (vs : List Visit) → ((v : Visit) → Has v vs → Counted v) → sum_by (λ (r : Register). r.bits) (flat_map (at_visit layout.register_at) vs) ≤ 4096
    → sum_by width_in (flat_map (at_visit fields_at) vs) ≤ sum_by (λ (r : Register). r.bits) (flat_map (at_visit layout.register_at) vs)
all_counted [] all le = omega arith
all_counted (v ∷ vs) all le =
    let a : sum_by (λ (r : Register). r.bits) (at_visit layout.register_at v ++ flat_map (at_visit layout.register_at) vs)
    ≡ sum_by (λ (r : Register). r.bits) (at_visit layout.register_at v) + sum_by (λ (r : Register). r.bits) (flat_map (at_visit layout.register_at) vs) =
    sum_by-append (λ (r : Register). r.bits) (at_visit layout.register_at v) _ in
    let b : sum_by width_in (at_visit fields_at v ++ flat_map (at_visit fields_at) vs) ≡ sum_by width_in (at_visit fields_at v) + sum_by width_in (flat_map (at_visit fields_at) vs) =
    sum_by-append width_in (at_visit fields_at v) _ in
    let first : sum_by width_in (at_visit fields_at v) ≤ sum_by (λ (r : Register). r.bits) (at_visit layout.register_at v) = all v (inl refl) (omega (arith, a, le)) in
    let more : sum_by width_in (flat_map (at_visit fields_at) vs) ≤ sum_by (λ (r : Register). r.bits) (flat_map (at_visit layout.register_at) vs) =
    all_counted vs (λ w i. all w (inr i)) (omega (arith, a, le)) in
    omega (arith, a, b, first, more)

pub few_bits : (top : Component) → IsClear top → sum_by (λ (r : Register). r.bits) (registers_below (Some top)) ≤ 4096 → sum_by width_in (fields_below (Some top)) ≤ 4096
few_bits top clear le =
    let r : registers_below (Some top) ≡ flat_map (at_visit layout.register_at) (over visit 65 0 [] top) = over_is layout.register_at 65 0 [] top in
    let f : fields_below (Some top) ≡ flat_map (at_visit fields_at) (over visit 65 0 [] top) = over_is fields_at 65 0 [] top in
    let m : sum_by (λ (x : Register). x.bits) (flat_map (at_visit layout.register_at) (over visit 65 0 [] top)) ≤ 4096 = subst (λ (xs : List Register). sum_by (λ (x : Register). x.bits) xs ≤ 4096) r le in
    let all : sum_by width_in (flat_map (at_visit fields_at) (over visit 65 0 [] top)) ≤ sum_by (λ (x : Register). x.bits) (flat_map (at_visit layout.register_at) (over visit 65 0 [] top)) =
    all_counted (over visit 65 0 [] top) (λ v h. counted top v clear h) m in
    subst (λ (xs : List NamedField). sum_by width_in xs ≤ 4096) (sym f) (omega (arith, all, m))

-- as many as they have bits, at most
pub no_more : (gs : List NamedField) → ((g : NamedField) → Has g gs → 1 ≤ width_in g) → length gs ≤ sum_by width_in gs
no_more [] all = omega arith
no_more (g ∷ gs) all =
    let one : 1 ≤ width_in g = all g (inl refl) in
    let more : length gs ≤ sum_by width_in gs = no_more gs (λ x i. all x (inr i)) in
    let e : sum_by width_in (g ∷ gs) ≡ (0 + width_in g) + sum_by width_in gs = sum_cons width_in g gs in
    omega (arith, one, more, e)
