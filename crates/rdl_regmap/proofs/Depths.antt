-- Where there aren't too many instances, none nests too deep.
use Rattle.std.proofs.Common.{◌≡◌, inl, inr, ℕ, zero, suc, ◌+◌, ◌*◌, ◌<◌, ◌≤◌, Bool, true, false, List, [], ◌∷◌, length, refl, sym, ap, subst, arith, nat_lt, if◌then◌else◌}
use Rattle.std.proofs.lemmas.Bool.Decides.{nat_tests}
use Rattle.rdl_text.specs.Components.{Component}
use Rattle.rdl_text.specs.Instances.{kind_of, is_field}
use Rattle.rdl_values.specs.OneInstance.{Instance}
use Rattle.rdl_values.specs.OneFrame.{Trail}
use Rattle.rdl_values.specs.Instances.{instances_of, count_of}
use Rattle.rdl_effects.specs.Limits.{number_with, numbers_with, number_inside, number_in}
use Rattle.rdl_effects.proofs.Numbers.{inside_none, inside_some}
use Rattle.rdl_regmap.proofs.Has.{Has}
use Rattle.rdl_regmap.proofs.Trails.{IsTrail, HasNoField}

at_least : (k n m : ℕ) → k < n → m ≤ n * m
at_least k zero m lt = absurd (omega (arith, lt))
at_least k (suc n) m lt = omega arith

-- an instance counts with all that it has inside
pub one_counts : (inner : Component → ℕ) (i : Instance) (k : ℕ) → k < count_of i → is_field (kind_of i.component) ≡ false → 1 + inner i.component ≤ number_with inner i
one_counts inner i k lt plain = subst (λ b. 1 + inner i.component ≤ (if b then 0 else count_of i * (1 + inner i.component))) (sym plain) (at_least k (count_of i) (1 + inner i.component) lt)

pub among_counts : (inner : Component → ℕ) (i : Instance) (is : List Instance) → Has i is → number_with inner i ≤ numbers_with inner is
among_counts inner i [] h = absurd h
among_counts inner i (j ∷ is) h = elim h [
  | inl e ↦ let s : number_with inner i ≡ number_with inner j = ap (λ (x : Instance). number_with inner x) e in omega (arith, s)
  | inr r ↦ let s : number_with inner i ≤ numbers_with inner is = among_counts inner i is r in omega (arith, s)
]

too_many : (room : ℕ) (c : Component) (t : Trail) (d : Component) → IsTrail c t d → HasNoField t → room < length t → 1048577 ≤ number_in room c
too_many room c t d (IsTrail.here _) none lt = absurd (omega (arith, lt))
too_many zero c t d (IsTrail.step _ i k s _ among below more) none lt =
    let a : 1 + number_inside zero i.component ≤ number_with (number_inside zero) i = one_counts (number_inside zero) i k below none.0 in
    let b : number_with (number_inside zero) i ≤ number_in zero c = among_counts (number_inside zero) i (instances_of c) among in
    let e : number_inside zero i.component ≡ 1048576 = inside_none zero i.component refl in
    omega (arith, a, b, e)
too_many (suc room) c t d (IsTrail.step _ i k s _ among below more) none lt =
    let a : 1 + number_inside (suc room) i.component ≤ number_with (number_inside (suc room)) i = one_counts (number_inside (suc room)) i k below none.0 in
    let b : number_with (number_inside (suc room)) i ≤ number_in (suc room) c = among_counts (number_inside (suc room)) i (instances_of c) among in
    let e : number_inside (suc room) i.component ≡ number_in room i.component = inside_some (suc room) room i.component refl in
    let m : 1048577 ≤ number_in room i.component = too_many room i.component s d more none.1 (omega (arith, lt)) in
    omega (arith, a, b, e, m)

pub is_shallow : (c : Component) (t : Trail) (d : Component) → nat_lt 1048576 (number_in 64 c) ≡ false → IsTrail c t d → HasNoField t → length t ≤ 64
is_shallow c t d few trail none = by (nat_lt 64 (length t)) refl
  where
    by : (b : Bool) → nat_lt 64 (length t) ≡ b → length t ≤ 64
    by true h =
        let m : 1048577 ≤ number_in 64 c = too_many 64 c t d trail none (grind (arith, nat_tests, h)) in
        absurd (grind (arith, nat_tests, m, few))
    by false h = grind (arith, nat_tests, h)
