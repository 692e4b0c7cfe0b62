-- Numbers that are cut, and what they count.
use Rattle.std.proofs.Common.{◌≡◌, ℕ, zero, suc, refl, sym, subst}
use Rattle.rdl_text.specs.Components.{Component}
use Rattle.rdl_effects.specs.Limits.{number_inside, number_in}

none_at : (c : Component) → number_inside zero c ≡ 1048576
unfolding number_inside
none_at c = refl

some_at : (below : ℕ) (c : Component) → number_inside (suc below) c ≡ number_in below c
unfolding number_inside
some_at below c = refl

pub inside_none : (room : ℕ) (c : Component) → room ≡ 0 → number_inside room c ≡ 1048576
inside_none room c e = subst (λ (r : ℕ). number_inside r c ≡ 1048576) (sym e) (none_at c)

pub inside_some : (room below : ℕ) (c : Component) → room ≡ suc below → number_inside room c ≡ number_in below c
inside_some room below c e = subst (λ (r : ℕ). number_inside r c ≡ number_in below c) (sym e) (some_at below c)
