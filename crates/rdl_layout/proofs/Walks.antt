-- What a walk gives, with and without room.
use Rattle.std.proofs.Common.{◌≡◌, ℕ, zero, suc, ◌+◌, List, [], ◌∷◌, ◌++◌, refl, subst, sym, add-one, append_assoc}
use Rattle.rdl_text.specs.Components.{Component}
use Rattle.rdl_values.specs.OneInstance.{Instance}
use Rattle.rdl_values.specs.OneFrame.{Target, Trail}
use Rattle.rdl_values.specs.Frames.{frame_of}
use Rattle.rdl_layout.specs.declared.size.Extent.{Extent}
use Rattle.rdl_layout.specs.Laid.{size_in}
use Rattle.rdl_layout.specs.Walks.{Gives, address_of, over, over_elements, over_inside}

none_at : {A : Type 0} (give : Gives A) (base : ℕ) (up : Trail) (c : Component) → over give zero base up c ≡ give base up c
unfolding over
none_at give base up c = refl

some_at : {A : Type 0} (give : Gives A) (below base : ℕ) (up : Trail) (c : Component)
    → over give (suc below) base up c ≡ give base up c ++ over_inside (over give below) (size_in below) base up c
unfolding over
some_at give below base up c = refl

pub over_none : {A : Type 0} (give : Gives A) (room base : ℕ) (up : Trail) (c : Component) → room ≡ 0 → over give room base up c ≡ give base up c
over_none give room base up c e = subst (λ (r : ℕ). over give r base up c ≡ give base up c) (sym e) (none_at give base up c)

pub over_some : {A : Type 0} (give : Gives A) (room below base : ℕ) (up : Trail) (c : Component) → room ≡ suc below
    → over give room base up c ≡ give base up c ++ over_inside (over give below) (size_in below) base up c
over_some give room below base up c e =
    subst (λ (r : ℕ). over give r base up c ≡ give base up c ++ over_inside (over give below) (size_in below) base up c) (sym e) (some_at give below base up c)

-- one element more
pub more : {A : Type 0} (give : Gives A) (base address : ℕ) (up : Trail) (targets : List Target) (i : Instance) (e : Extent) (k : ℕ) (start mid new : List A)
    → mid ≡ start ++ over_elements give base up targets i e k → address ≡ address_of base e k → new ≡ mid ++ give address (up ++ frame_of targets i k ∷ []) i.component
    → new ≡ start ++ over_elements give base up targets i e (k + 1)
more give base address up targets i e k start mid new so_far at next = rw (next, so_far, at, add-one, append_assoc) refl
