-- What a walk gives, with and without room.
use Rattle.std.proofs.Common.{◌≡◌, ℕ, zero, suc, ◌++◌, refl, subst, sym}
use Rattle.rdl_tree.specs.declared.tree.RdlDef.{out-RdlDef}
use Rattle.rdl_text.specs.Components.{Component}
use Rattle.rdl_values.specs.OneFrame.{Trail}
use Rattle.rdl_values.specs.Instances.{instances_of}
use Rattle.rdl_values.specs.Frames.{targets_of}
use Rattle.rdl_values.specs.Walks.{Gives, over, over_instances}

none_at : {A : Type 0} (give : Gives A) (up : Trail) (c : Component) → over give zero up c ≡ give up c
unfolding over
none_at give up c = refl

some_at : {A : Type 0} (give : Gives A) (below : ℕ) (up : Trail) (c : Component)
    → over give (suc below) up c ≡ give up c ++ over_instances (over give below) up (targets_of (out-RdlDef c.definition).items) (instances_of c)
unfolding over
some_at give below up c = refl

pub over_none : {A : Type 0} (give : Gives A) (room : ℕ) (up : Trail) (c : Component) → room ≡ 0 → over give room up c ≡ give up c
over_none give room up c e = subst (λ (r : ℕ). over give r up c ≡ give up c) (sym e) (none_at give up c)

pub over_some : {A : Type 0} (give : Gives A) (room below : ℕ) (up : Trail) (c : Component) → room ≡ suc below
    → over give room up c ≡ give up c ++ over_instances (over give below) up (targets_of (out-RdlDef c.definition).items) (instances_of c)
over_some give room below up c e =
    subst (λ (r : ℕ). over give r up c ≡ give up c ++ over_instances (over give below) up (targets_of (out-RdlDef c.definition).items) (instances_of c)) (sym e) (some_at give below up c)
