-- The components that a walk over the instances comes to.
use Rattle.std.proofs.Common.{◌≡◌, ℕ, zero, suc, Bool, true, false, List, [], ◌∷◌, ◌++◌, refl, sym, ◌∙◌, ap, append-nil, if◌then◌else◌}
use Rattle.std.specs.List.{flat_map}
use Rattle.std.proofs.lemmas.Grind.{flat_map-append}
use Rattle.rdl_tree.specs.declared.tree.RdlDef.{out-RdlDef}
use Rattle.rdl_text.specs.Components.{Component}
use Rattle.rdl_text.specs.Instances.{kind_of, is_field}
use Rattle.rdl_values.specs.OneInstance.{Instance}
use Rattle.rdl_values.specs.OneFrame.{Target, Trail}
use Rattle.rdl_values.specs.Instances.{instances_of, count_of}
use Rattle.rdl_values.specs.Frames.{targets_of, frame_of}
use Rattle.rdl_layout.specs.declared.size.Extent.{Extent}
use Rattle.rdl_layout.specs.Laid.{Sized, size_in, extent_of}
use Rattle.rdl_layout.specs.Walks.{Gives, address_of, over, over_elements, over_instances}

pub record Visit : Type 0 where
  pub address : ℕ
  pub trail : Trail
  pub component : Component

abbrev pub visit : Gives Visit
visit a t c = record { address = a; trail = t; component = c } ∷ []

abbrev pub at_visit : {A : Type 0} → Gives A → Visit → List A
at_visit give v = give v.address v.trail v.component

-- ---- what a walk gives is what is given at its visits

abbrev SeenBy : {A : Type 0} → Gives A → Gives A → Gives Visit → Type 0
SeenBy give go see = (a : ℕ) (t : Trail) (c : Component) → go a t c ≡ flat_map (at_visit give) (see a t c)

elements_are : {A : Type 0} (give go : Gives A) (see : Gives Visit) → SeenBy give go see → (base : ℕ) (up : Trail) (targets : List Target) (i : Instance) (e : Extent) (k : ℕ)
    → over_elements go base up targets i e k ≡ flat_map (at_visit give) (over_elements see base up targets i e k)
elements_are give go see law base up targets i e zero = refl
elements_are give go see law base up targets i e (suc k) =
    ap (λ xs. xs ++ go (address_of base e k) (up ++ frame_of targets i k ∷ []) i.component) (elements_are give go see law base up targets i e k)
    ∙ ap (λ ys. flat_map (at_visit give) (over_elements see base up targets i e k) ++ ys) (law (address_of base e k) (up ++ frame_of targets i k ∷ []) i.component)
    ∙ sym (flat_map-append (at_visit give) (over_elements see base up targets i e k) (see (address_of base e k) (up ++ frame_of targets i k ∷ []) i.component))

branch : {A B : Type 0} (f : A → List B) (b : Bool) (xs ys : List B) (zs ws : List A) → (b ≡ true → xs ≡ flat_map f zs) → (b ≡ false → ys ≡ flat_map f ws)
    → (if b then xs else ys) ≡ flat_map f (if b then zs else ws)
branch f true xs ys zs ws g h = g refl
branch f false xs ys zs ws g h = h refl

instances_are : {A : Type 0} (give go : Gives A) (see : Gives Visit) → SeenBy give go see → (size : Sized) (base : ℕ) (up : Trail) (targets : List Target) (next : ℕ) (is : List Instance)
    → over_instances go size base up targets next is ≡ flat_map (at_visit give) (over_instances see size base up targets next is)
instances_are give go see law size base up targets next [] = refl
instances_are give go see law size base up targets next (i ∷ is) = branch (at_visit give) (is_field (kind_of i.component)) _ _ _ _
    (λ h. instances_are give go see law size base up targets next is)
    (λ h. ap (λ xs. xs ++ over_instances go size base up targets (extent_of size up targets next i).end is) (elements_are give go see law base up targets i (extent_of size up targets next i) (count_of i))
    ∙ ap (λ ys. flat_map (at_visit give) (over_elements see base up targets i (extent_of size up targets next i) (count_of i)) ++ ys) (instances_are give go see law size base up targets (extent_of size up targets next i).end is)
    ∙ sym (flat_map-append (at_visit give) (over_elements see base up targets i (extent_of size up targets next i) (count_of i)) (over_instances see size base up targets (extent_of size up targets next i).end is)))

pub over_is : {A : Type 0} (give : Gives A) (room : ℕ) → SeenBy give (over give room) (over visit room)
unfolding over
over_is give zero base up c = sym (append-nil (give base up c))
over_is give (suc room) base up c =
    ap (λ ys. give base up c ++ ys) (instances_are give (over give room) (over visit room) (over_is give room) (size_in room) base up (targets_of (out-RdlDef c.definition).items) 0 (instances_of c))
