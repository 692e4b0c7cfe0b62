-- The size of a component by that of what stands in it.
use Rattle.std.proofs.Common.{◌≡◌, ℕ, zero, suc, refl}
use Rattle.rdl_text.specs.Components.{Component}
use Rattle.rdl_text.specs.Instances.{kind_of}
use Rattle.rdl_values.specs.OneFrame.{Trail}
use Rattle.rdl_layout.specs.Laid.{size_in, size_by, inner_size}

pub size_is : (room : ℕ) (t : Trail) (c : Component) → size_in room t c ≡ size_by (kind_of c) t (inner_size room t c)
unfolding size_in
size_is zero t c = refl
size_is (suc room) t c = refl
