-- What the instances below a component give, each with its address: a component, before what stands in it.
use Rattle.std.specs.Prelude.{ℕ, zero, suc, if◌then◌else◌, List, [], ◌∷◌, ◌++◌}
use Rattle.rdl_tree.specs.declared.tree.RdlDef.{out-RdlDef}
use Rattle.rdl_text.specs.Components.{Component}
use Rattle.rdl_text.specs.Instances.{kind_of, is_field}
use Rattle.rdl_values.specs.OneInstance.{Instance}
use Rattle.rdl_values.specs.OneFrame.{Target, Trail}
use Rattle.rdl_values.specs.Instances.{instances_of, count_of}
use Rattle.rdl_values.specs.Frames.{targets_of, frame_of}
use Rattle.rdl_layout.specs.declared.size.Extent.{Extent}
use Rattle.rdl_layout.specs.Sizes.{reach}
use Rattle.rdl_layout.specs.Laid.{Sized, size_in, extent_of}

-- of a component at an address
abbrev pub Gives : Type 0 → Type 0
Gives A = ℕ → Trail → Component → List A

-- where an element stands, in a component at an address
abbrev pub address_of : ℕ → Extent → ℕ → ℕ
address_of base e k = reach (reach base e.start 1 0) e.stride k 0

-- the elements of an instance below a number
abbrev pub over_elements : {A : Type 0} → Gives A → ℕ → Trail → List Target → Instance → Extent → ℕ → List A
over_elements give base up targets i e zero = []
over_elements give base up targets i e (suc k) = over_elements give base up targets i e k ++ give (address_of base e k) (up ++ frame_of targets i k ∷ []) i.component

-- the instances of a body, each behind the end of the one before; fields have no address
abbrev pub over_instances : {A : Type 0} → Gives A → Sized → ℕ → Trail → List Target → ℕ → List Instance → List A
over_instances give size base up targets next [] = []
over_instances give size base up targets next (i ∷ is) =
    if is_field (kind_of i.component) then over_instances give size base up targets next is
    else over_elements give base up targets i (extent_of size up targets next i) (count_of i)
    ++ over_instances give size base up targets (extent_of size up targets next i).end is

abbrev pub over_inside : {A : Type 0} → Gives A → Sized → Gives A
over_inside give size base up c = over_instances give size base up (targets_of (out-RdlDef c.definition).items) 0 (instances_of c)

-- a component at an address, and what stands in it, nested as deep as there is room
unfoldable pub over : {A : Type 0} → Gives A → ℕ → Gives A
over give zero base up c = give base up c
over give (suc room) base up c = give base up c ++ over_inside (over give room) (size_in room) base up c
