-- Where the instances of a body stand, relative to its component (SystemRDL 2.0, clause 5.1.2.2, "Instance address allocation"),
-- and how large a component is: as far as the greatest end of its instances.
use Rattle.std.specs.Prelude.{ℕ, zero, suc, ◌/◌, max, if◌then◌else◌, List, [], ◌∷◌, ◌++◌}
use Rattle.rdl_tree.specs.declared.tree.RdlDef.{out-RdlDef}
use Rattle.rdl_text.specs.declared.instance.Body.{Body}
use Rattle.rdl_text.specs.declared.instance.Body.TheVariants as body
use Rattle.rdl_text.specs.Components.{Component}
use Rattle.rdl_text.specs.Instances.{kind_of, is_field}
use Rattle.rdl_values.specs.OneInstance.{Instance}
use Rattle.rdl_values.specs.OneFrame.{Target, Trail}
use Rattle.rdl_values.specs.Instances.{instances_of, count_of}
use Rattle.rdl_values.specs.Frames.{targets_of, frame_of}
use Rattle.rdl_effects.specs.Registers.{regwidth_at}
use Rattle.rdl_layout.specs.declared.size.Extent.{Extent}
use Rattle.rdl_layout.specs.Sizes.{capped, align_of, start_of, stride_of, reach}

-- the size of what stands at the end of a trail
abbrev pub Sized : Type 0
Sized = Trail → Component → ℕ

abbrev pub element_size : Sized → Trail → List Target → Instance → ℕ → ℕ
element_size size up targets i k = size (up ++ frame_of targets i k ∷ []) i.component

-- the greatest end of the elements below a number
abbrev pub greatest : Sized → Trail → List Target → Instance → ℕ → ℕ → ℕ → ℕ
greatest size up targets i start stride zero = start
greatest size up targets i start stride (suc k) = max (greatest size up targets i start stride k) (reach start stride k (element_size size up targets i k))

abbrev pub start_with : Instance → ℕ → ℕ → ℕ
start_with i next size = start_of i.inst.address next (align_of (kind_of i.component) i.inst.alignment size)

-- an instance behind the end of the one before
abbrev pub extent_with : Sized → Trail → List Target → Instance → ℕ → ℕ → Extent
extent_with size up targets i start stride = record { start = start; stride = stride; end = greatest size up targets i start stride (count_of i) }

abbrev pub extent_of : Sized → Trail → List Target → ℕ → Instance → Extent
extent_of size up targets next i =
    extent_with size up targets i (start_with i next (element_size size up targets i 0)) (stride_of i.inst.stride (element_size size up targets i 0))

-- fields take no address
abbrev pub end_behind : Sized → Trail → List Target → ℕ → Instance → ℕ
end_behind size up targets next i = if is_field (kind_of i.component) then next else (extent_of size up targets next i).end

abbrev pub end_within : Sized → Trail → List Target → ℕ → Instance → ℕ
end_within size up targets next i = if is_field (kind_of i.component) then 0 else (extent_of size up targets next i).end

abbrev pub greatest_end : Sized → Trail → List Target → ℕ → List Instance → ℕ
greatest_end size up targets next [] = 0
greatest_end size up targets next (i ∷ is) = max (end_within size up targets next i) (greatest_end size up targets (end_behind size up targets next i) is)

abbrev pub size_by : Body → Trail → ℕ → ℕ
size_by body.Reg t inner = capped (regwidth_at t / 8)
size_by _ t inner = inner

-- the size of a component, nested as deep as there is room
unfoldable pub size_in : ℕ → Sized
size_in zero t c = size_by (kind_of c) t 0
size_in (suc room) t c = size_by (kind_of c) t (greatest_end (size_in room) t (targets_of (out-RdlDef c.definition).items) 0 (instances_of c))

abbrev pub inner_size : ℕ → Sized
inner_size zero t c = 0
inner_size (suc room) t c = greatest_end (size_in room) t (targets_of (out-RdlDef c.definition).items) 0 (instances_of c)
