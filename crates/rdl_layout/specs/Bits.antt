-- Where the fields of a register stand (SystemRDL 2.0, clause 10, "Register component"): `[hi:lo]` begins at lo, any other field
-- at the bit behind the one before, the first at bit 0. What lies beyond 128 bits counts as 129.
use Rattle.std.specs.Prelude.{ℕ, ◌+◌, ◌-◌, ◌/◌, Bool, false, not, ◌&&◌, ◌||◌, ◌==◌, min, nat_lt, if◌then◌else◌, List, [], ◌∷◌, ◌++◌, Option, Some, None}
use Rattle.std.specs.List.{list_any}
use Rattle.bit_base.specs.declared.place.Place.{Place}
use Rattle.rdl_tree.specs.declared.tree.RdlRange.{RdlRange}
use Rattle.rdl_tree.specs.declared.tree.RdlMarked.{RdlMarked}
use Rattle.rdl_tree.specs.declared.tree.RdlDef.{out-RdlDef}
use Rattle.rdl_text.specs.Components.{Component}
use Rattle.rdl_values.specs.OneInstance.{Instance}
use Rattle.rdl_values.specs.OneFrame.{Target, Trail}
use Rattle.rdl_values.specs.Instances.{instances_of}
use Rattle.rdl_values.specs.Frames.{targets_of, frame_of}
use Rattle.rdl_values.specs.Fields.{width_at}
use Rattle.rdl_layout.specs.declared.bits.Bits.{Bits}

abbrev pub cut : ℕ → ℕ
cut n = min n 129

abbrev pub low_to : ℕ → Option RdlMarked → ℕ
low_to next None = next
low_to next (Some m) = cut m.number.value

abbrev pub low_of : ℕ → Option RdlRange → ℕ
low_of next None = next
low_of next (Some r) = low_to next r.second

abbrev pub bits_from : ℕ → ℕ → Bits
bits_from low width = record { low = low; end = cut (low + width) }

abbrev pub width_of : Trail → List Target → Instance → ℕ
width_of t targets i = width_at (t ++ frame_of targets i 0 ∷ [])

-- the bits of a field behind those of the one before
abbrev pub bits_of : Trail → List Target → ℕ → Instance → Bits
bits_of t targets next i = bits_from (low_of next i.inst.range) (width_of t targets i)

abbrev pub is_crossed : Bits → Bits → Bool
is_crossed a b = nat_lt a.low b.end && nat_lt b.low a.end

-- the first and the last bit aren't in one bus word
abbrev pub is_across : ℕ → Bits → Bool
is_across access b = if access == 0 then false else not (b.low / access == (b.end - 1) / access)

-- on bits of one of these fields
abbrev pub is_on_one : List Bits → Bits → Bool
is_on_one seen b = list_any (λ a. is_crossed a b) seen

-- outside of its register, across bus words, or on bits of a field before it
abbrev pub is_misplaced : ℕ → ℕ → List Bits → Bits → Bool
is_misplaced width access seen b = nat_lt width b.end || is_across access b || is_on_one seen b

-- the first such field of a register
abbrev pub misplaced_in : Trail → List Target → ℕ → ℕ → List Bits → ℕ → List Instance → Option Place
misplaced_in t targets width access seen next [] = None
misplaced_in t targets width access seen next (i ∷ is) =
    if is_misplaced width access seen (bits_of t targets next i) then Some i.inst.name.place
    else misplaced_in t targets width access (seen ++ bits_of t targets next i ∷ []) (bits_of t targets next i).end is

-- the bits of fields together, counted up to 4,097
abbrev pub sum_of : ℕ → Bits → ℕ
sum_of so_far b = min (so_far + (b.end - b.low)) 4097

abbrev pub bits_in : Trail → List Target → ℕ → ℕ → List Instance → ℕ
bits_in t targets next so_far [] = so_far
bits_in t targets next so_far (i ∷ is) = bits_in t targets (bits_of t targets next i).end (sum_of so_far (bits_of t targets next i)) is

abbrev pub bits_at : Trail → Component → ℕ
bits_at t c = bits_in t (targets_of (out-RdlDef c.definition).items) 0 0 (instances_of c)
