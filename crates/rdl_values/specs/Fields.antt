-- Fields (SystemRDL 2.0, clause 9): their bits, what hardware gives them, and whether their value is known after reset.
use Rattle.std.specs.Prelude.{ℕ, ◌+◌, ◌-◌, ◌^◌, Bool, false, not, ◌&&◌, ◌||◌, nat_le, [], ◌∷◌, Option, Some, None, is_some}
use Rattle.std.specs.Option.{option_and_then}
use Rattle.rdl_tree.specs.declared.tree.RdlRange.{RdlRange}
use Rattle.rdl_tree.specs.declared.tree.RdlMarked.{RdlMarked}
use Rattle.rdl_text.specs.declared.property.Property.TheVariants as p
use Rattle.rdl_values.specs.declared.access.SwAccess.{SwAccess}
use Rattle.rdl_values.specs.OneFrame.{Trail}
use Rattle.rdl_values.specs.Values.{here_of, number_at, reset_at, in_effect, any_in_effect, is_assigned}
use Rattle.rdl_values.specs.Accesses.{sw_at, hw_at}

-- the bits that `[n]` or `[hi:lo]` gives
abbrev pub span_to : ℕ → Option RdlMarked → ℕ
span_to first None = first
span_to first (Some m) = first - m.number.value + 1

abbrev pub span_in : Option RdlRange → Option ℕ
span_in None = None
span_in (Some r) = Some (span_to r.first.value r.second)

abbrev pub span_at : Trail → Option ℕ
span_at t = option_and_then (λ f. span_in f.inst.range) (here_of t)

-- without a range it is the effective `fieldwidth`, and 1 where there is none
abbrev pub width_by : Option ℕ → Option ℕ → ℕ
width_by (Some n) given = n
width_by None (Some n) = n
width_by None None = 1

abbrev pub width_at : Trail → ℕ
width_at t = width_by (span_at t) (number_at t p.Fieldwidth)

-- hardware gives data where it may write and an enable is in effect, or where `hw` is assigned and neither `hwset` nor `hwclr`
-- is in effect
abbrev pub takes_data : Trail → Bool
takes_data t = (hw_at t).writes && (any_in_effect t (p.We ∷ p.Wel ∷ []) || (is_assigned t p.Hw && not (any_in_effect t (p.Hwset ∷ p.Hwclr ∷ []))))

-- an interrupt always has a data input
abbrev pub has_data : Trail → Bool
has_data t = in_effect t p.Intr || takes_data t

abbrev pub is_read_only : SwAccess → Bool
is_read_only s = s.readable && not s.writable

abbrev pub is_acted_on : Trail → Bool
is_acted_on t = any_in_effect t (p.Intr ∷ p.We ∷ p.Wel ∷ p.Hwset ∷ p.Hwclr ∷ p.Hwenable ∷ p.Hwmask ∷ p.Onread ∷ p.Singlepulse ∷ [])

-- a wire has a data input, software only reads it, and nothing else acts on it
abbrev pub is_wire : Trail → Bool
is_wire t = takes_data t && is_read_only (sw_at t) && not (is_acted_on t)

-- the value after reset is known: a wire's, and that of a field with a reset
abbrev pub starts_known : Trail → Bool
starts_known t = is_wire t || is_some (reset_at t)

-- a number that has no room in so many bits
abbrev pub is_over : ℕ → Option ℕ → Bool
is_over width None = false
is_over width (Some n) = nat_le (2 ^ width) n
