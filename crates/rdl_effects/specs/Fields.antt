-- Which fields are refused by the effective values of their properties (SystemRDL 2.0, clause 9): properties that exclude each
-- other, and values that don't fit the field.
use Rattle.std.specs.Prelude.{ℕ, Bool, false, not, ◌&&◌, ◌||◌, ◌==◌, [], ◌∷◌, Option, Some, None, is_none}
use Rattle.rdl_text.specs.declared.property.Property.{Property}
use Rattle.rdl_text.specs.declared.property.Property.TheVariants as p
use Rattle.rdl_values.specs.OneFrame.{Trail}
use Rattle.rdl_values.specs.Values.{number_at, reset_at, in_effect, any_in_effect, both_in_effect, is_assigned}
use Rattle.rdl_values.specs.Accesses.{sw_at, hw_at}
use Rattle.rdl_values.specs.Fields.{span_at, width_at, has_data, is_over}

-- two properties of which a field has at most one are both in effect
abbrev pub is_torn : Trail → Bool
is_torn t =
    both_in_effect t p.We p.Wel || both_in_effect t p.Swwe p.Swwel || both_in_effect t p.Hwenable p.Hwmask
    || both_in_effect t p.Enable p.Mask || both_in_effect t p.Sticky p.Stickybit

-- `fieldwidth` isn't the width that the range gives
abbrev pub are_unlike : Option ℕ → Option ℕ → Bool
are_unlike (Some a) (Some b) = not (a == b)
are_unlike _ _ = false

abbrev pub is_miswide : Trail → Bool
is_miswide t = are_unlike (number_at t p.Fieldwidth) (span_at t)

abbrev pub is_misreset : Trail → Bool
is_misreset t = is_over (width_at t) (reset_at t)

abbrev pub is_one : Option ℕ → Bool
is_one None = false
is_one (Some n) = n == 1

-- a single pulse is a bit that only software sets, again and again, and that falls by itself
abbrev pub is_no_pulse : Trail → Bool
is_no_pulse t =
    not (width_at t == 1) || is_one (reset_at t) || not (sw_at t).writable || (sw_at t).once || has_data t
    || any_in_effect t (p.Hwset ∷ p.Hwclr ∷ p.Onread ∷ [])

abbrev pub is_mispulsed : Trail → Bool
is_mispulsed t = in_effect t p.Singlepulse && is_no_pulse t

-- a counter has a reset, nothing but counting comes from hardware, and its steps fit
abbrev pub is_overstep : Trail → Property → Bool
is_overstep t property = is_over (width_at t) (number_at t property)

abbrev pub is_no_counter : Trail → Bool
is_no_counter t =
    has_data t || any_in_effect t (p.We ∷ p.Wel ∷ p.Hwenable ∷ p.Hwmask ∷ p.Singlepulse ∷ []) || is_none (reset_at t)
    || is_overstep t p.Incrvalue || is_overstep t p.Decrvalue

-- the properties of a counter stand on no other field
abbrev pub has_counts : Trail → Bool
has_counts t =
    any_in_effect t (p.Incrsaturate ∷ p.Decrsaturate ∷ p.Overflow ∷ p.Underflow ∷ p.Incr ∷ p.Decr ∷ [])
    || is_assigned t p.Incrvalue || is_assigned t p.Decrvalue

abbrev pub is_miscounted : Trail → Bool
is_miscounted t = (in_effect t p.Counter && is_no_counter t) || (not (in_effect t p.Counter) && has_counts t)

-- an interrupt has a reset, takes its events from its data input, and nothing else comes from hardware
abbrev pub is_no_interrupt : Trail → Bool
is_no_interrupt t = not (hw_at t).writes || is_none (reset_at t) || any_in_effect t (p.We ∷ p.Wel ∷ p.Hwset ∷ p.Hwclr ∷ p.Singlepulse ∷ [])

-- the properties of an interrupt stand on no other field
abbrev pub has_events : Trail → Bool
has_events t = any_in_effect t (p.Enable ∷ p.Mask ∷ p.Sticky ∷ p.Stickybit ∷ [])

abbrev pub is_misraised : Trail → Bool
is_misraised t = (in_effect t p.Intr && is_no_interrupt t) || (not (in_effect t p.Intr) && has_events t)

abbrev pub is_misvalued_field : Trail → Bool
is_misvalued_field t = is_miswide t || is_misreset t || is_mispulsed t || is_miscounted t || is_misraised t
