-- What software and hardware may do to a field, what it starts with, what it counts, and what it shows (SystemRDL 2.0, clause 9).
use Rattle.std.specs.Prelude.{ℕ, Bool, false, not, ◌&&◌, ◌||◌, if◌then◌else◌, [], ◌∷◌, Option, Some}
use Rattle.field_policies.specs.declared.policy.ReadEffect.{ReadEffect}
use Rattle.field_policies.specs.declared.policy.ReadEffect.TheVariants as read
use Rattle.field_policies.specs.declared.policy.WriteEffect.{WriteEffect}
use Rattle.field_policies.specs.declared.policy.WriteEffect.TheVariants as write
use Rattle.field_policies.specs.declared.signal.Shown.{Shown}
use Rattle.rdl_text.specs.declared.property.Property.TheVariants as p
use Rattle.rdl_values.specs.declared.access.SwAccess.{SwAccess}
use Rattle.rdl_values.specs.OneFrame.{Trail}
use Rattle.rdl_values.specs.Values.{number_at, reset_at, in_effect, any_in_effect, is_assigned}
use Rattle.rdl_values.specs.Accesses.{sw_at, hw_at, hw_first_at, read_at, write_at}
use Rattle.rdl_values.specs.Fields.{has_data, is_wire, starts_known}
use Rattle.rdl_effects.specs.Registers.{number_or}
use Rattle.rdl_fields.specs.declared.named.NamedExpr.{NamedExpr}
use Rattle.rdl_fields.specs.declared.named.NamedExpr.TheVariants as named
use Rattle.rdl_fields.specs.declared.named.NamedCounter.{NamedCounter}
use Rattle.rdl_fields.specs.declared.named.NamedIntr.{NamedIntr}
use Rattle.rdl_fields.specs.declared.named.NamedExtra.{NamedExtra}
use Rattle.rdl_fields.specs.declared.named.NamedExtra.TheVariants as extra
use Rattle.rdl_fields.specs.declared.named.Inputs.{Inputs}
use Rattle.rdl_fields.specs.declared.named.Software.{Software}
use Rattle.rdl_fields.specs.declared.named.Hardware.{Hardware}
use Rattle.rdl_fields.specs.declared.named.Start.{Start}
use Rattle.rdl_fields.specs.Exprs.{expr_at, asks, gate_at, gate_if}

-- ---- software: a read has no effect where it can't read, a write none where it can't write, and nothing gates it then

abbrev pub read_if : Bool → Trail → ReadEffect
read_if readable t = if readable then read_at t else read.Keep

abbrev pub write_if : Bool → Trail → WriteEffect
write_if writable t = if writable then write_at t else write.AsIs

abbrev pub software_by : SwAccess → Trail → Software
software_by s t = record {
  readable = s.readable;
  writable = s.writable;
  once = s.once;
  read = read_if s.readable t;
  write = write_if s.writable t;
  gate = gate_if s.writable t p.Swwe p.Swwel;
}

abbrev pub software_at : Trail → Software
software_at t = software_by (sw_at t) t

-- ---- hardware: `we` and `wel` gate its data, `hwenable` and `hwmask` the bits that it may change

abbrev pub acts : Trail → Bool
acts t = has_data t || any_in_effect t (p.Hwset ∷ p.Hwclr ∷ [])

abbrev pub hardware_at : Trail → Hardware
hardware_at t = record {
  has_data = has_data t;
  data_gate = gate_if (has_data t) t p.We p.Wel;
  set = expr_at t p.Hwset;
  clear = expr_at t p.Hwclr;
  bit_gate = gate_if (acts t) t p.Hwenable p.Hwmask;
  goes_first = hw_first_at t;
  pulse = in_effect t p.Singlepulse;
}

-- ---- a wire has no reset of its own, and without a reset it is 0

abbrev pub reset_if : Bool → Trail → ℕ
reset_if wire t = if wire then 0 else number_or 0 (reset_at t)

abbrev pub start_at : Trail → Start
start_at t = record { wire = is_wire t; reset = reset_if (is_wire t) t; known = starts_known t }

-- ---- counters and interrupts

-- a counter for which neither `incr` nor `decr` is assigned has `incr = true`
abbrev pub counts_by_itself : Trail → Bool
counts_by_itself t = in_effect t p.Counter && not (is_assigned t p.Incr) && not (is_assigned t p.Decr)

abbrev pub incr_at : Trail → Option NamedExpr
incr_at t = if counts_by_itself t then Some named.Input else expr_at t p.Incr

abbrev pub counter_at : Trail → NamedCounter
counter_at t = record {
  incr = incr_at t;
  decr = expr_at t p.Decr;
  up = number_or 1 (number_at t p.Incrvalue);
  down = number_or 1 (number_at t p.Decrvalue);
  up_stops = in_effect t p.Incrsaturate;
  down_stops = in_effect t p.Decrsaturate;
}

-- `sticky` holds the first event; `stickybit` holds each bit, as an interrupt does without either
abbrev pub intr_at : Trail → NamedIntr
intr_at t = record { sticky = in_effect t p.Sticky; filter = gate_at t p.Enable p.Mask }

abbrev pub extra_at : Trail → NamedExtra
extra_at t = if in_effect t p.Counter then extra.Counter (counter_at t) else if in_effect t p.Intr then extra.Intr (intr_at t) else extra.Plain

-- ---- its hardware inputs: its data, and one for each property that is `true` in place of a reference

abbrev pub inputs_at : Trail → Inputs
inputs_at t = record {
  has_data = has_data t;
  we = asks t p.We;
  wel = asks t p.Wel;
  hwset = asks t p.Hwset;
  hwclr = asks t p.Hwclr;
  swwe = asks t p.Swwe;
  swwel = asks t p.Swwel;
  incr = counts_by_itself t || asks t p.Incr;
  decr = asks t p.Decr;
}

-- ---- its outputs: its value where hardware may read it; which field shows a register's interrupt hangs on its other fields

abbrev pub shown_at : Trail → Shown
shown_at t = record {
  value = (hw_at t).reads;
  swmod = in_effect t p.Swmod;
  swacc = in_effect t p.Swacc;
  anded = in_effect t p.Anded;
  ored = in_effect t p.Ored;
  xored = in_effect t p.Xored;
  overflow = in_effect t p.Overflow;
  underflow = in_effect t p.Underflow;
  intr = false;
}
