-- The register machine: its answer to a bus event and its outputs.
use Rattle.std.specs.Prelude.{ℕ, ◌+◌, ◌-◌, Bool, true, false, not, ◌==◌, ◌||◌, ◌&&◌, nat_le, nat_lt, List, Option, Some, None, length, slice_get, slice_index_or}
use Rattle.std.specs.Option.{option_map_or}
use Rattle.std.specs.List.{list_any}
use Rattle.field_policies.specs.declared.field.Field.{Field}
use Rattle.field_policies.specs.declared.signal.Gate.{Gate}
use Rattle.field_policies.specs.declared.signal.OutSignal.{OutSignal}
use Rattle.field_policies.specs.declared.signal.OutSignal.TheVariants as out
use Rattle.field_policies.specs.declared.extra.Extra.{Extra}
use Rattle.field_policies.specs.declared.extra.Extra.TheVariants as extra
use Rattle.field_policies.specs.Bits.{bit, any_below, all_below, odd_below}
use Rattle.field_policies.specs.Fields.{filter_of, members_of}
use Rattle.field_policies.specs.Expressions.{expr_value, value_of, one_if, shows}
use Rattle.field_extras.specs.Interrupts.{interrupt_bits}
use Rattle.apb_rules.specs.declared.event.BusEvent.{BusEvent}
use Rattle.apb_rules.specs.declared.event.BusEvent.TheVariants.{Nothing, Read, Write}
use Rattle.reg_machine.specs.Steps.{View, Edge, reads, is_touched, is_software_active, count_of}

-- bit j of the bus word is one of the field's
abbrev pub has_bit : Field → ℕ → Bool
has_bit f j = nat_le f.lsb j && nat_lt j (f.lsb + f.width)

-- the event reads the field at bit j of the bus word
abbrev pub is_read_at : Edge → Field → ℕ → Bool
is_read_at e f j = reads e f && f.readable && has_bit f j

-- the field of this number shows a 1 there
abbrev pub shows_one : Edge → List Bool → ℕ → ℕ → Bool
shows_one e known j n = option_map_or (λ f. is_read_at e f j && slice_index_or known n false && bit (value_of e.view.values e.view.hw n f) (j - f.lsb)) (slice_get e.view.fields n) false

-- the field of this number isn't known, and the event reads it there
abbrev pub hides : Edge → List Bool → ℕ → ℕ → Bool
hides e known j n = option_map_or (λ f. is_read_at e f j && not (slice_index_or known n false)) (slice_get e.view.fields n) false

-- bit j of the answer's data: 1 where a field that is read shows a 1 there, and 0 elsewhere
unfoldable pub answer_bit : Edge → List Bool → ℕ → Bool
answer_bit e known j = any_below (length e.view.fields) (shows_one e known j)

-- bit j belongs to a field that is read and not known
unfoldable pub hidden_bit : Edge → List Bool → ℕ → Bool
hidden_bit e known j = any_below (length e.view.fields) (hides e known j)

-- all the others count
unfoldable pub counts_bit : Edge → List Bool → ℕ → Bool
counts_bit e known j = not (hidden_bit e known j)

-- the event is at an address that no word has
abbrev pub is_unmapped : BusEvent → List ℕ → Bool
is_unmapped Nothing words = false
is_unmapped (Read a) words = not (list_any (λ w. w == a) words)
is_unmapped (Write a payload strobe) words = not (list_any (λ w. w == a) words)

-- the number that cuts the bits of an interrupt field
abbrev pub filter_value : View → Option Gate → ℕ
filter_value w None = 0
filter_value w (Some g) = expr_value w.fields w.values w.hw g.expr

-- the interrupt field of this number raises the interrupt of its register
unfoldable pub raises : View → ℕ → Bool
raises w n = option_map_or (λ f. not (interrupt_bits (filter_of f.extra) f.width (value_of w.values w.hw n f) (filter_value w (filter_of f.extra)) == 0)) (slice_get w.fields n) false

abbrev pub overflow_of : View → Field → ℕ → Extra → Bool
overflow_of w f v (extra.Counter c) = (count_of w f c v).over
overflow_of w f v _ = false

abbrev pub underflow_of : View → Field → ℕ → Extra → Bool
underflow_of w f v (extra.Counter c) = (count_of w f c v).under
underflow_of w f v _ = false

-- software is at the field: it reads a readable one, or writes at least one bit of a writable one
unfoldable pub is_accessed : Edge → Field → Bool
is_accessed e f = (reads e f && f.readable) || (is_touched e f && f.writable)

-- what a field with this number, value and used flag gives at an output
abbrev pub field_output : Edge → Field → ℕ → Bool → OutSignal → ℕ
field_output e f v used out.Value = v
field_output e f v used out.SwMod = one_if (is_software_active e f used)
field_output e f v used out.SwAcc = one_if (is_accessed e f)
field_output e f v used out.Anded = one_if (all_below f.width (bit v))
field_output e f v used out.Ored = one_if (any_below f.width (bit v))
field_output e f v used out.Xored = one_if (odd_below f.width (bit v))
field_output e f v used out.Overflow = one_if (overflow_of e.view f v f.extra)
field_output e f v used out.Underflow = one_if (underflow_of e.view f v f.extra)
field_output e f v used out.Intr = one_if (list_any (raises e.view) (members_of f.extra))

-- what the field of this number gives at an output
abbrev pub output_of : Edge → List Bool → ℕ → OutSignal → ℕ
output_of e used n signal = option_map_or (λ f. field_output e f (value_of e.view.values e.view.hw n f) (slice_index_or used n false) signal) (slice_get e.view.fields n) 0

-- the field of this number is there, and shows the output
abbrev pub is_shown : List Field → ℕ → OutSignal → Bool
is_shown fields n signal = option_map_or (λ f. shows f.shown signal) (slice_get fields n) false

-- the bits of an output: a value has its field's, each other output has one
abbrev pub output_width : Field → OutSignal → ℕ
output_width f out.Value = f.width
output_width f _ = 1

-- an output that shows the field's value, which may not be known
abbrev pub always_counts : OutSignal → Bool
always_counts out.SwMod = true
always_counts out.SwAcc = true
always_counts _ = false
