-- The field step: what one edge makes of one field, by its bits and by the two sides, software and
-- hardware (SystemRDL 2.0, clause 9, software access, hardware access, counter and interrupt
-- properties). Every expression reads the values before the edge and the inputs at the edge.
use Rattle.std.specs.Prelude.{ℕ, ◌+◌, ◌/◌, Bool, true, false, not, ◌==◌, ◌||◌, ◌&&◌, List, Option, if◌then◌else◌, slice_index, is_some, unwrap_or}
use Rattle.field_policies.specs.declared.field.Field.{Field}
use Rattle.field_policies.specs.declared.policy.ReadEffect.{ReadEffect}
use Rattle.field_policies.specs.declared.policy.ReadEffect.TheVariants as read
use Rattle.field_policies.specs.declared.policy.WriteEffect.{WriteEffect}
use Rattle.field_policies.specs.declared.policy.WriteEffect.TheVariants as write
use Rattle.field_policies.specs.declared.signal.Gate.{Gate}
use Rattle.field_policies.specs.declared.signal.HwExpr.{HwExpr}
use Rattle.field_policies.specs.declared.extra.Extra.{Extra}
use Rattle.field_policies.specs.declared.extra.Extra.TheVariants as extra
use Rattle.field_policies.specs.declared.extra.Counter.{Counter}
use Rattle.field_policies.specs.declared.extra.Intr.{Intr}
use Rattle.field_policies.specs.Bits.{bit, any_below, all_below}
use Rattle.field_policies.specs.Policies.{write_bit, read_bit}
use Rattle.field_policies.specs.Expressions.{input_value, is_given, is_open}
use Rattle.field_extras.specs.Counters.{counted}
use Rattle.field_extras.specs.Interrupts.{interrupt_result}
use Rattle.field_extras.specs.declared.counter.Counted.{Counted}
use Rattle.apb_rules.specs.declared.event.BusEvent.{BusEvent}
use Rattle.apb_rules.specs.declared.event.BusEvent.TheVariants.{Read, Write}

-- what expressions read: the fields, their values before the edge, and the hardware inputs at the edge
pub record View : Type 0 where
  pub fields : List Field
  pub values : List ℕ
  pub hw : List ℕ

-- what a step looks at: that, the addresses of the bus words, and the bus event
pub record Edge : Type 0 where
  pub view : View
  pub words : List ℕ
  pub event : BusEvent

abbrev pub opens : View → Option Gate → ℕ → Bool
opens w g i = is_open w.fields w.values w.hw g i

abbrev pub gives : View → Option HwExpr → Bool
gives w x = is_given w.fields w.values w.hw x

abbrev pub is_read_of : BusEvent → ℕ → Bool
is_read_of (Read a) address = a == address
is_read_of _ address = false

abbrev pub is_write_of : BusEvent → ℕ → Bool
is_write_of (Write a payload strobe) address = a == address
is_write_of _ address = false

abbrev pub payload_of : BusEvent → ℕ
payload_of (Write a payload strobe) = payload
payload_of _ = 0

abbrev pub strobe_of : BusEvent → ℕ
strobe_of (Write a payload strobe) = strobe
strobe_of _ = 0

-- the event reads, and writes, the word of the field
abbrev pub reads : Edge → Field → Bool
reads e f = is_read_of e.event (slice_index e.words f.word)

abbrev pub writes : Edge → Field → Bool
writes e f = is_write_of e.event (slice_index e.words f.word)

-- bit i of the field is written: the strobe bit of its byte in the bus word is 1
abbrev pub is_enabled : Edge → Field → ℕ → Bool
is_enabled e f i = writes e f && bit (strobe_of e.event) ((f.lsb + i) / 8)

-- some bit of the field is written; every bit is
abbrev pub is_touched : Edge → Field → Bool
is_touched e f = any_below f.width (is_enabled e f)

abbrev pub is_covered : Edge → Field → Bool
is_covered e f = all_below f.width (is_enabled e f)

-- software is active by a write: it may write the field, and its first write is still to come where only that counts
unfoldable pub is_written : Edge → Field → Bool → Bool
is_written e f used = is_touched e f && f.writable && opens e.view f.sw_gate 0 && not (f.once && used)

abbrev pub has_effect : ReadEffect → Bool
has_effect read.Keep = false
has_effect _ = true

-- software is active by a read: the read does something to the field
unfoldable pub is_read : Edge → Field → Bool
is_read e f = reads e f && f.readable && has_effect f.read

unfoldable pub is_software_active : Edge → Field → Bool → Bool
is_software_active e f used = is_written e f used || is_read e f

-- what software makes of bit i: a write its effect on the enabled bits, a read its effect
unfoldable pub software_bit : Edge → Field → Bool → ℕ → ℕ → Bool
software_bit e f used v i = if is_written e f used
    then (if is_enabled e f i then write_bit f.write (bit v i) (bit (payload_of e.event) (f.lsb + i)) else bit v i)
    else read_bit f.read (bit v i)

-- one side of a field at an edge: whether it is active, and the bits that it gives
pub record Side : Type 0 where
  pub active : Bool
  pub bits : ℕ → Bool

-- the data is taken: there is a data input, and `we` or `wel` lets it in
unfoldable pub is_taken : View → Field → Bool
is_taken w f = is_some f.data_in && opens w f.data_gate 0

abbrev pub is_set : View → Field → Bool
is_set w f = gives w f.set

abbrev pub is_cleared : View → Field → Bool
is_cleared w f = gives w f.clear

-- then ones where `hwset` is 1, then 0 where `hwclr` is 1
abbrev pub overridden : View → Field → Bool → Bool
overridden w f b = if is_cleared w f then false else (if is_set w f then true else b)

-- a plain field takes its data
abbrev pub plain_side : View → Field → ℕ → Side
plain_side w f v = record {
  active = is_taken w f || is_set w f || is_cleared w f;
  bits = λ i. overridden w f (if is_taken w f then bit (input_value w.hw f.data_in) i else bit v i);
}

-- a counter's step at this edge
unfoldable pub count_of : View → Field → Counter → ℕ → Counted
count_of w f c v = counted c f.width v (gives w c.incr) (gives w c.decr)

-- a counter takes its count
abbrev pub counter_side : View → Field → Counter → ℕ → Side
counter_side w f c v = record {
  active = gives w c.incr || gives w c.decr || is_set w f || is_cleared w f;
  bits = λ i. overridden w f (bit (count_of w f c v).value i);
}

-- an interrupt field takes what the interrupt step gives
abbrev pub interrupt_side : View → Field → Intr → ℕ → Side
interrupt_side w f n v = record {
  active = is_some (interrupt_result n.sticky v (input_value w.hw f.data_in));
  bits = bit (unwrap_or (interrupt_result n.sticky v (input_value w.hw f.data_in)) v);
}

abbrev pub side_of : View → Field → ℕ → Extra → Side
side_of w f v extra.Plain = plain_side w f v
side_of w f v (extra.Counter c) = counter_side w f c v
side_of w f v (extra.Intr n) = interrupt_side w f n v

unfoldable pub is_hardware_active : View → Field → ℕ → Bool
is_hardware_active w f v = (side_of w f v f.extra).active

-- what hardware makes of bit i: a bit that `hwenable` or `hwmask` shuts stays
unfoldable pub hardware_bit : View → Field → ℕ → ℕ → Bool
hardware_bit w f v i = if opens w f.bit_gate i then (side_of w f v f.extra).bits i else bit v i

-- the side that gives the whole field: where both are active, the one that `precedence` names
unfoldable pub software_gives : Edge → Field → Bool → ℕ → Bool
software_gives e f used v = is_software_active e f used && not (f.hw_first && is_hardware_active e.view f v)

unfoldable pub hardware_gives : Edge → Field → Bool → ℕ → Bool
hardware_gives e f used v = is_hardware_active e.view f v && (f.hw_first || not (is_software_active e f used))

-- bit i of a stored field after the edge, by its value and its used flag before; where neither side
-- is active it stays, and a single pulse falls
unfoldable pub next_bit : Edge → Field → Bool → ℕ → ℕ → Bool
next_bit e f used v i = if software_gives e f used v then software_bit e f used v i
    else (if hardware_gives e f used v then hardware_bit e.view f v i else (not f.pulse && bit v i))

-- a once field is used up by its first write
unfoldable pub next_used : Edge → Field → Bool → Bool
next_used e f used = used || (f.once && is_written e f used)

-- the effect gives every bit it writes, whatever its value was
abbrev pub is_whole : WriteEffect → Bool
is_whole write.AsIs = true
is_whole write.Clear = true
is_whole write.Set = true
is_whole _ = false

-- the field's value is known from this edge on: software gave every bit, or hardware did, or a single pulse fell
unfoldable pub becomes_known : Edge → Field → Bool → ℕ → Bool
becomes_known e f used v = (software_gives e f used v && (not (is_written e f used) || (is_whole f.write && is_covered e f)))
    || (hardware_gives e f used v && (is_taken e.view f || is_set e.view f || is_cleared e.view f) && not (is_some f.bit_gate))
    || (not (is_software_active e f used) && not (is_hardware_active e.view f v) && f.pulse)

unfoldable pub next_known : Edge → Field → Bool → Bool → ℕ → Bool
next_known e f used known v = known || becomes_known e f used v
