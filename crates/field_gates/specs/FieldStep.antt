-- The field step by bits: the same step as that of the register machine, over what gates see of an edge (SystemRDL 2.0,
-- clause 9, software access and hardware access properties). Lists have one bit for each place of the field, least first.
use Rattle.std.specs.Prelude.{Bool, not, ◌&&◌, ◌||◌, if◌then◌else◌, List, map, is_some}
use Rattle.bit_base.specs.Operators.{each_place, picked, is_any, are_all}
use Rattle.field_policies.specs.declared.field.Field.{Field}
use Rattle.field_policies.specs.Policies.{write_bit, read_bit}
use Rattle.reg_machine.specs.Steps.{has_effect, is_whole}

-- what the step looks at
pub record Seen : Type 0 where
  -- the bus event reads the field's word
  pub reads : Bool
  -- `swwe` or `swwel` lets software write
  pub allowed : Bool
  -- the first write is used up, and the value is known
  pub used : Bool
  pub known : Bool
  -- hardware is active, and gives every bit by its data, `hwset` or `hwclr`
  pub active : Bool
  pub whole : Bool
  -- whether the bit is written, the written bit, and the bit itself
  pub enabled : List Bool
  pub payload : List Bool
  pub value : List Bool
  -- what hardware makes of the bit, and whether `hwenable` or `hwmask` lets it
  pub side : List Bool
  pub opened : List Bool

-- software is active, by a write or by a read
abbrev pub is_written : Field → Seen → Bool
is_written f s = is_any s.enabled && f.writable && s.allowed && not (f.once && s.used)

abbrev pub is_read : Field → Seen → Bool
is_read f s = s.reads && f.readable && has_effect f.read

abbrev pub is_software : Field → Seen → Bool
is_software f s = is_written f s || is_read f s

-- the side that gives the whole field
abbrev pub by_software : Field → Seen → Bool
by_software f s = is_software f s && not (f.hw_first && s.active)

abbrev pub by_hardware : Field → Seen → Bool
by_hardware f s = s.active && (f.hw_first || not (is_software f s))

-- what each side makes of the bits, and what becomes of them where neither side is active
abbrev pub software_word : Field → Seen → List Bool
software_word f s =
    if is_written f s then picked (each_place (write_bit f.write) s.value s.payload) s.value s.enabled else map (read_bit f.read) s.value

abbrev pub hardware_word : Seen → List Bool
hardware_word s = picked s.side s.value s.opened

abbrev pub resting_word : Field → Seen → List Bool
resting_word f s = map (λ x. not f.pulse && x) s.value

-- the bits and the flags after the edge
unfoldable pub next_word : Field → Seen → List Bool
next_word f s = if by_software f s then software_word f s else (if by_hardware f s then hardware_word s else resting_word f s)

unfoldable pub next_used : Field → Seen → Bool
next_used f s = s.used || (f.once && is_written f s)

abbrev pub becomes_known : Field → Seen → Bool
becomes_known f s =
    (by_software f s && (not (is_written f s) || (is_whole f.write && are_all s.enabled)))
    || (by_hardware f s && s.whole && not (is_some f.bit_gate))
    || (not (is_software f s) && not s.active && f.pulse)

unfoldable pub next_known : Field → Seen → Bool
next_known f s = s.known || becomes_known f s
