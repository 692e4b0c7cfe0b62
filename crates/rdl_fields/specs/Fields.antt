-- A field of a description (SystemRDL 2.0, clause 9): its path, where it stands, and what its effective properties make of it.
-- A register wider than an access is several bus words, the lowest bits in the first.
use Rattle.std.specs.Prelude.{ℕ, ◌+◌, ◌*◌, ◌/◌, ◌%◌, ◌==◌, if◌then◌else◌}
use Rattle.rdl_values.specs.OneFrame.{Trail}
use Rattle.rdl_values.specs.Fields.{width_at}
use Rattle.rdl_fields.specs.declared.named.Spot.{Spot}
use Rattle.rdl_fields.specs.declared.named.NamedField.{NamedField}
use Rattle.rdl_fields.specs.Paths.{path_at}
use Rattle.rdl_fields.specs.Parts.{software_at, hardware_at, start_at, extra_at, inputs_at, shown_at}

-- the address of the bus word of a register's bit, and the bit's number there
abbrev pub word_of : ℕ → ℕ → ℕ → ℕ
word_of register access low = if access == 0 then register else register + access / 8 * (low / access)

abbrev pub bit_of : ℕ → ℕ → ℕ
bit_of access low = if access == 0 then low else low % access

abbrev pub spot_by : ℕ → ℕ → ℕ → ℕ → Spot
spot_by register access low width = record {
  register = register;
  word = word_of register access low;
  lsb = bit_of access low;
  width = width;
}

-- the field at the end of a trail, with this lowest bit in its register
abbrev pub field_at : ℕ → ℕ → ℕ → Trail → NamedField
field_at register access low t = record {
  path = path_at t;
  spot = spot_by register access low (width_at t);
  software = software_at t;
  hardware = hardware_at t;
  start = start_at t;
  extra = extra_at t;
  inputs = inputs_at t;
  shown = shown_at t;
}
