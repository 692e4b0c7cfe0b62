-- What a field's two sides are at an edge, as a step uses them.
use Rattle.std.specs.Prelude.{◌≡◌, ℕ, Bool}
use Rattle.field_policies.specs.declared.field.Field.{Field}
use Rattle.field_policies.specs.Bits.{AreBitsOf}
use Rattle.reg_machine.specs.declared.step.Turn.{Turn}
use Rattle.reg_machine.specs.Steps.{Edge, is_written, is_software_active, is_hardware_active, hardware_bit, software_gives, hardware_gives}

pub record IsTurnOf (e : Edge) (f : Field) (used : Bool) (v : ℕ) (t : Turn) : Type 0 where
  pub written : t.written ≡ is_written e f used
  pub software : t.software ≡ is_software_active e f used
  pub hardware : t.hardware.active ≡ is_hardware_active e.view f v
  pub bits : AreBitsOf f.width (hardware_bit e.view f v) t.hardware.value
  pub by_software : t.by_software ≡ software_gives e f used v
  pub by_hardware : t.by_hardware ≡ hardware_gives e f used v
