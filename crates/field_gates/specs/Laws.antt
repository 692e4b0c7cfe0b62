-- The law that the field step by bits is the register machine's.
use Rattle.std.specs.Prelude.{◌≡◌, ℕ, ◌+◌, Bool, ◌||◌, List, map}
use Rattle.std.specs.List.{range_with_len}
use Rattle.field_policies.specs.declared.field.Field.{Field}
use Rattle.field_policies.specs.Bits.{bit}
use Rattle.reg_machine.specs.Steps as machine
use Rattle.reg_machine.specs.Steps.{Edge}
use Rattle.field_gates.specs.FieldStep.{Seen, is_software, next_word, next_used, next_known}

-- one for each place of the field
abbrev pub places : Field → (ℕ → Bool) → List Bool
places f bits = map bits (range_with_len 0 f.width)

-- what is seen is what the register machine sees of the field at the edge, where its value is v
pub record Sees (e : Edge) (f : Field) (v : ℕ) (s : Seen) : Type 0 where
  pub reads : s.reads ≡ machine.reads e f
  pub allowed : s.allowed ≡ machine.opens e.view f.sw_gate 0
  pub active : s.active ≡ machine.is_hardware_active e.view f v
  pub whole : s.whole ≡ (machine.is_taken e.view f || machine.is_set e.view f || machine.is_cleared e.view f)
  pub enabled : s.enabled ≡ places f (machine.is_enabled e f)
  pub payload : s.payload ≡ places f (λ i. bit (machine.payload_of e.event) (f.lsb + i))
  pub value : s.value ≡ places f (bit v)
  pub side : s.side ≡ places f (machine.side_of e.view f v f.extra).bits
  pub opened : s.opened ≡ places f (machine.opens e.view f.bit_gate)

-- then the step by bits gives what the register machine gives
pub record IsMachines (e : Edge) (f : Field) (v : ℕ) (s : Seen) : Type 0 where
  pub software : is_software f s ≡ machine.is_software_active e f s.used
  pub bits : next_word f s ≡ places f (machine.next_bit e f s.used v)
  pub used : next_used f s ≡ machine.next_used e f s.used
  pub known : next_known f s ≡ machine.next_known e f s.used s.known v

abbrev pub FieldStepIsMachines : Type 0
FieldStepIsMachines = (e : Edge) (f : Field) (v : ℕ) (s : Seen) → Sees e f v s → IsMachines e f v s
