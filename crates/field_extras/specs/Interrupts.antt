-- The interrupt step (SystemRDL 2.0, clause 9, interrupt properties).
use Rattle.std.specs.Prelude.{◌≡◌, ◌≢◌, ℕ, ◌-◌, ◌^◌, Bool, true, not, ◌&&◌, ◌||◌, ◌==◌, if◌then◌else◌, Option, None, Some, bit_and, bit_or}
use Rattle.field_policies.specs.declared.signal.Gate.{Gate}

-- hardware is active where the data isn't 0, and in a sticky field only where the value is 0
abbrev pub IsActive : Bool → ℕ → ℕ → Type 0
IsActive sticky value payload = (payload ≢ 0) × (sticky ≡ true → value ≡ 0)

-- the same as a test
abbrev pub is_active : Bool → ℕ → ℕ → Bool
is_active sticky value payload = not (payload == 0) && (not sticky || value == 0)

-- its result: the data beside what was there, in a sticky field the data alone
abbrev pub interrupt_result : Bool → ℕ → ℕ → Option ℕ
interrupt_result sticky value payload =
    if is_active sticky value payload then Some (if sticky then payload else bit_or value payload) else None

-- the field's bits: the value, cut by `enable`, or by the inverse of `mask`
abbrev pub interrupt_bits : Option Gate → ℕ → ℕ → ℕ → ℕ
interrupt_bits None width value filter = value
interrupt_bits (Some gate) width value filter =
    bit_and value (if gate.high then filter else 2 ^ width - 1 - filter)
