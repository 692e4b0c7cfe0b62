-- What the properties of a field are given, other fields and inputs by their numbers: none where what is named isn't there.
use Rattle.std.specs.Prelude.{ℕ, Bool, ◌==◌, nat_lt, if◌then◌else◌, List, Option, Some, None}
use Rattle.std.specs.List.{position}
use Rattle.std.specs.Option.{option_map}
use Rattle.field_policies.specs.declared.signal.HwExpr.{HwExpr}
use Rattle.field_policies.specs.declared.signal.Gate.{Gate}
use Rattle.rdl_fields.specs.declared.named.NamedExpr.{NamedExpr}
use Rattle.rdl_fields.specs.declared.named.NamedGate.{NamedGate}
use Rattle.rdl_fields.specs.declared.named.NamedField.{NamedField}
use Rattle.rdl_numbers.specs.Numbers.{numbered, numbered_gate}

abbrev pub given_expr : List NamedField → Option ℕ → Option NamedExpr → Option (Option HwExpr)
given_expr fields input None = Some None
given_expr fields input (Some e) = option_map Some (numbered fields input e)

-- the input is that of the property that the gate comes from
abbrev pub given_gate : List NamedField → Option ℕ → Option ℕ → Option NamedGate → Option (Option Gate)
given_gate fields high low None = Some None
given_gate fields high low (Some g) = option_map Some (numbered_gate fields (if g.high then high else low) g)

-- the number of the bus word at an address
abbrev pub is_at : ℕ → ℕ → Bool
is_at address word = word == address

abbrev pub word_number : List ℕ → ℕ → Option ℕ
word_number words address = position (is_at address) words

-- a number of 32 bits
abbrev pub small : ℕ → Option ℕ
small n = if nat_lt n 4294967296 then Some n else None
