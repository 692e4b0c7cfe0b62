-- The numbers of fields in a list of them, and what a property is given, by such numbers.
use Rattle.std.specs.Prelude.{ℕ, Bool, List, Option, bytes_eq}
use Rattle.std.specs.List.{position}
use Rattle.std.specs.Option.{option_map}
use Rattle.field_policies.specs.declared.signal.HwExpr.{HwExpr}
use Rattle.field_policies.specs.declared.signal.HwExpr.TheVariants as expr
use Rattle.field_policies.specs.declared.signal.Gate.{Gate}
use Rattle.rdl_fields.specs.declared.named.NamedExpr.{NamedExpr}
use Rattle.rdl_fields.specs.declared.named.NamedExpr.TheVariants as named
use Rattle.rdl_fields.specs.declared.named.NamedGate.{NamedGate}
use Rattle.rdl_fields.specs.declared.named.NamedField.{NamedField}

abbrev pub has_path : List ℕ → NamedField → Bool
has_path path f = bytes_eq f.path path

-- the number of the first field with this path
abbrev pub number_of : List NamedField → List ℕ → Option ℕ
number_of fields path = position (has_path path) fields

-- what a property is given, with this number of the field's own input for it; none where what is named isn't there
abbrev pub numbered : List NamedField → Option ℕ → NamedExpr → Option HwExpr
numbered fields input named.Input = option_map expr.Input input
numbered fields input (named.Value path) = option_map expr.Value (number_of fields path)
numbered fields input (named.Anded path) = option_map expr.Anded (number_of fields path)
numbered fields input (named.Ored path) = option_map expr.Ored (number_of fields path)
numbered fields input (named.Xored path) = option_map expr.Xored (number_of fields path)

abbrev pub numbered_gate : List NamedField → Option ℕ → NamedGate → Option Gate
numbered_gate fields input g = option_map (λ e. record { expr = e; high = g.high }) (numbered fields input g.expr)
