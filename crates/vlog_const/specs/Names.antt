-- Names and what they mean.
use Rattle.std.specs.Prelude.{◌≢◌, ◌≤◌, ℕ, List, [], Option, bytes_eq}
use Rattle.std.specs.Map.{lookup}
use Rattle.vlog_const.specs.declared.names.Named.{Named}
use Rattle.vlog_const.specs.declared.names.Named.TheVariants.{Constant, Signal}

-- what the name means
abbrev pub found : List ℕ → List (List ℕ × Named) → Option Named
found name scope = lookup (bytes_eq name) scope

-- a constant has at least one bit, and a net too
abbrev pub has_bits : Named → Type 0
has_bits (Constant value) = value.bits ≢ []
has_bits (Signal net shape lsb) = 1 ≤ shape.size
