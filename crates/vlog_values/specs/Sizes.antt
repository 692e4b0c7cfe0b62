-- The bits that a context takes.
use Rattle.std.specs.Prelude.{ℕ, Option, Some, None}
use Rattle.vlog_values.specs.declared.facts.Shape.{Shape}

abbrev pub size_in : Option Shape → ℕ
size_in None = 0
size_in (Some shape) = shape.size
