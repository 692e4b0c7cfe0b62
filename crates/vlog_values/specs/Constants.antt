-- Constants: expressions of which no net and no unknown digit is a part.
use Rattle.std.specs.Prelude.{Bool, true, List, Option}
use Rattle.vlog_values.specs.declared.facts.Shape.{Shape}
use Rattle.vlog_values.specs.declared.sized.SizedExpr.{SizedExpr}
use Rattle.vlog_values.specs.Steps.{Outcome}
use Rattle.vlog_values.specs.Places.{no_values}
use Rattle.vlog_values.specs.Outcomes.{Site, Reading, reading_of}

-- where a constant is asked for
abbrev pub constant_site : Option Shape → Site
constant_site context = record { constant = true; context = context }

-- what a constant comes to in its context: no net has a true bit
abbrev pub constant_in : Option Shape → SizedExpr → Outcome (List Bool)
constant_in context e = (reading_of e).comes_to no_values (constant_site context)

-- an expression as its parts are seen by what stands on it
abbrev pub read : SizedExpr → Reading
read e = record { facts = e.facts; comes_to = (reading_of e).comes_to }
