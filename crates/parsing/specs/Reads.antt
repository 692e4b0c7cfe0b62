-- What a function that reads tokens ensures: it gives what the parser gives, unless memory fails.
use Rattle.std.specs.Prelude.{◌≡◌, List, Result, Ok, Err}
use Rattle.parsing.specs.declared.stop.Stop.{Stop}
use Rattle.parsing.specs.declared.stop.Stop.TheVariants as stop
use Rattle.parsing.specs.Parser.{Outcome, Refused, Sunk}

-- The outcome is that of the tokens that stood there before; `after` are those that stand there now.
abbrev pub Reads : {Tok A : Type 0} → Outcome Tok A → Result A Stop → List Tok → Type 0
Reads outcome (Ok a) after = outcome ≡ Ok (a, after)
Reads outcome (Err stop.Memory) after = Unit {0}
Reads outcome (Err stop.Refused) after = outcome ≡ Err (Refused after)
Reads outcome (Err stop.Sunk) after = outcome ≡ Err Sunk
