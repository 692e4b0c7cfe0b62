-- Words on lists and options.
use Rattle.std.specs.Prelude.{Option, Some, None}

-- the first that is there
abbrev pub or_else : {A : Type 0} → Option A → Option A → Option A
or_else None other = other
or_else (Some x) other = Some x
