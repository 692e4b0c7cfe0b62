-- The reading of an expression from the front of a text: the expression and the text after it.
use Rattle.std.specs.Prelude.{◌≡◌, ℕ, zero, suc, ◌+◌, ◌-◌, nat_eq, nat_le, Bool, if◌then◌else◌, Option, Some, None, Result, Ok, Err, List, [], ◌∷◌, length, drop, codes, ⊤}
use Rattle.std.specs.List.{starts_with}
use Rattle.trace_replay.specs.declared.expression.Wire.{Wire}
use Rattle.trace_replay.specs.declared.expression.Wire.TheVariants.{ResetN, Select, Enable, Write, Address0, Address1}
use Rattle.trace_replay.specs.declared.expression.Operator.{Operator}
use Rattle.trace_replay.specs.declared.expression.Operator.TheVariants.{And, Or, Xor}
use Rattle.trace_replay.specs.declared.expression.Expression.{Expression}
use Rattle.trace_replay.specs.declared.expression.Expression.TheVariants as e
use Rattle.prove_top.specs.declared.cursor.Stop.{Stop}
use Rattle.prove_top.specs.declared.cursor.Stop.TheVariants.{NoMemory, Refused}
use Rattle.prove_top.specs.declared.expressions.TheConstants.{NEST_LIMIT, LENGTH_LIMIT}
use Rattle.prove_top.specs.Spelling.{wire_text, operator_text, is_digit}

-- what is read from the front, and the text after it
abbrev pub Read : Type 0 → Type 0
Read A = Option (A × List ℕ)

abbrev pub then_read : {A B : Type 0} → Read A → (A → List ℕ → Read B) → Read B
then_read None f = None
then_read (Some found) f = f found.0 found.1

-- whether a text begins with these bytes; a value where it does, and else another reading
abbrev pub begins : List ℕ → List ℕ → Bool
begins text bytes = starts_with nat_eq bytes text

abbrev pub past : List ℕ → List ℕ → List ℕ
past text bytes = drop (length text) bytes

abbrev pub marked : {A : Type 0} → List ℕ → A → List ℕ → Read A
marked text value bytes = if begins text bytes then Some (value, past text bytes) else None

-- a wire, and an operator
unfoldable pub wire_at : List ℕ → Read Wire
wire_at bytes =
    if begins (wire_text ResetN) bytes then Some (ResetN, past (wire_text ResetN) bytes)
    else if begins (wire_text Select) bytes then Some (Select, past (wire_text Select) bytes)
    else if begins (wire_text Enable) bytes then Some (Enable, past (wire_text Enable) bytes)
    else if begins (wire_text Write) bytes then Some (Write, past (wire_text Write) bytes)
    else if begins (wire_text Address0) bytes then Some (Address0, past (wire_text Address0) bytes)
    else if begins (wire_text Address1) bytes then Some (Address1, past (wire_text Address1) bytes)
    else None

unfoldable pub operator_at : List ℕ → Read Operator
operator_at bytes =
    if begins (operator_text And) bytes then Some (And, past (operator_text And) bytes)
    else if begins (operator_text Or) bytes then Some (Or, past (operator_text Or) bytes)
    else if begins (operator_text Xor) bytes then Some (Xor, past (operator_text Xor) bytes)
    else None

-- what follows `{8{` and `8'h`
unfoldable pub repeated_at : List ℕ → Read Expression
repeated_at bytes = then_read (wire_at bytes) (λ wire rest. marked (codes "}}") (e.Repeated wire) rest)

unfoldable pub digit_at : List ℕ → Read ℕ
digit_at [] = None
digit_at (byte ∷ rest) = if is_digit byte then Some (byte, rest) else None

unfoldable pub constant_at : List ℕ → Read Expression
constant_at bytes = then_read (digit_at bytes) (λ high rest. then_read (digit_at rest) (λ low after. Some (e.Constant high low, after)))

module _ (inner : List ℕ → Read Expression) where
  -- what follows `~` and `(`
  unfoldable pub inverse_at : List ℕ → Read Expression
  inverse_at bytes = then_read (inner bytes) (λ part rest. Some (e.Not part, rest))

  unfoldable pub pair_at : List ℕ → Read Expression
  pair_at bytes =
      then_read (inner bytes) (λ left r1. then_read (operator_at r1) (λ operator r2. then_read (inner r2) (λ right r3.
      marked (codes ")") (e.Pair operator left right) r3)))

  -- an expression, whose parts are read by `inner`
  unfoldable pub form_at : List ℕ → Read Expression
  form_at bytes =
      if begins (codes "v") bytes then Some (e.Register, past (codes "v") bytes)
      else if begins (codes "pwdata") bytes then Some (e.WriteData, past (codes "pwdata") bytes)
      else if begins (codes "{8{") bytes then repeated_at (past (codes "{8{") bytes)
      else if begins (codes "8'h") bytes then constant_at (past (codes "8'h") bytes)
      else if begins (codes "~") bytes then inverse_at (past (codes "~") bytes)
      else if begins (codes "(") bytes then pair_at (past (codes "(") bytes)
      else None

-- an expression within so much room
unfoldable pub expression_at : ℕ → List ℕ → Read Expression
expression_at zero bytes = None
expression_at (suc room) bytes = form_at (expression_at room) bytes

-- one of the first form: it lies within so many others at most, and has so many bytes at most
unfoldable pub limited_at : List ℕ → Read Expression
limited_at bytes =
    then_read (expression_at (NEST_LIMIT + 1) bytes) (λ read rest.
    if nat_le (length bytes - length rest) LENGTH_LIMIT then Some (read, rest) else None)

-- what a function that reads from a cursor tells
abbrev pub Reads : {A : Type 0} → Read A → Result A Stop → List ℕ → Type 0
Reads read (Ok value) rest = read ≡ Some (value, rest)
Reads read (Err NoMemory) rest = ⊤
Reads read (Err Refused) rest = read ≡ None
