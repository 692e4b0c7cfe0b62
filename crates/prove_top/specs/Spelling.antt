-- How an expression of the first form is spelled (IEEE 1364-2005, annex A.8: concatenations, numbers and
-- operators).
use Rattle.std.specs.Prelude.{◌≡◌, ℕ, suc, ◌≤◌, max, nat_le, ◌&&◌, ◌||◌, Bool, true, List, [], ◌∷◌, ◌++◌, length, codes}
use Rattle.trace_replay.specs.declared.expression.Wire.{Wire}
use Rattle.trace_replay.specs.declared.expression.Wire.TheVariants.{ResetN, Select, Enable, Write, Address0, Address1}
use Rattle.trace_replay.specs.declared.expression.Operator.{Operator}
use Rattle.trace_replay.specs.declared.expression.Operator.TheVariants.{And, Or, Xor}
use Rattle.trace_replay.specs.declared.expression.Expression.{Expression}
use Rattle.trace_replay.specs.declared.expression.Expression.TheOpen.{Expression-F}
use Rattle.trace_replay.specs.declared.expression.Expression.TheFolds.{fold-Expression}
use Rattle.prove_top.specs.declared.expressions.TheConstants.{NEST_LIMIT, LENGTH_LIMIT}

-- a wire, and an operator between two blanks
abbrev pub wire_text : Wire → List ℕ
wire_text ResetN = codes "rst_n"
wire_text Select = codes "psel"
wire_text Enable = codes "penable"
wire_text Write = codes "pwrite"
wire_text Address0 = codes "paddr[0]"
wire_text Address1 = codes "paddr[1]"

abbrev pub operator_text : Operator → List ℕ
operator_text And = codes " & "
operator_text Or = codes " | "
operator_text Xor = codes " ^ "

-- the text of an expression
abbrev pub spelling_layer : Expression-F (List ℕ) → List ℕ
spelling_layer Expression-F.Register = codes "v"
spelling_layer Expression-F.WriteData = codes "pwdata"
spelling_layer (Expression-F.Repeated wire) = codes "{8{" ++ (wire_text wire ++ codes "}}")
spelling_layer (Expression-F.Constant high low) = codes "8'h" ++ (high ∷ low ∷ [])
spelling_layer (Expression-F.Not inner) = codes "~" ++ inner
spelling_layer (Expression-F.Pair operator left right) = codes "(" ++ (left ++ (operator_text operator ++ (right ++ codes ")")))

unfoldable pub spelling : Expression → List ℕ
spelling = fold-Expression (List ℕ) spelling_layer

-- within how many others its innermost part lies
abbrev pub nest_layer : Expression-F ℕ → ℕ
nest_layer Expression-F.Register = 0
nest_layer Expression-F.WriteData = 0
nest_layer (Expression-F.Repeated wire) = 0
nest_layer (Expression-F.Constant high low) = 0
nest_layer (Expression-F.Not inner) = suc inner
nest_layer (Expression-F.Pair operator left right) = suc (max left right)

unfoldable pub nest : Expression → ℕ
nest = fold-Expression ℕ nest_layer

-- its digits are hexadecimal, in either case
abbrev pub is_digit : ℕ → Bool
is_digit byte = nat_le 0x30 byte && nat_le byte 0x39 || nat_le 0x41 byte && nat_le byte 0x46 || nat_le 0x61 byte && nat_le byte 0x66

abbrev pub digits_layer : Expression-F Bool → Bool
digits_layer Expression-F.Register = true
digits_layer Expression-F.WriteData = true
digits_layer (Expression-F.Repeated wire) = true
digits_layer (Expression-F.Constant high low) = is_digit high && is_digit low
digits_layer (Expression-F.Not inner) = inner
digits_layer (Expression-F.Pair operator left right) = left && right

unfoldable pub has_digits : Expression → Bool
has_digits = fold-Expression Bool digits_layer

-- an expression of the first form
pub record IsFirstForm (expression : Expression) : Type 0 where
  pub digits : has_digits expression ≡ true
  pub nested : nest expression ≤ NEST_LIMIT
  pub long : length (spelling expression) ≤ LENGTH_LIMIT
