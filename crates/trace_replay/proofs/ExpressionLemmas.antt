-- The value of each form of expression, of the values of its parts.
use Rattle.std.proofs.Common.{◌≡◌, ℕ, ◌+◌, ◌-◌, ◌*◌, ◌%◌, if◌then◌else◌, sym, ◌∙◌, ap}
use Rattle.trace_replay.specs.declared.pins.Pins.{Pins}
use Rattle.trace_replay.specs.declared.expression.Wire.{Wire}
use Rattle.trace_replay.specs.declared.expression.Operator.{Operator}
use Rattle.trace_replay.specs.declared.expression.Expression.{Expression}
use Rattle.trace_replay.specs.declared.expression.Expression.TheVariants as e
use Rattle.trace_replay.specs.declared.expression.Expression.TheOpen.{Expression-F}
use Rattle.trace_replay.specs.declared.expression.Expression.TheFolds.{fold-Expression, fold-roll-Expression}
use Rattle.trace_replay.specs.Expression.{expression_value, value_layer, wire_value, digit_value, combined}

module _ (pins : Pins) (register : ℕ) where
  pub value-Register : expression_value e.Register pins register ≡ register
  unfolding expression_value
  value-Register = ap (fold-Expression ℕ (value_layer pins register)) (sym e.rolls-Register) ∙ fold-roll-Expression ℕ (value_layer pins register) Expression-F.Register

  pub value-WriteData : expression_value e.WriteData pins register ≡ pins.bus.payload % 256
  unfolding expression_value
  value-WriteData = ap (fold-Expression ℕ (value_layer pins register)) (sym e.rolls-WriteData) ∙ fold-roll-Expression ℕ (value_layer pins register) Expression-F.WriteData

  pub value-Repeated : (wire : Wire) → expression_value (e.Repeated wire) pins register ≡ (if wire_value wire pins then 255 else 0)
  unfolding expression_value
  value-Repeated wire = ap (fold-Expression ℕ (value_layer pins register)) (sym (e.rolls-Repeated wire)) ∙ fold-roll-Expression ℕ (value_layer pins register) (Expression-F.Repeated wire)

  pub value-Constant : (high low : ℕ) → expression_value (e.Constant high low) pins register ≡ 16 * digit_value high + digit_value low
  unfolding expression_value
  value-Constant high low = ap (fold-Expression ℕ (value_layer pins register)) (sym (e.rolls-Constant high low)) ∙ fold-roll-Expression ℕ (value_layer pins register) (Expression-F.Constant high low)

  pub value-Not : (inner : Expression) → expression_value (e.Not inner) pins register ≡ 255 - expression_value inner pins register
  unfolding expression_value
  value-Not inner = ap (fold-Expression ℕ (value_layer pins register)) (sym (e.rolls-Not inner)) ∙ fold-roll-Expression ℕ (value_layer pins register) (Expression-F.Not inner)

  pub value-Pair : (operator : Operator) (left right : Expression)
      → expression_value (e.Pair operator left right) pins register ≡ combined operator (expression_value left pins register) (expression_value right pins register)
  unfolding expression_value
  value-Pair operator left right = ap (fold-Expression ℕ (value_layer pins register)) (sym (e.rolls-Pair operator left right)) ∙ fold-roll-Expression ℕ (value_layer pins register) (Expression-F.Pair operator left right)
