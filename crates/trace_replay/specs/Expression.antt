-- The value of an expression of eight bits (IEEE 1364-2005, clause 5: operands and operators on vectors;
-- 3.5.1: numbers).
use Rattle.std.specs.Prelude.{ℕ, ◌+◌, ◌-◌, ◌*◌, ◌/◌, ◌%◌, ◌==◌, nat_le, ◌&&◌, Bool, if◌then◌else◌, bit_and, bit_or, bit_xor}
use Rattle.trace_replay.specs.declared.pins.Pins.{Pins}
use Rattle.trace_replay.specs.declared.expression.Wire.{Wire}
use Rattle.trace_replay.specs.declared.expression.Wire.TheVariants.{ResetN, Select, Enable, Write, Address0, Address1}
use Rattle.trace_replay.specs.declared.expression.Operator.{Operator}
use Rattle.trace_replay.specs.declared.expression.Operator.TheVariants.{And, Or, Xor}
use Rattle.trace_replay.specs.declared.expression.Expression.{Expression}
use Rattle.trace_replay.specs.declared.expression.Expression.TheOpen.{Expression-F}
use Rattle.trace_replay.specs.declared.expression.Expression.TheFolds.{fold-Expression}

-- a wire of one bit; bit i of PADDR is its address's
abbrev pub wire_value : Wire → Pins → Bool
wire_value ResetN pins = pins.reset_n
wire_value Select pins = pins.bus.select
wire_value Enable pins = pins.bus.enable
wire_value Write pins = pins.bus.write
wire_value Address0 pins = pins.bus.address % 2 == 1
wire_value Address1 pins = pins.bus.address / 2 % 2 == 1

-- two numbers of eight bits, bit by bit
abbrev pub combined : Operator → ℕ → ℕ → ℕ
combined And left right = bit_and left right
combined Or left right = bit_or left right
combined Xor left right = bit_xor left right

-- a hexadecimal digit, in either case
abbrev pub digit_value : ℕ → ℕ
digit_value byte =
    if nat_le 0x30 byte && nat_le byte 0x39 then byte - 0x30
    else if nat_le 0x41 byte && nat_le byte 0x46 then byte - 0x41 + 10
    else if nat_le 0x61 byte && nat_le byte 0x66 then byte - 0x61 + 10
    else 0

-- the value of each form, of its parts' values
abbrev pub value_layer : Pins → ℕ → Expression-F ℕ → ℕ
value_layer pins register Expression-F.Register = register
value_layer pins register Expression-F.WriteData = pins.bus.payload % 256
value_layer pins register (Expression-F.Repeated wire) = if wire_value wire pins then 255 else 0
value_layer pins register (Expression-F.Constant high low) = 16 * digit_value high + digit_value low
value_layer pins register (Expression-F.Not inner) = 255 - inner
value_layer pins register (Expression-F.Pair operator left right) = combined operator left right

-- the value of an expression at these pins, where the register holds this number
unfoldable pub expression_value : Expression → Pins → ℕ → ℕ
expression_value expression pins register = fold-Expression ℕ (value_layer pins register) expression
