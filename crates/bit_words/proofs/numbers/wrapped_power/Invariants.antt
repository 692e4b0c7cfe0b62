use Rattle.std.proofs.Common.{◌≡◌, ◌^◌, ◌%◌, drop}
use Rattle.bit_base.specs.Numbers.{number_of}
use Rattle.bit_words.proofs.numbers.wrapped_power.Given as goal

abbrev pub invariant-loop-i : goal.invariant-loop-i
invariant-loop-i l = l.power ≡ l.base ^ number_of (drop l.i l.exponent) % 2 ^ 128
