use Rattle.std.proofs.Common.{◌≡◌, drop}
use Rattle.bit_base.specs.Numbers.{number_of}
use Rattle.bit_words.proofs.numbers.ceiling_of_logarithm.Given as goal

abbrev pub invariant-loop-i : goal.invariant-loop-i
invariant-loop-i l = number_of (drop l.i l.a) ≡ 0
