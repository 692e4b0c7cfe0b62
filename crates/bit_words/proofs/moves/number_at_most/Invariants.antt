use Rattle.std.proofs.Common.{◌≡◌, drop, min}
use Rattle.bit_base.specs.Numbers.{number_of}
use Rattle.bit_words.proofs.moves.number_at_most.Given as goal

abbrev pub invariant-loop-i : goal.invariant-loop-i
invariant-loop-i l = l.number ≡ min (number_of (drop l.i l.bits)) l.limit
